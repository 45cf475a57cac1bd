use Rattle.std.proofs.Common.{◌≡◌, true, take, drop}
use Rattle.std.specs.List.{list_all}
use Rattle.bufr_fields.specs.declared.field.Subset.{Subset}
use Rattle.bufr_data.specs.Compressed.Best.{is_empty}
use Rattle.bufr_data.proofs.compressed.places.have_ended.Given as goal

-- every subset checked has ended
abbrev pub invariant-loop-other : goal.invariant-loop-other
invariant-loop-other l =
    list_all (λ (s : Subset). is_empty (drop l.place s.fields)) (take l.other-index l.others) ≡ true
