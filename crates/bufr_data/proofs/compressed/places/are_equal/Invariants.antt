use Rattle.std.proofs.Common.{◌≡◌, true, take, drop}
use Rattle.std.specs.List.{list_all}
use Rattle.bufr_fields.specs.declared.field.Subset.{Subset}
use Rattle.bufr_data.specs.Compressed.Best.{first_raw}
use Rattle.bufr_data.specs.Compressed.Reading.{same_raw}
use Rattle.bufr_data.proofs.compressed.places.are_equal.Given as goal

-- every subset checked has this value
abbrev pub invariant-loop-other : goal.invariant-loop-other
invariant-loop-other l =
    list_all (λ (s : Subset). same_raw (first_raw (drop l.place s.fields)) l.raw)
    (take l.other-index l.others) ≡ true
