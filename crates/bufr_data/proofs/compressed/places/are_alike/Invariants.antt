use Rattle.std.proofs.Common.{◌≡◌, true, take, drop}
use Rattle.std.specs.List.{list_all}
use Rattle.bufr_fields.specs.declared.field.Subset.{Subset}
use Rattle.bufr_data.specs.Compressed.Best.{begins_like}
use Rattle.bufr_data.proofs.compressed.places.are_alike.Given as goal

-- every subset checked has a field of this descriptor and spec
abbrev pub invariant-loop-other : goal.invariant-loop-other
invariant-loop-other l =
    list_all (λ (s : Subset). begins_like l.field (drop l.place s.fields))
    (take l.other-index l.others) ≡ true
