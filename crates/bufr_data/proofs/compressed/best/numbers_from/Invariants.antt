use Rattle.std.proofs.Common.{◌≡◌, map, take}
use Rattle.bufr_data.specs.Compressed.Places.{rows_from, values_from}
use Rattle.bufr_fields.specs.Forms.{number_of}
use Rattle.bufr_data.proofs.compressed.best.numbers_from.Given as goal

-- the numbers of the field and of the subsets read
abbrev pub invariant-loop-other : goal.invariant-loop-other
invariant-loop-other l =
    l.numbers.items
    ≡ map number_of (values_from l.field (rows_from l.place (take l.other-index l.others)))
