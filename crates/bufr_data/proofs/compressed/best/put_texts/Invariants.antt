use Rattle.std.proofs.Common.{◌≡◌, ◌++◌, map, take}
use Rattle.std.specs.Prelude.{replicate}
use Rattle.std.specs.List.{flat_map}
use Rattle.bufr_bits.specs.Bits.{bin, bits}
use Rattle.bufr_data.specs.Compressed.Best.{octets_of}
use Rattle.bufr_data.specs.Compressed.Places.{rows_from, values_from}
use Rattle.bufr_data.proofs.compressed.best.put_texts.Given as goal

-- the sink has the minimum, the width, and the texts of the subsets read
abbrev pub invariant-loop-other : goal.invariant-loop-other
invariant-loop-other l =
    l.sink ≡ l.fn.sink ++ (bits (replicate (l.octets) 0) ++ bin 6 l.octets
    ++ flat_map bits
    (map octets_of (values_from l.fn.field (rows_from l.place (take l.other-index l.others)))))
