use Rattle.std.proofs.Common.{◌≡◌, ◌++◌, map, take}
use Rattle.std.specs.List.{flat_map}
use Rattle.bufr_bits.specs.Bits.{bin}
use Rattle.bufr_data.specs.Compressed.Best.{increment_of}
use Rattle.bufr_data.proofs.compressed.best.put_numbers.Given as goal

-- the sink has the minimum, the width, and the increments of the numbers read
abbrev pub invariant-loop-number : goal.invariant-loop-number
invariant-loop-number l =
    l.sink ≡ l.fn.sink ++ (bin l.width l.minimum ++ bin 6 l.k
    ++ flat_map (bin l.k)
    (map (increment_of l.width l.minimum l.k) (take l.number-index l.numbers)))
