use Rattle.std.proofs.Common.{◌≡◌, take}
use Rattle.bufr_data.specs.Compressed.Best.{present}
use Rattle.bufr_data.specs.Compressed.Places.{least_of}
use Rattle.bufr_data.proofs.compressed.best.least_present.Given as goal

-- the least of the numbers read that are not missing, if any
abbrev pub invariant-loop-number : goal.invariant-loop-number
invariant-loop-number l = l.found ≡ least_of (present l.width (take l.number-index l.numbers))
