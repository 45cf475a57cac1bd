use Rattle.std.proofs.Common.{◌≡◌, take}
use Rattle.bufr_data.specs.Compressed.Best.{greatest, present}
use Rattle.bufr_data.proofs.compressed.best.greatest_present.Given as goal

-- the greatest of the numbers read that are not missing, or 0
abbrev pub invariant-loop-number : goal.invariant-loop-number
invariant-loop-number l = l.found ≡ greatest (present l.width (take l.number-index l.numbers))
