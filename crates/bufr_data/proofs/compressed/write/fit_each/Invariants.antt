use Rattle.std.proofs.Common.{◌≡◌, ◌+◌, drop}
use Rattle.bufr_data.specs.Data.{each_fits}
use Rattle.bufr_data.proofs.compressed.write.fit_each.Given as goal

-- the subsets from the next one on decide for all
abbrev pub invariant-loop-index : goal.invariant-loop-index
invariant-loop-index l =
    each_fits l.template 1 l.subsets ≡ each_fits l.template (l.index + 1) (drop l.index l.subsets)
