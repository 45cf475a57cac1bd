use Rattle.std.proofs.Common.{◌≡◌}
use Rattle.bufr_data.specs.Compressed.{subsets_from}
use Rattle.bufr_data.proofs.compressed.index.all_subsets.Given as goal

-- the subsets below the index
abbrev pub invariant-loop-index : goal.invariant-loop-index
invariant-loop-index l = l.subsets.items ≡ subsets_from 0 l.index l.columns.columns
