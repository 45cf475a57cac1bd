-- The loop of `view_version`: the pairs so far do not read the version.
use Rattle.std.proofs.Common.{◌≡◌, drop}
use Rattle.bufr_select_rows.specs.Pairs.{first_reading}
use Rattle.bufr_select_rows.proofs.pairs.view_version.Given as goal

-- no pair changed, and the first that reads the version is among those that are left
abbrev pub invariant-loop-pair : goal.invariant-loop-pair
invariant-loop-pair l = record {
  same : l.pairs ≡ l.initial.pairs;
  first : first_reading l.version (drop l.pair-index l.initial.pairs)
      ≡ first_reading l.version l.initial.pairs;
}
