-- The loop of `all_tables`: the files that are left are fresh.
use Rattle.std.proofs.Common.{drop, map}
use Rattle.bufr_io.specs.Readers.{AreFresh}
use Rattle.bufr_select_engine.proofs.command.all_tables.Given as goal

-- nobody has read the next files
abbrev pub invariant-loop-index : goal.invariant-loop-index
invariant-loop-index g l = record {
  b : AreFresh (drop l.index (map g.S.Source.reading l.b));
  d : AreFresh (drop l.index (map g.S.Source.reading l.d));
}
