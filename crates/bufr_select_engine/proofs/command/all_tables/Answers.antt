-- Pair by pair, nobody has read the files.
use Rattle.std.proofs.Common.{◌<◌, length, arith}
use Rattle.bufr_select_engine.proofs.FileFacts.{fresh_at, fresh_behind}
use Rattle.bufr_select_engine.proofs.command.all_tables.Goals as goal

pub load_tables-requires-clause-fresh_b : goal.load_tables-requires-clause-fresh_b
load_tables-requires-clause-fresh_b g c =
    let inside : c.loop-index.index < length c.loop-index.b = omega arith in
    fresh_at g.S.Source.reading c.loop-index.b c.loop-index.index c.index-b-index.result inside
    c.loop-index.invariant.b

pub load_tables-requires-clause-fresh_d : goal.load_tables-requires-clause-fresh_d
load_tables-requires-clause-fresh_d g c =
    let inside : c.loop-index.index < length c.loop-index.d = omega arith in
    fresh_at g.S.Source.reading c.loop-index.d c.loop-index.index c.index-d-index.result inside
    c.loop-index.invariant.d

pub loop-index-preserved : goal.loop-index-preserved
loop-index-preserved g c = record {
  b = fresh_behind g.S.Source.reading c.loop-index.b c.loop-index.index c.load_tables.new.b
      c.loop-index.invariant.b;
  d = fresh_behind g.S.Source.reading c.loop-index.d c.loop-index.index c.load_tables.new.d
      c.loop-index.invariant.d;
}
