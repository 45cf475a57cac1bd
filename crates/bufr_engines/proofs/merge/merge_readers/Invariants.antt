use Rattle.std.proofs.Common.{map}
use Rattle.bufr_engines.specs.Stacks.{together, AreUnderTables}
use Rattle.bufr_engines.proofs.CollectFacts.{MergedThrough}
use Rattle.bufr_engines.proofs.merge.merge_readers.Given as goal

-- the stack holds the archives of the readers so far
abbrev pub invariant-loop-index : goal.invariant-loop-index
invariant-loop-index g l =
    AreUnderTables l.tables l.texts.items
    × MergedThrough l.tables l.reads (map g.S.Source.reading l.initial.readers)
    (map g.S.Source.reading l.readers) (together l.tables l.texts.items) l.index
