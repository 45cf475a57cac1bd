use Rattle.std.proofs.Common.{map}
use Rattle.bufr_engines.proofs.CollectFacts.{AddedThrough}
use Rattle.bufr_engines.proofs.streams.add_streams.Given as goal

-- the archive has the streams of the readers so far
abbrev pub invariant-loop-index : goal.invariant-loop-index
invariant-loop-index g l =
    AddedThrough l.initial.builder.tables l.reads (map g.S.Source.reading l.initial.readers)
    (map g.S.Source.reading l.readers) l.builder l.counts l.index
