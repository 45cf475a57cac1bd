use Rattle.std.proofs.Common.{length}
use Rattle.bufr_engines.proofs.HandOnFacts.{Handed}
use Rattle.bufr_engines.proofs.parts.write_merged.Given as goal

-- the entries before those left are written or gathered
abbrev pub invariant-loop-octets : goal.invariant-loop-octets
invariant-loop-octets g l =
    Handed (g.W.Sink.writing l.initial.writer) (g.W.Sink.writing l.writer) l.pending l.initial.left
    l.left

abbrev pub decreases-loop-octets : goal.decreases-loop-octets
decreases-loop-octets g l = length l.left
