-- The clauses of `end_piece`: what is held was written, or the writer failed.
use Rattle.bufr_ls_engine.proofs.ListingFacts.{held_taken, held_stopped}
use Rattle.bufr_ls_engine.proofs.frames.ListerTakesFrames.end_piece.Goals as goal

-- the frames are listed still
pub returns-clause-taken : goal.returns-clause-taken
returns-clause-taken g c =
    held_taken g.W.Sink.writing c.args.self.now c.write.new.self
    (g.W.Sink.writing c.args.out.now) (g.W.Sink.writing c.write.new.writer)
    c.write.result c.write.ensures.writes

-- or the writer failed
pub returns-clause-stopped : goal.returns-clause-stopped
returns-clause-stopped g c =
    held_stopped g.W.Sink.writing c.args.self.now c.write.new.self
    (g.W.Sink.writing c.args.out.now) (g.W.Sink.writing c.write.new.writer)
    c.write.result c.write.ensures.writes
