-- The clause of `halt`: what is held was written, or the writer failed.
use Rattle.bufr_ls_engine.proofs.ListingFacts.{listing_stopped}
use Rattle.bufr_ls_engine.proofs.frames.ListerTakesFrames.halt.Goals as goal

-- memory ran out after some frames
pub returns : goal.returns
returns g c first begin frames h =
    listing_stopped first (g.W.Sink.writing begin) c.args.self.now
    (g.W.Sink.writing c.args.out.now) (g.W.Sink.writing c.stop.new.writer) frames c.stop.result h
    c.stop.ensures
