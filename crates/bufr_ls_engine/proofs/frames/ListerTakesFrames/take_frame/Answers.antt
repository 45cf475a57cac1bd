-- The clauses of `take_frame`: the row of the frame is held, or listing stopped before it.
use Rattle.std.proofs.Common.{◌∷◌, ◌++◌, [], refl, arith, length-append}
use Rattle.bufr_io.specs.Taking.{frame_at}
use Rattle.bufr_ls_engine.proofs.ListingFacts.{listed_more, listing_stopped, refused_few}
use Rattle.bufr_ls_engine.proofs.ListingFacts.{stops_further, unchanged}
use Rattle.bufr_ls_engine.proofs.frames.ListerTakesFrames.take_frame.Goals as goal

-- one refusal more can be counted
pub hold_frame-requires-clause-refused : goal.hold_frame-requires-clause-refused
hold_frame-requires-clause-refused g c =
    let s = c.requires in
    let frame = frame_at c.args.place c.args.octets.now in
    omega (
      arith,
      s.3.refused_are,
      refused_few s.2,
      s.4.count,
      length-append s.2 (frame ∷ []),
    )

-- one frame more is listed
pub returns-in-Ok-clause-taken : goal.returns-in-Ok-clause-taken
returns-in-Ok-clause-taken g c first begin frames h =
    listed_more first (g.W.Sink.writing begin) c.args.self.now c.hold_frame.new.self
    (g.W.Sink.writing c.args.out.now) frames (frame_at c.args.place c.args.octets.now) h
    c.in-Ok.ensures.ok

-- or memory ran out before its row was held
pub returns-in-Err-clause-stopped : goal.returns-in-Err-clause-stopped
returns-in-Err-clause-stopped g c first begin frames h =
    let frame = frame_at c.args.place c.args.octets.now in
    stops_further first.columns.now first.input first.rows.written frames (frame ∷ [])
    (frames ++ frame ∷ []) (g.W.Sink.writing begin) (g.W.Sink.writing c.stop.new.writer)
    c.stop.result refl
    (listing_stopped first (g.W.Sink.writing begin) c.hold_frame.new.self
    (g.W.Sink.writing c.args.out.now) (g.W.Sink.writing c.stop.new.writer) frames c.stop.result
    (unchanged first (g.W.Sink.writing begin) c.args.self.now c.hold_frame.new.self
    (g.W.Sink.writing c.args.out.now) frames h c.in-Err.ensures.err)
    c.stop.ensures)
