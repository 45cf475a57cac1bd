-- Frame by frame, until `next_frame` hands out none.
use Rattle.std.proofs.Common.{◌≡◌, ◌++◌, ◌∷◌, [], List, None, arith, length-append}
use Rattle.bufr_frame.specs.declared.frames.Found.{Found}
use Rattle.bufr_frame.specs.Streams.{sure}
use Rattle.bufr_frame.specs.NextFrameLaws.{between_fed}
use Rattle.bufr_io.specs.declared.fault.ToolFault.{ToolFault}
use Rattle.bufr_io.specs.Taking.{frame_at, TakesPiece}
use Rattle.bufr_io.proofs.TakingFacts.{amid_first, amid_few, amid_within, amid_more, hands}
use Rattle.bufr_io.specs.PassingLaws.{passed}
use Rattle.bufr_io.proofs.TakingFacts.{amid_stopped, err_of, ok_of, piece_ends}
use Rattle.bufr_io.proofs.TakingFacts.{piece_short}
use Rattle.bufr_io.proofs.taking.take_piece.Goals as goal

pub next_frame-requires : goal.next_frame-requires
next_frame-requires g c =
    let s = c.requires.so_far in
    let a = c.loop-found.invariant s.0 s.1 s.2 s.3 in
    let fed = between_fed _ _ _ _ a.taking in
    let whole = length-append s.2 c.args.piece.now in
    let start = s.3.handed.stands.fed in
    let room = c.requires.room in
    omega arith

pub loop-found-init : goal.loop-found-init
loop-found-init g c first begin stream h = amid_first _ _ stream c.args.piece.now h

pub halt-requires : goal.halt-requires
halt-requires g c =
    let s = c.requires.so_far in
    let a = c.loop-found.invariant s.0 s.1 s.2 s.3 in
    let short = piece_short _ s.2 c.args.piece.now _ s.3.handed.stands c.requires.room in
    (s.0, s.1, a.frames, a.taken, amid_few _ _ _ _ a.taking short)

pub returns-in_default : goal.returns-in_default
returns-in_default g c first begin stream h =
    let a = c.loop-found.invariant first begin stream h in
    amid_stopped _ _ _ _ a.frames c.halt.result a.taking (c.halt.ensures first begin a.frames a.taken)

pub end_piece-requires : goal.end_piece-requires
end_piece-requires g c =
    let s = c.requires.so_far in
    let a = c.loop-found.invariant s.0 s.1 s.2 s.3 in
    let short = piece_short _ s.2 c.args.piece.now _ s.3.handed.stands c.requires.room in
    (s.0, s.1, a.frames, a.taken, amid_few _ _ _ _ a.taking short)

pub returns-in_default-found : goal.returns-in_default-found
returns-in_default-found g c first begin stream h =
    let e : c.in-Ok.field-0.found ≡ None = c.in_default-found.is in
    let a = c.loop-found.invariant first begin stream h in
    piece_ends _
    (g.T.TakesFrames.HasTaken first begin c.end_piece.new.self c.end_piece.new.out) _
    (g.T.TakesFrames.HasStopped first begin c.end_piece.new.self c.end_piece.new.out) _ _ _ _
    c.end_piece.result a (c.in-Ok.ensures.none e) (c.in-Ok.ensures.waits e)
    (ok_of _ _ _ c.end_piece.ensures.taken (λ
    (all : (f : g.row.T.Denot) (b : g.row.O.Denot) (fs : List Found)
    → g.T.TakesFrames.HasTaken f b c.loop-found.taker c.loop-found.out fs
    → g.T.TakesFrames.HasTaken f b c.end_piece.new.self c.end_piece.new.out fs).
    all first begin a.frames a.taken))
    c.end_piece.ensures.none
    (err_of _ _ _ c.end_piece.ensures.stopped (λ
    (fault : ToolFault) (all : (f : g.row.T.Denot) (b : g.row.O.Denot) (fs : List Found)
    → g.T.TakesFrames.HasTaken f b c.loop-found.taker c.loop-found.out fs
    → g.T.TakesFrames.HasStopped f b c.end_piece.new.self c.end_piece.new.out fs fault).
    all first begin a.frames a.taken))

pub take_frame-requires : goal.take_frame-requires
take_frame-requires g c =
    let s = c.requires.so_far in
    let a = c.loop-found.invariant s.0 s.1 s.2 s.3 in
    let short = piece_short _ s.2 c.args.piece.now _ s.3.handed.stands c.requires.room in
    let handed = hands _ _ _ _ _ _ _ _ c.in-Some.is c.place.ensures c.as_slice.ensures
    c.in-Ok.ensures.rest c.in-Ok.ensures.frame c.in-Ok.ensures.next in
    (s.0, s.1, a.frames, a.taken, amid_few _ _ _ _ (handed _ a.frames a.taking) short)

pub returns-in_err-take_frame : goal.returns-in_err-take_frame
returns-in_err-take_frame g c first begin stream h =
    let a = c.loop-found.invariant first begin stream h in
    let handed = hands _ _ _ _ _ _ _ _ c.in-Some.is c.place.ensures c.as_slice.ensures
    c.in-Ok.ensures.rest c.in-Ok.ensures.frame c.in-Ok.ensures.next in
    passed
    (TakesPiece (g.T.TakesFrames.HasTaken first begin c.take_frame.new.self c.take_frame.new.out)
    (g.T.TakesFrames.HoldsNone c.take_frame.new.self c.take_frame.new.out)
    (g.T.TakesFrames.HasStopped first begin c.take_frame.new.self c.take_frame.new.out)
    c.next_frame.new.self (stream ++ c.args.piece.now))
    c.from_residual.result c.in_err-take_frame.field-0.0 c.from_residual.ensures.1
    (amid_stopped _ _ _ _ _ c.in_err-take_frame.field-0.0
    (handed (stream ++ c.args.piece.now) a.frames a.taking)
    (c.in_err-take_frame.ensures.stopped first begin a.frames a.taken))

pub loop-found-preserved : goal.loop-found-preserved
loop-found-preserved g c first begin stream h =
    let a = c.loop-found.invariant first begin stream h in
    amid_more _ (g.T.TakesFrames.HasTaken first begin c.take_frame.new.self c.take_frame.new.out)
    _ _ _ _ _ (frame_at c.place.result c.as_slice.result.now) a
    (hands _ _ _ _ _ _ _ _ c.in-Some.is c.place.ensures c.as_slice.ensures
    c.in-Ok.ensures.rest c.in-Ok.ensures.frame c.in-Ok.ensures.next)
    (c.in_ok-take_frame.ensures.taken first begin a.frames a.taken)

pub loop-found-preserved-in_ok-take_frame : goal.loop-found-preserved-in_ok-take_frame
loop-found-preserved-in_ok-take_frame g c first begin stream h =
    let a = c.loop-found.invariant first begin stream h in
    amid_more _ (g.T.TakesFrames.HasTaken first begin c.take_frame.new.self c.take_frame.new.out)
    _ _ _ _ _ (frame_at c.place.result c.as_slice.result.now) a
    (hands _ _ _ _ _ _ _ _ c.in-Some.is c.place.ensures c.as_slice.ensures
    c.in-Ok.ensures.rest c.in-Ok.ensures.frame c.in-Ok.ensures.next)
    (c.in_ok-take_frame.ensures.taken first begin a.frames a.taken)

pub loop-found-smaller : goal.loop-found-smaller
loop-found-smaller g c =
    let s = c.requires.so_far in
    let a = c.loop-found.invariant s.0 s.1 s.2 s.3 in
    let all = s.2 ++ c.args.piece.now in
    let frame = frame_at c.place.result c.as_slice.result.now in
    let handed = hands _ _ _ _ _ _ _ _ c.in-Some.is c.place.ensures c.as_slice.ensures
    c.in-Ok.ensures.rest c.in-Ok.ensures.frame c.in-Ok.ensures.next in
    let law = g.met.T.TakesFrames.counts_each in
    let start = law _ _ _ _ (sure s.2) s.3.taken in
    let now = law _ _ _ _ a.frames a.taken in
    let more = law _ _ _ _ (a.frames ++ frame ∷ [])
    (c.in_ok-take_frame.ensures.taken s.0 s.1 a.frames a.taken) in
    let within = amid_within _ all _ (a.frames ++ frame ∷ []) (handed all a.frames a.taking) in
    let one = length-append a.frames (frame ∷ []) in
    let whole = length-append s.2 c.args.piece.now in
    let fed = s.3.handed.stands.fed in
    omega arith

pub loop-found-smaller-in_ok-take_frame : goal.loop-found-smaller-in_ok-take_frame
loop-found-smaller-in_ok-take_frame g c =
    let s = c.requires.so_far in
    let a = c.loop-found.invariant s.0 s.1 s.2 s.3 in
    let all = s.2 ++ c.args.piece.now in
    let frame = frame_at c.place.result c.as_slice.result.now in
    let handed = hands _ _ _ _ _ _ _ _ c.in-Some.is c.place.ensures c.as_slice.ensures
    c.in-Ok.ensures.rest c.in-Ok.ensures.frame c.in-Ok.ensures.next in
    let law = g.met.T.TakesFrames.counts_each in
    let start = law _ _ _ _ (sure s.2) s.3.taken in
    let now = law _ _ _ _ a.frames a.taken in
    let more = law _ _ _ _ (a.frames ++ frame ∷ [])
    (c.in_ok-take_frame.ensures.taken s.0 s.1 a.frames a.taken) in
    let within = amid_within _ all _ (a.frames ++ frame ∷ []) (handed all a.frames a.taking) in
    let one = length-append a.frames (frame ∷ []) in
    let whole = length-append s.2 c.args.piece.now in
    let fed = s.3.handed.stands.fed in
    omega arith
