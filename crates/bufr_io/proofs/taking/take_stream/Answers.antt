-- Piece by piece, until none is left or the taker stops; then the frames that come with the end.
use Rattle.std.proofs.Common.{◌≤◌, ◌^◌, ◌+◌, ◌++◌, List, length, ap, sym, ◌∙◌, subst, arith}
use Rattle.std.proofs.Common.{take, drop, length-append}
use Rattle.std.proofs.lemmas.List.{take_all}
use Rattle.bufr_frame.specs.declared.frames.Found.{Found}
use Rattle.bufr_frame.specs.Streams.{sure}
use Rattle.bufr_frame.specs.NextFrameLaws.{handed_end}
use Rattle.bufr_io.specs.Taking.{frame_at, unread, at_piece, at_end, AreFew, TakesStream}
use Rattle.bufr_io.specs.PassingLaws.{passed}
use Rattle.bufr_io.proofs.TakingFacts.{nothing_read, unread_bounded, few_cut, few_sure, few_first}
use Rattle.bufr_io.proofs.TakingFacts.{rest_stopped, item_is, parted_at, taken_to}
use Rattle.bufr_io.proofs.taking.take_stream.Goals as goal

pub loop-framer-init : goal.loop-framer-init
loop-framer-init g c =
    nothing_read _ _ _ _ _ _ c.requires.fresh c.new-framer.ensures.starts c.requires.none_taken
    c.requires.none_held

pub returns-in_err-piece-clause-bounded : goal.returns-in_err-piece-clause-bounded
returns-in_err-piece-clause-bounded g c =
    unread_bounded c.args.name c.args.reads (g.S.Source.reading c.args.reader.now)
    (g.S.Source.reading c.next.new.reader) c.next.new.self _ _
    (c.in_err-piece.ensures.reads _ _ _ _ c.loop-framer.invariant.so_far)

pub returns-in_err-piece-clause-takes : goal.returns-in_err-piece-clause-takes
returns-in_err-piece-clause-takes g c =
    let b = c.loop-framer.invariant in
    passed
    (TakesStream
    (g.T.TakesFrames.HasTaken c.args.taker.now c.args.out.now c.loop-framer.taker
    c.loop-framer.out)
    (g.T.TakesFrames.HoldsNone c.loop-framer.taker c.loop-framer.out)
    (g.T.TakesFrames.HasStopped c.args.taker.now c.args.out.now c.loop-framer.taker
    c.loop-framer.out)
    c.args.name c.args.reads (g.S.Source.reading c.args.reader.now)
    (g.S.Source.reading c.next.new.reader))
    c.from_residual.result c.in_err-piece.field-0.0 c.from_residual.ensures.1
    (unread c.next.new.self b.read (c.in_err-piece.ensures.reads _ _ _ _ b.so_far)
    b.sure_taken.taken b.none)

pub take_piece-requires-clause-so_far : goal.take_piece-requires-clause-so_far
take_piece-requires-clause-so_far g c =
    let b = c.loop-framer.invariant in (c.args.taker.now, c.args.out.now, b.read, b.sure_taken)

pub take_piece-requires-clause-room : goal.take_piece-requires-clause-room
take_piece-requires-clause-room g c =
    let b = c.loop-framer.invariant in
    let fed = b.sure_taken.handed.stands.fed in
    let more = (rw c.in-Some.is at (c.in_ok-piece.ensures.reads _ _ _ _ b.so_far)).0 in
    let whole = length-append b.read c.in-Some.piece.now in
    let short = more.short in
    let allowed = more.allowed in
    let few = c.requires.few in
    omega arith

pub loop-framer-preserved : goal.loop-framer-preserved
loop-framer-preserved g c =
    let b = c.loop-framer.invariant in
    let more = rw c.in-Some.is at (c.in_ok-piece.ensures.reads _ _ _ _ b.so_far) in
    let e = c.in_ok-take_piece.ensures c.args.taker.now c.args.out.now b.read b.sure_taken in
    record {
      read = b.read ++ c.in-Some.piece.now;
      so_far = more.0;
      counted = omega (arith, b.counted, length-append b.read c.in-Some.piece.now);
      sure_taken = e.0;
      none = e.1;
    }

pub returns-in_err-take_piece-clause-bounded : goal.returns-in_err-take_piece-clause-bounded
returns-in_err-take_piece-clause-bounded g c =
    let b = c.loop-framer.invariant in
    let more = rw c.in-Some.is at (c.in_ok-piece.ensures.reads _ _ _ _ b.so_far) in
    let made = more.0.goes_on.reads in
    let allowed = more.0.allowed in
    omega arith

pub returns-in_err-take_piece-clause-takes : goal.returns-in_err-take_piece-clause-takes
returns-in_err-take_piece-clause-takes g c =
    let b = c.loop-framer.invariant in
    let more = rw c.in-Some.is at (c.in_ok-piece.ensures.reads _ _ _ _ b.so_far) in
    passed
    (TakesStream
    (g.T.TakesFrames.HasTaken c.args.taker.now c.args.out.now c.take_piece.new.taker
    c.take_piece.new.out)
    (g.T.TakesFrames.HoldsNone c.take_piece.new.taker c.take_piece.new.out)
    (g.T.TakesFrames.HasStopped c.args.taker.now c.args.out.now c.take_piece.new.taker
    c.take_piece.new.out)
    c.args.name c.args.reads (g.S.Source.reading c.args.reader.now)
    (g.S.Source.reading c.next.new.reader))
    c.from_residual-in_err-take_piece.result c.in_err-take_piece.field-0.0
    c.from_residual-in_err-take_piece.ensures.1
    (at_piece (b.read ++ c.in-Some.piece.now) _ more.0.goes_on
    (c.in_err-take_piece.ensures c.args.taker.now c.args.out.now b.read b.sure_taken))

pub overflow_add-length : goal.overflow_add-length
overflow_add-length g c =
    let b = c.loop-framer.invariant in
    let more = (rw c.in-Some.is at (c.in_ok-piece.ensures.reads _ _ _ _ b.so_far)).0 in
    let whole = length-append b.read c.in-Some.piece.now in
    let counted = b.counted in
    let short = more.short in
    let allowed = more.allowed in
    let few = c.requires.few in
    omega arith

-- ---- the end

pub halt-requires : goal.halt-requires
halt-requires g c =
    let b = c.loop-framer.invariant in
    let short : length b.read ≤ 2 ^ 48 =
    omega (arith, b.so_far.short, b.so_far.allowed, c.requires.few) in
    (c.args.taker.now, c.args.out.now, sure b.read, b.sure_taken.taken, few_sure b.read short)

pub returns-in_default-finish-clause-bounded : goal.returns-in_default-finish-clause-bounded
returns-in_default-finish-clause-bounded g c =
    let b = c.loop-framer.invariant in
    let ends = rw c.in_default.is at (c.in_ok-piece.ensures.reads _ _ _ _ b.so_far) in ends.3

pub returns-in_default-finish-clause-takes : goal.returns-in_default-finish-clause-takes
returns-in_default-finish-clause-takes g c =
    let b = c.loop-framer.invariant in
    let ends = rw c.in_default.is at (c.in_ok-piece.ensures.reads _ _ _ _ b.so_far) in
    at_end b.read ends.0 ends.1 ends.2
    (rest_stopped _ b.read c.halt.result
    (c.halt.ensures c.args.taker.now c.args.out.now (sure b.read) b.sure_taken.taken))

pub take_frame-requires : goal.take_frame-requires
take_frame-requires g c =
    let b = c.loop-framer.invariant in
    let short : length b.read ≤ 2 ^ 48 =
    omega (arith, b.so_far.short, b.so_far.allowed, c.requires.few) in
    let frames = c.deref-frame-items.result.now in
    let i = c.loop-frame.frame-index in
    let frame = frame_at c.frame-item.result.place c.as_slice.result.now in
    let is = item_is frames i c.frame-item.result c.as_slice.result.now c.as_slice.ensures
    c.frame-item.is in
    let found = c.in-Ok.ensures.found b.read (length (sure b.read)) b.sure_taken.handed.stands in
    let whole =
    ap (λ (fs : List Found). sure b.read ++ fs) c.deref-frame-items.ensures.value
    ∙ handed_end _ b.read (sure b.read) _ b.sure_taken.handed found in (
      c.args.taker.now,
      c.args.out.now,
      sure b.read ++ take i frames,
      c.loop-frame.invariant (sure b.read) b.sure_taken.taken,
      few_first _ _ (drop (i + 1) frames)
          (parted_at frames i frame (sure b.read) c.loop-frame-test.true is)
          (subst AreFew (sym whole) (few_cut b.read short)),
    )

pub loop-frame-preserved : goal.loop-frame-preserved
loop-frame-preserved g c before h =
    let frames = c.deref-frame-items.result.now in
    let i = c.loop-frame.frame-index in
    let frame = frame_at c.frame-item.result.place c.as_slice.result.now in
    let is = item_is frames i c.frame-item.result c.as_slice.result.now c.as_slice.ensures
    c.frame-item.is in
    subst
    (g.T.TakesFrames.HasTaken c.args.taker.now c.args.out.now c.take_frame.new.self
    c.take_frame.new.out)
    (taken_to frames i frame before c.loop-frame-test.true is)
    (c.in_ok-take_frame.ensures.taken c.args.taker.now c.args.out.now (before ++ take i frames)
    (c.loop-frame.invariant before h))

pub returns-in_err-take_frame-clause-bounded : goal.returns-in_err-take_frame-clause-bounded
returns-in_err-take_frame-clause-bounded g c =
    let b = c.loop-framer.invariant in
    let ends = rw c.in_default.is at (c.in_ok-piece.ensures.reads _ _ _ _ b.so_far) in ends.3

pub returns-in_err-take_frame-clause-takes : goal.returns-in_err-take_frame-clause-takes
returns-in_err-take_frame-clause-takes g c =
    let b = c.loop-framer.invariant in
    let ends = rw c.in_default.is at (c.in_ok-piece.ensures.reads _ _ _ _ b.so_far) in
    let frames = c.deref-frame-items.result.now in
    let i = c.loop-frame.frame-index in
    let frame = frame_at c.frame-item.result.place c.as_slice.result.now in
    let is = item_is frames i c.frame-item.result c.as_slice.result.now c.as_slice.ensures
    c.frame-item.is in
    let found = c.in-Ok.ensures.found b.read (length (sure b.read)) b.sure_taken.handed.stands in
    let whole =
    ap (λ (fs : List Found). sure b.read ++ fs) c.deref-frame-items.ensures.value
    ∙ handed_end _ b.read (sure b.read) _ b.sure_taken.handed found in
    passed
    (TakesStream
    (g.T.TakesFrames.HasTaken c.args.taker.now c.args.out.now c.take_frame.new.self
    c.take_frame.new.out)
    (g.T.TakesFrames.HoldsNone c.take_frame.new.self c.take_frame.new.out)
    (g.T.TakesFrames.HasStopped c.args.taker.now c.args.out.now c.take_frame.new.self
    c.take_frame.new.out)
    c.args.name c.args.reads (g.S.Source.reading c.args.reader.now)
    (g.S.Source.reading c.next.new.reader))
    c.from_residual-in_err-take_frame.result c.in_err-take_frame.field-0.0
    c.from_residual-in_err-take_frame.ensures.1
    (at_end b.read ends.0 ends.1 ends.2 (record {
      front = _;
      rest = drop (i + 1) frames;
      parted = sym whole ∙ parted_at frames i frame (sure b.read) c.loop-frame-test.true is;
      stopped =
          c.in_err-take_frame.ensures.stopped c.args.taker.now c.args.out.now
          (sure b.read ++ take i frames) (c.loop-frame.invariant (sure b.read) b.sure_taken.taken);
    }))

pub returns-clause-bounded : goal.returns-clause-bounded
returns-clause-bounded g c =
    let b = c.loop-framer.invariant in
    let ends = rw c.in_default.is at (c.in_ok-piece.ensures.reads _ _ _ _ b.so_far) in ends.3

pub returns-clause-takes : goal.returns-clause-takes
returns-clause-takes g c =
    let b = c.loop-framer.invariant in
    let ends = rw c.in_default.is at (c.in_ok-piece.ensures.reads _ _ _ _ b.so_far) in
    let found = c.in-Ok.ensures.found b.read (length (sure b.read)) b.sure_taken.handed.stands in
    let whole =
    ap (λ (fs : List Found). sure b.read ++ fs) c.deref-frame-items.ensures.value
    ∙ handed_end _ b.read (sure b.read) _ b.sure_taken.handed found in
    let short = b.so_far.short in
    let most = ends.4 in
    let counts = c.in_ok-piece.ensures.counts in (
      ends.0,
      b.read,
      ends.1,
      ends.2,
      subst
          (g.T.TakesFrames.HasTaken c.args.taker.now c.args.out.now c.loop-frame.taker
          c.loop-frame.out)
          (ap (λ (fs : List Found). sure b.read ++ fs)
          (take_all c.loop-frame.frame-index c.deref-frame-items.result.now c.loop-frame-test.false)
          ∙ whole)
          (c.loop-frame.invariant (sure b.read) b.sure_taken.taken),
      b.counted,
      omega arith,
    )
