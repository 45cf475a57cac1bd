-- Frame by frame, those found and those to come are all.
use Rattle.std.proofs.Common.{◌≡◌, ℕ, ◌+◌, ◌-◌, ◌<◌, [], ◌∷◌, ◌++◌, length, drop, take, sym, ap}
use Rattle.std.proofs.Common.{◌∙◌, subst, arith}
use Rattle.std.specs.Prelude.{IfSome}
use Rattle.bufr_frame.specs.declared.frames.Found.{Found}
use Rattle.std.proofs.lemmas.List.{length-drop}
use Rattle.bufr_frame.specs.declared.places.Start.TheVariants.{Frame}
use Rattle.bufr_frame.specs.Starts.{start_of}
use Rattle.bufr_frame.proofs.ScanLaws.{Scanned, scanned_first, scanned_frame, scanned_passed}
use Rattle.bufr_frame.proofs.ScanLaws.{scanned_end, frame_fits, frame_moves}
use Rattle.bufr_frame.proofs.scans.frames_in.Goals as goal

pub loop-next-smaller : goal.loop-next-smaller
loop-next-smaller c =
    let octets = c.args.octets.now in
    let here = c.loop-next.next.place in
    let l = c.in-Some.length in
    let start : start_of (drop here octets) ≡ Frame l =
    subst (λ o. IfSome o
    (λ n. start_of (drop here octets) ≡ Frame n)) c.in-Some.is c.loop-next.invariant.1 in
    let fits = frame_fits (drop here octets) l start in
    let long = frame_moves (drop here octets) l start in
    let after = c.next_start-next-in-Some.ensures.after in
    let goes : length octets - c.next_start-next-in-Some.result.place < length octets - here =
    omega (arith, length-drop here octets) in
    goes

pub loop-next-preserved : goal.loop-next-preserved
loop-next-preserved c =
    let octets = c.args.octets.now in
    let here = c.loop-next.next.place in
    let l = c.in-Some.length in
    let place = c.args.place in
    let frames = c.loop-next.frames.items in
    let next = c.next_start-next-in-Some.ensures in
    let start : start_of (drop here octets) ≡ Frame l =
    subst (λ o. IfSome o
    (λ n. start_of (drop here octets) ≡ Frame n)) c.in-Some.is c.loop-next.invariant.1 in
    let one : (here + l) - here ≡ l = omega arith in
    let same : c.in_ok-copied.field-0
    ≡ record { place = place + here; bytes = take l (drop here octets) } =
    c.in_ok-copied.ensures
    ∙ ap (λ (k : ℕ). let f : Found =
    record { place = place + here; bytes = take k (drop here octets) } in f) one in
    let grown = c.in_ok-push.ensures.items ∙ ap (λ (f : Found). frames ++ f ∷ []) same in
    let then =
    subst (λ fs. Scanned c.args.ended place octets fs (here + l)) (sym grown)
    (scanned_frame c.args.ended place octets frames here l c.loop-next.invariant.0 start) in (
      scanned_passed c.args.ended place octets c.push.new.self.items
          (here + l) c.next_start-next-in-Some.result.place then next.within next.frames next.rest,
      next.frame,
      next.open,
      next.all,
      next.short,
    )

pub loop-next-init : goal.loop-next-init
loop-next-init c =
    let octets = c.args.octets.now in
    let next = c.next_start-next.ensures in
    let first : Scanned c.args.ended c.args.place octets c.new-frames.result.items 0 =
    subst (λ fs. Scanned c.args.ended c.args.place octets fs 0) (sym c.new-frames.ensures.items)
    (scanned_first c.args.ended c.args.place octets) in (
      scanned_passed c.args.ended c.args.place octets c.new-frames.result.items 0
          c.next_start-next.result.place first next.within next.frames next.rest,
      next.frame,
      next.open,
      next.all,
      next.short,
    )

pub returns-clause-frames : goal.returns-clause-frames
returns-clause-frames c =
    let inv = c.loop-next.invariant in
    let none = c.in_default.is in
    (scanned_end c.args.ended c.args.place c.args.octets.now c.loop-next.frames.items
    c.loop-next.next.place inv.0 (inv.2 none) (inv.3 none)).frames_are

pub returns-clause-rest : goal.returns-clause-rest
returns-clause-rest c =
    let inv = c.loop-next.invariant in
    let none = c.in_default.is in
    (scanned_end c.args.ended c.args.place c.args.octets.now c.loop-next.frames.items
    c.loop-next.next.place inv.0 (inv.2 none) (inv.3 none)).rest_is

pub returns-clause-short : goal.returns-clause-short
returns-clause-short c = λ _. c.loop-next.invariant.4 c.in_default.is
