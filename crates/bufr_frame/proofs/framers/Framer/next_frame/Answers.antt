-- A lent frame is the one that `take_next` would copy out.
use Rattle.std.proofs.Common.{◌≡◌, ℕ, ◌+◌, ◌-◌, [], drop, take, sym, ap, subst}
use Rattle.std.proofs.Common.{◌∙◌, Some, arith}
use Rattle.std.proofs.lemmas.List.{length-take-le, take_rest, drop_all}
use Rattle.bufr_frame.specs.declared.frames.Found.{Found}
use Rattle.bufr_frame.specs.declared.places.Start.TheVariants.{Frame}
use Rattle.bufr_frame.specs.Framings.{Framing}
use Rattle.bufr_frame.specs.Reaches.{HandsOver}
use Rattle.bufr_frame.specs.Starts.{start_of}
use Rattle.bufr_frame.specs.NextFrames.{IsNextFrame, StandsAfter}
use Rattle.bufr_frame.proofs.ReachLaws.{answers_lent, taken_is, next_frame, stands_next}
use Rattle.bufr_frame.proofs.framers.Framer.next_frame.Goals as goal
use Rattle.bufr_frame.proofs.framers.Framer.next_frame.Goals.{In-Frame}

abbrev lent : In-Frame → Found
lent c =
    let skip = c.near_mark-skip.result in
    record {
      place = c.self.inside.fed + skip;
      bytes = take ((skip + c.in-Frame.length) - skip) (drop skip c.args.piece.now);
    }

hands_over : (c : In-Frame)
    → HandsOver c.self.inside.fed (drop c.self.inside.from c.self.inside.octets.items)
    c.self.inside.octets.items c.args.piece.now (record {
      found = Some (lent c);
      from = c.self.inside.from;
      taken = c.near_mark-skip.result + c.in-Frame.length;
    })
hands_over c =
    let inside = c.self.inside in
    let kept = inside.octets.items in
    let piece = c.args.piece.now in
    let skip = c.near_mark-skip.result in
    let l = c.in-Frame.length in
    let known = c.self.invariant in
    let none : drop inside.from kept ≡ [] = drop_all inside.from kept (omega arith) in
    let start : start_of (drop skip piece) ≡ Frame l =
    subst (λ t. start_of t ≡ Frame l) (take_rest piece skip)
    (sym c.start_of.ensures.start ∙ c.in-Frame.is) in
    let one : (skip + l) - skip ≡ l = omega arith in
    let frame : lent c ≡ record { place = inside.fed + skip; bytes = take l (drop skip piece) } =
    ap (λ (n : ℕ). let f : Found =
    record { place = inside.fed + skip; bytes = take n (drop skip piece) } in f) one in
    answers_lent inside.fed kept piece inside.from skip l (lent c) known.taken
    known.within known.half none c.near_mark-skip.ensures.within c.near_mark-skip.ensures.others
    start frame

pub returns-in-Frame-clause-frame : goal.returns-in-Frame-clause-frame
returns-in-Frame-clause-frame c =
    let here = (goal.at.returns-in-Frame-clause-frame c).In-Frame in
    let t = hands_over here in
    let inside = c.self.inside in
    let piece = c.args.piece.now in
    let n = c.near_mark-skip.result + c.in-Frame.length in
    let taken = take n piece in
    let v : Framing = record { fed = inside.fed; held = drop inside.from inside.octets.items } in
    let next : IsNextFrame v taken (lent here) =
    next_frame v taken _ (Some (lent here)) t.found in
    subst (λ a. IsNextFrame c.args.self.now a (lent here))
    (sym (taken_is piece n t.taken))
    (subst (λ w. IsNextFrame w taken (lent here)) c.self.view_is next)

pub returns-in-Frame-clause-next : goal.returns-in-Frame-clause-next
returns-in-Frame-clause-next c =
    let here = (goal.at.returns-in-Frame-clause-next c).In-Frame in
    let t = hands_over here in
    let inside = c.self.inside in
    let piece = c.args.piece.now in
    let n = c.near_mark-skip.result + c.in-Frame.length in
    let taken = take n piece in
    let held = drop inside.from inside.octets.items in
    let v : Framing = record { fed = inside.fed; held = held } in
    let new : Framing = record { fed = inside.fed + n; held = held } in
    let next : StandsAfter v new taken 1 =
    stands_next v taken held n (Some (lent here)) (length-take-le n piece t.taken) t.found in
    subst (λ a. StandsAfter c.args.self.now new a 1)
    (sym (taken_is piece n t.taken))
    (subst (λ w. StandsAfter w new taken 1) c.self.view_is next)
