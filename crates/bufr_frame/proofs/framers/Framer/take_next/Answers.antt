-- Each clause follows from what `reach_and_copy` returns.
use Rattle.std.proofs.Common.{◌≡◌, ◌+◌, ◌++◌, drop, take, sym, subst, arith, length-append}
use Rattle.std.specs.Prelude.{IfSome}
use Rattle.std.proofs.lemmas.List.{length-take-le, take_all}
use Rattle.bufr_frame.specs.Framings.{Framing}
use Rattle.bufr_frame.specs.Reaches.{TakesOneOrNone, HandsOverNone}
use Rattle.bufr_frame.specs.StreamLaws.{place_of}
use Rattle.bufr_frame.specs.NextFrames.{IsNextFrame, IsNoFrame, StandsAfter}
use Rattle.bufr_frame.proofs.ReachLaws.{taken_is, next_frame, stands_next, no_frame, stands_on}
use Rattle.bufr_frame.proofs.ReachLaws.{held_taken}
use Rattle.bufr_frame.proofs.framers.Framer.take_next.Goals as goal

pub invariant_of-self-2 : goal.invariant_of-self-2
invariant_of-self-2 c =
    let t = c.in-Ok.ensures.taken in
    let taking = c.in-Ok.taking in
    let held = drop c.self.inside.from c.self.inside.octets.items in
    let known = c.self.invariant.taken in
    let all = held_taken _ (held ++ take taking.taken c.args.piece.now) _ taking.found t.found in
    let size = length-take-le taking.taken c.args.piece.now t.taken in
    record {
      within = t.within;
      half = t.half;
      taken = omega (arith, length-append held (take taking.taken c.args.piece.now));
      short = t.short;
    }

pub returns-clause-frame : goal.returns-clause-frame
returns-clause-frame c =
    let t = c.in-Ok.ensures.taken in
    let taking = c.in-Ok.taking in
    let inside = c.self.inside in
    let piece = c.args.piece.now in
    let taken = take taking.taken piece in
    let v : Framing = record { fed = inside.fed; held = drop inside.from inside.octets.items } in
    let next : IfSome taking.found (IsNextFrame v taken) =
    next_frame v taken _ taking.found t.found in
    subst (λ a. IfSome taking.found (λ frame. IsNextFrame c.args.self.now a frame))
    (sym (taken_is piece taking.taken t.taken))
    (subst (λ w. IfSome taking.found (IsNextFrame w taken)) c.self.view_is next)

pub returns-clause-next : goal.returns-clause-next
returns-clause-next c =
    let t = c.in-Ok.ensures.taken in
    let taking = c.in-Ok.taking in
    let inside = c.self.inside in
    let piece = c.args.piece.now in
    let taken = take taking.taken piece in
    let held = drop taking.from c.reach_and_copy.new.octets.items in
    let v : Framing = record { fed = inside.fed; held = drop inside.from inside.octets.items } in
    let new : Framing = record { fed = inside.fed + taking.taken; held = held } in
    let size = length-take-le taking.taken piece t.taken in
    let next : IfSome taking.found (λ frame. StandsAfter v new taken 1) =
    stands_next v taken held taking.taken taking.found size t.found in
    subst (λ a. IfSome taking.found (λ frame. StandsAfter c.args.self.now new a 1))
    (sym (taken_is piece taking.taken t.taken))
    (subst (λ w. IfSome taking.found (λ frame. StandsAfter w new taken 1)) c.self.view_is next)

pub returns-clause-none : goal.returns-clause-none
returns-clause-none c = λ none.
    let t = c.in-Ok.ensures.taken in
    let taking = c.in-Ok.taking in
    let inside = c.self.inside in
    let piece = c.args.piece.now in
    let held = drop taking.from c.reach_and_copy.new.octets.items in
    let v : Framing = record { fed = inside.fed; held = drop inside.from inside.octets.items } in
    let all : take taking.taken piece ≡ piece =
    let e = t.all none in take_all taking.taken piece (omega arith) in
    let nothing : HandsOverNone (place_of v) (v.held ++ take taking.taken piece) held =
    subst (λ o. TakesOneOrNone o (place_of v)
    (v.held ++ take taking.taken piece) held) none t.found in
    let no : IsNoFrame v piece =
    subst (IsNoFrame v) all (no_frame v (take taking.taken piece) held nothing) in
    subst (λ w. IsNoFrame w piece) c.self.view_is no

pub returns-clause-waits : goal.returns-clause-waits
returns-clause-waits c = λ none.
    let t = c.in-Ok.ensures.taken in
    let taking = c.in-Ok.taking in
    let inside = c.self.inside in
    let piece = c.args.piece.now in
    let held = drop taking.from c.reach_and_copy.new.octets.items in
    let v : Framing = record { fed = inside.fed; held = drop inside.from inside.octets.items } in
    let new : Framing = record { fed = inside.fed + taking.taken; held = held } in
    let all : take taking.taken piece ≡ piece =
    let e = t.all none in take_all taking.taken piece (omega arith) in
    let size = length-take-le taking.taken piece t.taken in
    let nothing : HandsOverNone (place_of v) (v.held ++ take taking.taken piece) held =
    subst (λ o. TakesOneOrNone o (place_of v)
    (v.held ++ take taking.taken piece) held) none t.found in
    let on : StandsAfter v new piece 0 =
    subst (λ a. StandsAfter v new a 0) all
    (stands_on v (take taking.taken piece) held taking.taken size nothing) in
    subst (λ w. StandsAfter w new piece 0) c.self.view_is on
