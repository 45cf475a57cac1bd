-- Passing octets that begin no frame changes neither frames nor rest.
use Rattle.std.proofs.Common.{◌≡◌, ℕ, ◌+◌, ◌<◌, ◌≤◌, drop, sym, ap, ◌∙◌, subst, arith, inl, inr}
use Rattle.std.proofs.lemmas.List.{take_rest}
use Rattle.std.proofs.lemmas.Bool.Decides.{leb_tells}
use Rattle.bufr_frame.specs.declared.places.Start.TheVariants.{Other}
use Rattle.bufr_frame.specs.Starts.{start_of}
use Rattle.bufr_frame.proofs.MarkLaws.{no_mark}
use Rattle.bufr_frame.proofs.ScanLaws.{passed_on, passed_past, passed_first}
use Rattle.bufr_frame.proofs.scans.next_start.Goals as goal

pub loop-here-init : goal.loop-here-init
loop-here-init c = passed_first c.args.ended c.args.octets.now c.args.from c.requires.within

pub loop-here-preserved-in-Open : goal.loop-here-preserved-in-Open
loop-here-preserved-in-Open c =
    let octets = c.args.octets.now in
    let here = c.loop-here.here in
    let start = ap start_of (sym (take_rest octets here)) ∙ sym c.in-Open.ensures.start in
    passed_past c.args.ended octets c.args.from here c.if-not-ended.false c.loop-here.invariant
    c.loop-here-test.true start

pub loop-here-preserved : goal.loop-here-preserved
loop-here-preserved c =
    let octets = c.args.octets.now in
    let here = c.loop-here.here in
    let next = c.next_mark-here.result in
    let later = c.next_mark-here.ensures.after in
    let start = ap start_of (sym (take_rest octets here)) ∙ sym c.in-Other.ensures.start in
    let others : (k : ℕ) → here ≤ k → k < next → start_of (drop k octets) ≡ Other = λ k low high.
    elim (leb_tells (here + 1) k) [
      | inl past ↦ no_mark (drop k octets) (c.next_mark-here.ensures.others k past.1 high)
      | inr first ↦ let above = first.1 in
          subst (λ q. start_of (drop q octets) ≡ Other)
          (let same : here ≡ k = omega arith in same) start
    ] in
    passed_on c.args.ended octets c.args.from here next c.loop-here.invariant
    (omega arith) c.next_mark-here.ensures.within others
