-- One blank less at the end leaves the same octets.
use Rattle.std.proofs.Common.{◌≡◌, false, true, List, ℕ, sym, ap, ◌∙◌}
use Rattle.bufr_report_keys.specs.Usable.{is_blank, without_last_blanks}
use Rattle.bufr_report_keys.proofs.BlankFacts.{blank_is_cut, other_is_kept}
use Rattle.bufr_report_keys.proofs.usable.without_last_blanks.Goals as goal

pub returns-then-not-is_blank : goal.returns-then-not-is_blank
returns-then-not-is_blank c =
    let e = c.in-Some.ensures.cases.0 in
    let other : is_blank c.in-Some.last.now ≡ false = sym c.is_blank.ensures
    ∙ c.if-not-is_blank.true in
    e ∙ sym (other_is_kept c.in-Some.front.now c.in-Some.last.now other)
    ∙ ap (λ (t : List ℕ). without_last_blanks t) (sym e) ∙ c.loop-last.invariant

pub loop-last-preserved : goal.loop-last-preserved
loop-last-preserved c =
    let e = c.in-Some.ensures.cases.0 in
    let blank : is_blank c.in-Some.last.now ≡ true = sym c.is_blank.ensures
    ∙ c.if-not-is_blank.false in
    sym (blank_is_cut c.in-Some.front.now c.in-Some.last.now blank)
    ∙ ap (λ (t : List ℕ). without_last_blanks t) (sym e) ∙ c.loop-last.invariant
