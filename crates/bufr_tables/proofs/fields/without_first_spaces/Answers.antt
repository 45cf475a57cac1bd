use Rattle.std.proofs.Common.{◌∙◌, sym, ap, ◌∷◌, ℕ}
use Rattle.std.proofs.lemmas.List.{nil_from_length}
use Rattle.bufr_tables.specs.Fields.{skip_spaces}
use Rattle.bufr_tables.proofs.FieldFacts.{skip_spaces-space, skip_spaces-other, skip_spaces-none}
use Rattle.bufr_tables.proofs.fields.without_first_spaces.Goals as goal

pub returns-then-first-ne32 : goal.returns-then-first-ne32
returns-then-first-ne32 c =
    let e = c.in-Some.ensures.cases.0 in
    e ∙ sym (skip_spaces-other c.in-Some.first.now c.in-Some.tail.now c.if-first-ne32.true)
    ∙ ap skip_spaces (sym e) ∙ c.loop-first.invariant

pub loop-first-preserved : goal.loop-first-preserved
loop-first-preserved c =
    sym (skip_spaces-space c.in-Some.tail.now)
    ∙ ap (λ (n : ℕ). skip_spaces (n ∷ c.in-Some.tail.now)) (sym c.if-first-ne32.false)
    ∙ ap skip_spaces (sym c.in-Some.ensures.cases.0) ∙ c.loop-first.invariant

pub returns : goal.returns
returns c =
    let n = nil_from_length c.loop-first.rest.now c.in_default.ensures.cases in
    n ∙ sym skip_spaces-none ∙ ap skip_spaces (sym n) ∙ c.loop-first.invariant
