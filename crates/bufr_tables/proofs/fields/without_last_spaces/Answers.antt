use Rattle.std.proofs.Common.{◌∙◌, sym, ap, ◌∷◌, ◌++◌, [], List, ℕ, reverse}
use Rattle.std.proofs.lemmas.List.{nil_from_length}
use Rattle.bufr_tables.specs.Fields.{skip_spaces}
use Rattle.bufr_tables.proofs.FieldFacts.{skip_back-space, skip_back-other, skip_back-none}
use Rattle.bufr_tables.proofs.fields.without_last_spaces.Goals as goal

pub returns-then-last-ne32 : goal.returns-then-last-ne32
returns-then-last-ne32 c =
    let e = c.in-Some.ensures.cases.0 in
    e ∙ sym (skip_back-other c.in-Some.front.now c.in-Some.last.now c.if-last-ne32.true)
    ∙ ap (λ (t : List ℕ). reverse (skip_spaces (reverse t))) (sym e)
    ∙ ap reverse c.loop-last.invariant

pub loop-last-preserved : goal.loop-last-preserved
loop-last-preserved c =
    sym (skip_back-space c.in-Some.front.now)
    ∙ ap (λ (n : ℕ). skip_spaces (reverse (c.in-Some.front.now ++ n ∷ [])))
    (sym c.if-last-ne32.false)
    ∙ ap (λ (t : List ℕ). skip_spaces (reverse t)) (sym c.in-Some.ensures.cases.0)
    ∙ c.loop-last.invariant

pub returns : goal.returns
returns c =
    let n = nil_from_length c.loop-last.rest.now c.in_default.ensures.cases in
    n ∙ sym skip_back-none ∙ ap (λ (t : List ℕ). reverse (skip_spaces (reverse t))) (sym n)
    ∙ ap reverse c.loop-last.invariant
