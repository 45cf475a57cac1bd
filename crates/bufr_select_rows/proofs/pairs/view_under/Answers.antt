-- The first pair reads all versions.
use Rattle.std.proofs.Common.{not, ◌∙◌, ap, sym, subst}
use Rattle.bufr_base.specs.Answers.{Gives}
use Rattle.bufr_select_rows.proofs.PairFacts.{under_first}
use Rattle.bufr_select_rows.proofs.pairs.view_under.Goals as goal

pub returns-then-is_none-clause-exact : goal.returns-then-is_none-clause-exact
returns-then-is_none-clause-exact c =
    let pairs = c.args.pairs.now in
    subst (Gives (λ d. d) c.view.result)
    (sym
    (under_first pairs c.index-pairs-0.result c.index-pairs-0-then-is_none.result
    c.args.octets.now (sym c.is_empty.ensures ∙ c.if-not-is_empty.true)
    (c.is_none.ensures ∙ ap not c.if-is_none.true)))
    c.view.ensures.exact
