-- Without an operator in force the spec is the row's.
use Rattle.std.proofs.lemmas.Bool.{OnTrue_at}
use Rattle.bufr_expand.proofs.SpecFacts.{given_untouched}
use Rattle.bufr_expand.proofs.operators.Operators.effective.Goals as goal

pub returns-then-are_none : goal.returns-then-are_none
returns-then-are_none c =
    rw c.ok_or.ensures.value (given_untouched c.args.fxy c.args.element.now c.args.self.now
    c.untouched.result _ (OnTrue_at c.if-are_none.true c.are_none.ensures)
    c.untouched.ensures)
