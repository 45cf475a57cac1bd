-- The clause `items` of `push_count`: a digit, or two.
use Rattle.std.proofs.Common.{[], ◌∷◌}
use Rattle.bufr_ls_engine.proofs.NumberFacts.{first_digit, two_digits, written}
use Rattle.bufr_ls_engine.proofs.numbers.push_count.Goals as goal

pub returns-then-number-lt10-clause-items : goal.returns-then-number-lt10-clause-items
returns-then-number-lt10-clause-items c =
    written c.args.text.now.items _ _ _ c.args.end c.push_two.ensures.items
    (first_digit c.args.number (c.args.end ∷ []) c.if-number-lt10.true)

pub returns-then-number-lt100-clause-items : goal.returns-then-number-lt100-clause-items
returns-then-number-lt100-clause-items c =
    written c.args.text.now.items _ _ _ c.args.end c.push_three.ensures.items
    (two_digits c.args.number c.args.end c.if-number-lt10.false c.if-number-lt100.true)
