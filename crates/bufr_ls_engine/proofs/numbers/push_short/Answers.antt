-- The clause `items` of `push_short`: one to four digits.
use Rattle.bufr_ls_engine.proofs.NumberFacts.{one_digit, last_two, three_digits, four_digits, written}
use Rattle.bufr_ls_engine.proofs.numbers.push_short.Goals as goal

pub returns-then-number-lt10-clause-items : goal.returns-then-number-lt10-clause-items
returns-then-number-lt10-clause-items c =
    written c.args.text.now.items _ _ _ c.args.end c.push_two.ensures.items
    (one_digit c.args.number c.args.end c.if-number-lt10.true)

pub returns-then-number-lt100-clause-items : goal.returns-then-number-lt100-clause-items
returns-then-number-lt100-clause-items c =
    written c.args.text.now.items _ _ _ c.args.end c.push_three.ensures.items
    (last_two c.args.number c.args.end c.if-number-lt10.false c.if-number-lt100.true)

pub returns-then-number-lt1000-clause-items : goal.returns-then-number-lt1000-clause-items
returns-then-number-lt1000-clause-items c =
    written c.args.text.now.items _ _ _ c.args.end c.push_four.ensures.items
    (three_digits c.args.number c.args.end c.if-number-lt100.false c.if-number-lt1000.true)

pub returns-clause-items : goal.returns-clause-items
returns-clause-items c =
    written c.args.text.now.items _ _ _ c.args.end c.push_five.ensures.items
    (four_digits c.args.number c.args.end c.if-number-lt1000.false c.requires.small)
