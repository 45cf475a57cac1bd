-- The clause `items` of `push_eight`: all digits but three, and then these.
use Rattle.std.proofs.Common.{◌%◌, refl}
use Rattle.bufr_ls_engine.proofs.NumberFacts.{eight_digits}
use Rattle.bufr_ls_engine.proofs.numbers.push_eight.Goals as goal

pub returns-clause-items : goal.returns-clause-items
returns-clause-items c =
    eight_digits c.args.text.now.items _ _ c.args.number (c.args.number % 10000) c.args.end c.requires.long
    c.requires.small refl c.push_short.ensures.items c.push_four.ensures.items
