use Rattle.std.proofs.Common.{◌∙◌, sym, ap}
use Rattle.std.specs.Prelude.{option_and_then}
use Rattle.bufr_tables.specs.Numbers.{unsigned_fit}
use Rattle.bufr_tables.proofs.NumberFacts.{unsigned-plus, unsigned-other}
use Rattle.bufr_tables.proofs.numbers.unsigned.Goals as goal

pub returns-then-first-eq43 : goal.returns-then-first-eq43
returns-then-first-eq43 c =
    c.natural.ensures
    ∙ ap (option_and_then (unsigned_fit 64))
    (sym (unsigned-plus c.args.text.now c.in_ok-first.rest.now c.in_ok-first.first.now
    c.in_ok-first.ensures.cases.0 c.if-first-eq43.true))

pub returns : goal.returns
returns c =
    c.natural-2.ensures
    ∙ ap (option_and_then (unsigned_fit 64))
    (sym (unsigned-other c.args.text.now c.in_ok-first.rest.now c.in_ok-first.first.now
    c.in_ok-first.ensures.cases.0 c.if-first-eq43.false))
