-- A number of 64 bits has at most twenty digits, so it fits with its comma.
use Rattle.std.proofs.Common.{rules, ◌∙◌, ◌++◌, decimal, arith, ap}
use Rattle.std.proofs.lemmas.Fmt.{length-decimal-le}
use Rattle.bufr_ls_engine.proofs.FieldTexts.{comma_before}
use Rattle.bufr_ls_engine.proofs.placed.put_number.Goals as goal

pub write_digits-requires : goal.write_digits-requires
write_digits-requires c =
    let short = length-decimal-le 20 c.args.number (omega arith) (omega (arith, c.ranges.number.fits))
    (omega (arith, c.ranges.number.fits)) in
    (omega (arith, short, c.requires.room), search rules)

pub returns-clause-put : goal.returns-clause-put
returns-clause-put c =
    c.write_digits.ensures.written
    ∙ ap (λ t. decimal c.args.number ++ t)
    (comma_before c.args.row.now c.args.end (omega (arith, c.requires.room)) c.requires.within)

pub returns-clause-near : goal.returns-clause-near
returns-clause-near c =
    let short = length-decimal-le 20 c.args.number (omega arith) (omega (arith, c.ranges.number.fits))
    (omega (arith, c.ranges.number.fits)) in
    omega (arith, short, c.requires.room, c.write_digits.ensures.start)

pub returns-clause-exact : goal.returns-clause-exact
returns-clause-exact c =
    let short = length-decimal-le 20 c.args.number (omega arith) (omega (arith, c.ranges.number.fits))
    (omega (arith, c.ranges.number.fits)) in
    omega (arith, short, c.requires.room, c.write_digits.ensures.start)
