-- A number of 16 bits has at most five digits.
use Rattle.std.proofs.Common.{arith, ap, length, decimal}
use Rattle.std.proofs.lemmas.Fmt.{length-decimal-le}
use Rattle.bufr_ls_engine.proofs.placed.put_count.Goals as goal

pub returns-else-number-lt256-clause-near : goal.returns-else-number-lt256-clause-near
returns-else-number-lt256-clause-near c =
    let short = length-decimal-le 5 c.args.number (omega arith) (omega (arith, c.ranges.number.fits))
    (omega (arith, c.ranges.number.fits)) in
    omega (arith, short, c.put_number.ensures.exact, ap (λ n. length (decimal n)) c.from.ensures)
