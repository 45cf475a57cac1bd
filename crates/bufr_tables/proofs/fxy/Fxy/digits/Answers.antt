-- F is one digit; those of X and Y are in the table.
use Rattle.std.proofs.Common.{◌≡◌, ◌%◌, refl, arith}
use Rattle.bufr_tables.specs.Descriptors.{f_of, x_of, y_of}
use Rattle.bufr_tables.proofs.DigitFacts.{digits_at}
use Rattle.bufr_tables.proofs.fxy.Fxy.digits.Goals as goal

pub returns : goal.returns
returns c =
    let d = c.args.self in
    let f : f_of d % 10 ≡ f_of d = omega arith in
    let x = digits_at (x_of d) (omega arith) in
    let y = digits_at (y_of d) (omega arith) in
    rw (c.from.ensures, c.from-2.ensures, c.parts-f.ensures, f, x.1, x.2, y.0, y.1, y.2) refl
