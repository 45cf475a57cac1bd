use Rattle.std.proofs.Common.{arith}
use Rattle.bufr_data.proofs.plain.laid_reader.LaidReader.left.Goals as goal

pub overflow_cast-result : goal.overflow_cast-result
overflow_cast-result c =
    let rest = rw (c.here.ensures, ← c.self.view_is) at c.left.ensures.rest in
    omega (arith, rest, c.self.invariant.1)

pub returns-clause-counted : goal.returns-clause-counted
returns-clause-counted c = rw (← c.self.view_is) c.self.invariant.1
