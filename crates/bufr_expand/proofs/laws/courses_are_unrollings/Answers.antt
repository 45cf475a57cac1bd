use Rattle.bufr_expand.proofs.UnrollFacts.{unrolled, allowed, full}
use Rattle.bufr_expand.proofs.laws.courses_are_unrollings.Goals as goal

pub returns : goal.returns
returns c = record { unrolled = unrolled; allowed = allowed; full = full }
