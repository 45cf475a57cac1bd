use Rattle.bufr_sections.proofs.LengthFacts.{bare_is_shortest}
use Rattle.bufr_sections.proofs.laws.bare_spellings_are_shortest.Goals as goal

pub returns : goal.returns
returns c = bare_is_shortest
