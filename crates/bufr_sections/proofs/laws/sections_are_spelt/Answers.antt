use Rattle.bufr_sections.proofs.SectionFacts.{envelope_of-spelling}
use Rattle.bufr_sections.proofs.SpellingFacts.{envelope_of_takes}
use Rattle.bufr_sections.proofs.laws.sections_are_spelt.Goals as goal

pub returns-clause-spelt : goal.returns-clause-spelt
returns-clause-spelt c = envelope_of-spelling

pub returns-clause-read : goal.returns-clause-read
returns-clause-read c = envelope_of_takes
