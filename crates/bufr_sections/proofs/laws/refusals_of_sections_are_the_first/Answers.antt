use Rattle.bufr_sections.proofs.RefusalFacts.{refused_gives_first, first_is_answered, of_sections}
use Rattle.bufr_sections.proofs.laws.refusals_of_sections_are_the_first.Goals as goal

pub returns-clause-given : goal.returns-clause-given
returns-clause-given c = refused_gives_first

pub returns-clause-answered : goal.returns-clause-answered
returns-clause-answered c = first_is_answered

pub returns-clause-theirs : goal.returns-clause-theirs
returns-clause-theirs c = of_sections
