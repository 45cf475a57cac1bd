-- By the lemmas of usable texts.
use Rattle.bufr_report_keys.proofs.UsableFacts.{text_is_usable, usable_is_text}
use Rattle.bufr_report_keys.proofs.laws.usable_values.Goals as goal

pub returns-clause-texts : goal.returns-clause-texts
returns-clause-texts c = text_is_usable

pub returns-clause-texts_only : goal.returns-clause-texts_only
returns-clause-texts_only c = usable_is_text
