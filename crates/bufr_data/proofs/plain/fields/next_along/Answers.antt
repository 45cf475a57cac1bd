-- A text that comes next is read, or it is still left.
use Rattle.std.proofs.Common.{sym, ◌∙◌}
use Rattle.bufr_data.proofs.PlainFacts.Handed.{text_handed}
use Rattle.bufr_data.proofs.plain.fields.next_along.Goals as goal

pub returns-in-Ok-read_raw-clause-ahead : goal.returns-in-Ok-read_raw-clause-ahead
returns-in-Ok-read_raw-clause-ahead c =
    (text_handed _ _ _ _ _ _ c.in-Text.is c.in-Err.ensures.others.ahead
    c.in-Ok-read_raw.ensures.exact).ahead

pub returns-in-Ok-read_raw-clause-found : goal.returns-in-Ok-read_raw-clause-found
returns-in-Ok-read_raw-clause-found c =
    sym c.in-Err.ensures.others.same
    ∙ (text_handed _ _ _ _ _ _ c.in-Text.is c.in-Err.ensures.others.ahead
    c.in-Ok-read_raw.ensures.exact).is
