-- The walk's answer, in fields.
use Rattle.bufr_data.proofs.AskedFacts.{none_if_told}
use Rattle.bufr_data.proofs.PlainFacts.LaidTurns.{seen_none}
use Rattle.bufr_data.proofs.plain.fields.PlainFields.is_past.Goals as goal

pub returns-in-Step : goal.returns-in-Step
returns-in-Step g c =
    none_if_told (g.A.Asks.is_asked c.args.asked.now) c.self.inside.due c.self.inside.walk
    c.self.inside.reader c.args.self.now c.has_no_more.result c.in-Step.is
    (seen_none _ _ _ _ _ c.in-None.is c.self.view_is) c.has_no_more.ensures
