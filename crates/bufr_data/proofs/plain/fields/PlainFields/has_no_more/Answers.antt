-- The answers of the turns and of the walk, in fields.
use Rattle.std.proofs.Common.{◌≡◌, true, subst}
use Rattle.std.specs.Bool.{OnTrue}
use Rattle.bufr_data.specs.Plain.LaidTurns.{none_among}
use Rattle.bufr_data.proofs.AskedFacts.{none_if_told}
use Rattle.bufr_data.proofs.PlainFacts.LaidTurns.{seen_laid, seen_none}
use Rattle.bufr_data.proofs.PlainFacts.UnaskedTurns.{none_in_turns}
use Rattle.bufr_data.proofs.plain.fields.PlainFields.has_no_more.Goals as goal

pub returns-then-has_none : goal.returns-then-has_none
returns-then-has_none g c =
    let P = g.A.Asks.is_asked c.args.asked.now in
    let laid = c.in-Some.laid in
    none_in_turns P laid c.self.inside.walk c.self.inside.reader c.args.self.now
    c.has_no_more_inside.result (seen_laid _ _ _ _ laid _ c.in-Some.is c.self.view_is)
    (subst (λ b. OnTrue b (none_among P laid.turn.items ≡ true)) c.if-has_none.true c.has_none.ensures)
    c.has_no_more_inside.ensures

pub returns-in-Step : goal.returns-in-Step
returns-in-Step g c =
    none_if_told (g.A.Asks.is_asked c.args.asked.now) c.self.inside.due c.self.inside.walk
    c.self.inside.reader c.args.self.now c.has_no_more_inside-in-Step.result c.in-Step.is
    (seen_none _ _ _ _ _ c.in-None.is c.self.view_is) c.has_no_more_inside-in-Step.ensures
