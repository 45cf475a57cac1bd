-- The search goes through the fields of a turn.
use Rattle.std.proofs.Common.{rules, tests, not}
use Rattle.std.proofs.lemmas.Iterator.{YieldsList-from_slice}
use Rattle.std.proofs.lemmas.Iterator.Search.{all_from_yields_List}
use Rattle.bufr_data.specs.Plain.LaidTurns.{none_among}
use Rattle.bufr_data.proofs.PlainFacts.UnaskedTurns.{told_so}
use Rattle.bufr_data.proofs.plain.laid_turns.LaidTurns.has_none.Goals as goal

pub returns : goal.returns
returns g c =
    let P = g.A.Asks.is_asked c.args.asked.now in
    told_so c.all.result (none_among P c.args.self.now.turn.items)
    (all_from_yields_List (λ field. not (P field.fxy)) _ _ c.all.result c.all.ensures.ran
    (YieldsList-from_slice c.args.self.now.turn.items cc)
    (λ x b q k. search (rules, tests)))
