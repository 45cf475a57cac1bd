-- A chosen field that is not asked for is skipped.
use Rattle.std.proofs.Common.{sym, refl, ap, ◌∙◌, []}
use Rattle.bufr_select_rows.specs.Asks.{flagged}
use Rattle.bufr_select_rows.proofs.ChosenFacts.{passed_more}
use Rattle.bufr_select_rows.proofs.subset_fields.ChosenFieldsSubsetFields.pick_text.Goals as goal

pub returns-else-asks-clause-others : goal.returns-else-asks-clause-others
returns-else-asks-clause-others c =
    let found = c.in-Some.ensures.found in
    passed_more (flagged c.args.asked.now) c.args.self.now c.args.self.now c.next_text.new.self
    found.0 ([], tt, refl)
    (ap (flagged c.args.asked.now) found.1.0 ∙ (sym c.asks.ensures ∙ c.if-asks.false)) found.2
