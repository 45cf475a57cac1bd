-- A chosen field that is not asked for is skipped.
use Rattle.std.proofs.Common.{sym, refl, ◌∙◌, []}
use Rattle.bufr_fields.specs.Values.{as_field}
use Rattle.bufr_select_rows.specs.Asks.{flagged}
use Rattle.bufr_select_rows.proofs.ChosenFacts.{passed_more}
use Rattle.bufr_select_rows.proofs.subset_fields.ChosenFieldsSubsetFields.pick_number.Goals as goal

pub returns-else-asks-clause-others : goal.returns-else-asks-clause-others
returns-else-asks-clause-others c =
    passed_more (flagged c.args.asked.now) c.args.self.now c.args.self.now c.next_number.new.self
    (as_field c.in_ok-number.number) ([], tt, refl) (sym c.asks.ensures ∙ c.if-asks.false)
    c.in_ok-number.ensures.found
