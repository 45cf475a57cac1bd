-- Chosen fields that are not asked for are skipped.
use Rattle.std.proofs.Common.{sym, ◌∙◌}
use Rattle.bufr_select_rows.specs.Asks.{flagged}
use Rattle.bufr_select_rows.proofs.ChosenFacts.{asked_none, passed_more}
use Rattle.bufr_select_rows.proofs.subset_fields.ChosenFieldsSubsetFields.pick.Goals as goal

pub loop-field-preserved : goal.loop-field-preserved
loop-field-preserved c =
    let found = rw c.in-Some.is at c.in_ok-field.ensures.found in
    passed_more (flagged c.args.asked.now) c.args.self.now c.loop-field.self c.next.new.self
    c.in-Some.field c.loop-field.invariant (sym c.asks.ensures ∙ c.if-asks.false) found

pub loop-field-preserved-else-asks : goal.loop-field-preserved-else-asks
loop-field-preserved-else-asks c =
    let found = rw c.in-Some.is at c.in_ok-field.ensures.found in
    passed_more (flagged c.args.asked.now) c.args.self.now c.loop-field.self c.next.new.self
    c.in-Some.field c.loop-field.invariant (sym c.asks.ensures ∙ c.if-asks.false) found

pub returns : goal.returns
returns c =
    let found = rw c.in_default.is at c.in_ok-field.ensures.found in
    asked_none (flagged c.args.asked.now) c.args.self.now c.loop-field.self c.next.new.self
    c.loop-field.invariant found.0 found.1
