-- No field is left, or all kinds are noted.
use Rattle.std.proofs.Common.{ap, sym, ◌∙◌}
use Rattle.std.proofs.lemmas.Result.{IfOk-weaker}
use Rattle.bufr_report_keys.specs.declared.first_values.FirstValues.{FirstValues}
use Rattle.bufr_report_keys.specs.FirstValues.{all_noted, key_of}
use Rattle.bufr_report_keys.proofs.SlotFacts.{slot, none_to_note}
use Rattle.bufr_report_keys.proofs.keys.slot_of_left.Goals as goal

pub returns-then-is_empty : goal.returns-then-is_empty
returns-then-is_empty c =
    let head = c.args.head.now in
    IfOk-weaker c.slot_of_short.result _ _
    (λ found is. is
    ∙ ap (λ (v : FirstValues). slot head.update (key_of head v))
    (sym (none_to_note c.note_short.new.fields c.note_short.new.values
    (sym c.is_empty.ensures ∙ c.if-is_empty.true))
    ∙ c.note_short.ensures))
    c.slot_of_short.ensures

pub returns : goal.returns
returns c =
    let head = c.args.head.now in
    IfOk-weaker c.slot_of_rest.result _ _
    (λ found is. is
    ∙ ap (λ (v : FirstValues). slot head.update (key_of head v))
    (ap (all_noted c.note_short.new.fields) c.copied.ensures ∙ c.note_short.ensures))
    c.slot_of_rest.ensures
