-- The first values make the key.
use Rattle.std.proofs.Common.{ap, sym, ◌∙◌}
use Rattle.std.proofs.lemmas.Result.{IfOk-weaker}
use Rattle.bufr_report_keys.specs.declared.first_values.FirstValues.{FirstValues}
use Rattle.bufr_report_keys.specs.FirstValues.{all_noted, key_of, other_noted}
use Rattle.bufr_report_keys.proofs.SlotFacts.{slot, by_chosen}
use Rattle.bufr_report_keys.proofs.keys.slot_of_chosen.Goals as goal

pub returns-in-Err : goal.returns-in-Err
returns-in-Err c =
    let head = c.args.head.now in
    let left = λ (v : FirstValues). all_noted c.note_next.new.fields (other_noted c.in-Err.other v) in
    IfOk-weaker c.slot_without_block.result _ _
    (λ found is all same. is
    ∙ ap (λ (v : FirstValues). slot head.update (key_of head (left v)))
    (sym c.none-values.ensures ∙ sym c.in-Err.ensures.kept)
    ∙ by_chosen head (left c.note_next.new.values) c.none-values.result c.args.fields all
    c.in-Err.ensures.err c.none-values.ensures same)
    c.slot_without_block.ensures

pub returns-in-Ok : goal.returns-in-Ok
returns-in-Ok c =
    IfOk-weaker c.slot_of_short.result _ _
    (λ found is all same. is
    ∙ by_chosen c.args.head.now c.note_usual.new.values c.none-values.result c.args.fields all
    (c.in-Ok.ensures.ok ∙ c.in_default.ensures.ok) c.none-values.ensures same)
    c.slot_of_short.ensures

pub returns-in-Err-note_usual : goal.returns-in-Err-note_usual
returns-in-Err-note_usual c =
    let head = c.args.head.now in
    let left = λ (v : FirstValues). all_noted c.note_usual.new.fields (other_noted c.in-Err-note_usual.other v) in
    IfOk-weaker c.slot_of_unusual.result _ _
    (λ found is all same. is
    ∙ ap (λ (v : FirstValues). slot head.update (key_of head (left v))) c.copied.ensures
    ∙ by_chosen head (left c.note_usual.new.values) c.none-values.result c.args.fields all
    (c.in-Err-note_usual.ensures.err ∙ c.in_default.ensures.ok) c.none-values.ensures same)
    c.slot_of_unusual.ensures
