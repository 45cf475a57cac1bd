-- The values are noted first.
use Rattle.std.proofs.Common.{ap, ◌∙◌}
use Rattle.std.proofs.lemmas.Result.{IfOk-weaker}
use Rattle.bufr_report_keys.specs.declared.first_values.FirstValues.{FirstValues}
use Rattle.bufr_report_keys.specs.FirstValues.{all_noted, key_of, other_noted}
use Rattle.bufr_report_keys.proofs.SlotFacts.{slot}
use Rattle.bufr_report_keys.proofs.keys.slot_without_block.Goals as goal

pub returns : goal.returns
returns c =
    let head = c.args.head.now in
    IfOk-weaker c.slot_of_left.result _ _
    (λ found is. is
    ∙ ap (λ (v : FirstValues). slot head.update (key_of head (all_noted c.args.fields v)))
    (c.note_other.ensures ∙ ap (other_noted c.args.other) c.none-values.ensures))
    c.slot_of_left.ensures
