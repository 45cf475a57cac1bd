-- The next field is noted, a number or another.
use Rattle.std.proofs.Common.{ap, sym, ◌∙◌}
use Rattle.bufr_fields.specs.Values.{as_field}
use Rattle.bufr_report_keys.specs.FirstValues.{all_noted}
use Rattle.bufr_report_keys.proofs.FirstFacts.{handed_noted, none_handed}
use Rattle.bufr_report_keys.proofs.asked.note_chosen.Goals as goal

pub loop-number-preserved-in-Some : goal.loop-number-preserved-in-Some
loop-number-preserved-in-Some c =
    ap (all_noted c.next_number.new.self) c.note_number.ensures
    ∙ sym (handed_noted c.loop-number.fields c.next_number.new.self (as_field c.in-Some.number)
    c.loop-number.values c.in-Some.ensures.found)
    ∙ c.loop-number.invariant

pub loop-number-preserved : goal.loop-number-preserved
loop-number-preserved c =
    let handed = rw c.in-Some-2.is at c.in_ok-field.ensures.found in
    ap (all_noted c.next.new.self) c.note.ensures
    ∙ sym (handed_noted c.next_number.new.self c.next.new.self c.in-Some-2.field
    c.loop-number.values handed)
    ∙ ap (λ fields. all_noted fields c.loop-number.values) c.in_default.ensures.others
    ∙ c.loop-number.invariant

pub returns-in_default-2 : goal.returns-in_default-2
returns-in_default-2 c =
    sym (none_handed c.next_number.new.self c.next.new.self c.in_ok-field.field-0
    c.loop-number.values c.in_ok-field.ensures.found c.in_default-2.not-Some)
    ∙ ap (λ fields. all_noted fields c.loop-number.values) c.in_default.ensures.others
    ∙ c.loop-number.invariant
