-- The next field is noted, if its number is short.
use Rattle.std.proofs.Common.{ap, sym, ◌∙◌}
use Rattle.bufr_report_keys.specs.FirstValues.{all_noted}
use Rattle.bufr_report_keys.proofs.FirstFacts.{short_handed}
use Rattle.bufr_report_keys.proofs.asked.note_short.Goals as goal

pub loop-field-preserved : goal.loop-field-preserved
loop-field-preserved c =
    ap (all_noted c.next_short.new.self) c.note.ensures
    ∙ sym (short_handed c.loop-field.fields c.next_short.new.self c.in-Some.field
    c.loop-field.values c.in-Some.ensures.found)
    ∙ c.loop-field.invariant

pub returns : goal.returns
returns c =
    ap (λ fields. all_noted fields c.loop-field.values) c.in_default.ensures.others
    ∙ c.loop-field.invariant
