-- No field is left after the usual ones.
use Rattle.std.proofs.Common.{sym, ◌∙◌}
use Rattle.bufr_report_keys.proofs.SlotFacts.{none_to_note}
use Rattle.bufr_report_keys.proofs.asked.note_usual.Goals as goal

pub returns-then-is_empty-clause-ok : goal.returns-then-is_empty-clause-ok
returns-then-is_empty-clause-ok c =
    sym (none_to_note c.note_next-6.new.fields c.note_next-6.new.values
    (sym c.is_empty.ensures ∙ c.if-is_empty.true))
    ∙ c.in_ok-note_next-6.ensures.ok ∙ c.in_ok-note_next-5.ensures.ok
    ∙ c.in_ok-note_next-4.ensures.ok ∙ c.in_ok-note_next-3.ensures.ok
    ∙ c.in_ok-note_next-2.ensures.ok ∙ c.in_ok-note_next.ensures.ok
