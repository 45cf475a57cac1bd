-- A field of the element is noted, another one is handed on.
use Rattle.std.proofs.Common.{ap, sym, ◌∙◌}
use Rattle.bufr_report_keys.specs.FirstValues.{all_noted}
use Rattle.bufr_report_keys.proofs.FirstFacts.{short_handed}
use Rattle.bufr_report_keys.proofs.asked.note_next.Goals as goal

pub returns-then-bits-element-clause-err : goal.returns-then-bits-element-clause-err
returns-then-bits-element-clause-err c =
    sym (short_handed c.args.fields.now c.next_short.new.self c.in-Some.field c.args.values.now
    c.in-Some.ensures.found)

pub returns-then-is_none-clause-err : goal.returns-then-is_none-clause-err
returns-then-is_none-clause-err c =
    sym (short_handed c.args.fields.now c.next_short.new.self c.in-Some.field c.args.values.now
    c.in-Some.ensures.found)

pub returns-clause-ok : goal.returns-clause-ok
returns-clause-ok c =
    ap (all_noted c.next_short.new.self) c.note.ensures
    ∙ sym (short_handed c.args.fields.now c.next_short.new.self c.in-Some.field c.args.values.now
    c.in-Some.ensures.found)
