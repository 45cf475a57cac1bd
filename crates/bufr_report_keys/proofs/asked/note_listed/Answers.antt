-- A field of a key's element is noted.
use Rattle.std.proofs.Common.{◌≡◌, false, sym, ap, ◌∙◌}
use Rattle.bufr_fields.specs.declared.field.Field.{Field}
use Rattle.bufr_report_keys.specs.Asked.{is_asked}
use Rattle.bufr_report_keys.specs.FirstValues.{noted}
use Rattle.bufr_report_keys.proofs.FirstFacts.{asked_noted, unasked_passed, none_behind}
use Rattle.bufr_report_keys.proofs.asked.note_listed.Goals.{then-asks+in_ok-copied, else-asks}
use Rattle.bufr_report_keys.proofs.asked.note_listed.Goals as goal

pub loop-field-preserved : goal.loop-field-preserved
loop-field-preserved c =
    elim c.if-asks.branch [
      | then-asks+in_ok-copied w ↦
          let noted_now : c.if-asks.values ≡ noted c.field-item.result c.loop-field.values =
          w.values-is ∙ w.note.ensures
          ∙ ap (λ (f : Field). noted f c.loop-field.values) w.in_ok-copied.ensures
          in
          asked_noted c.args.fields.now c.loop-field.field-index c.field-item.result
          c.loop-field.values c.field-item.is c.loop-field-test.true c.if-asks.values noted_now
          ∙ c.loop-field.invariant
      | else-asks w ↦
          let unasked : is_asked c.field-item.result.fxy ≡ false = sym c.asks.ensures
          ∙ w.if-asks.false in
          unasked_passed c.args.fields.now c.loop-field.field-index c.field-item.result
          c.loop-field.values c.field-item.is c.loop-field-test.true c.if-asks.values unasked
          w.values-is
          ∙ c.loop-field.invariant
    ]

pub returns : goal.returns
returns c =
    sym (none_behind c.args.fields.now c.loop-field.field-index c.loop-field.values
    c.loop-field-test.false)
    ∙ c.loop-field.invariant
