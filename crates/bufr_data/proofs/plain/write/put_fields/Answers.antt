use Rattle.std.proofs.Common.{◌∙◌, take, arith}
use Rattle.bufr_data.specs.Plain.{field_bits, plain}
use Rattle.bufr_data.proofs.PlainFacts.Writes.{bits_step, bits_end}
use Rattle.bufr_data.proofs.plain.write.put_fields.Goals as goal

pub returns-in_err-put_raw-clause-kept : goal.returns-in_err-put_raw-clause-kept
returns-in_err-put_raw-clause-kept c = (
  plain (take c.loop-field.field-index c.args.fields.now),
  c.in_err-put_raw.ensures.kept
      ∙ c.loop-field.invariant,
)

pub loop-field-preserved : goal.loop-field-preserved
loop-field-preserved c =
    bits_step field_bits c.loop-field.field-index c.args.fields.now c.field-item.result _ _ _
    (omega (arith, c.loop-field-test.true)) c.field-item.is c.loop-field.invariant
    c.in_ok-put_raw.ensures.put

pub returns-clause-put : goal.returns-clause-put
returns-clause-put c =
    bits_end c.loop-field.field-index c.args.fields.now _ _
    (omega (arith, c.loop-field-test.false)) c.loop-field.invariant

pub returns-clause-kept : goal.returns-clause-kept
returns-clause-kept c =
    (plain (take c.loop-field.field-index c.args.fields.now), c.loop-field.invariant)
