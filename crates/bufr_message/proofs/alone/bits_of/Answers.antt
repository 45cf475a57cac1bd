use Rattle.std.proofs.Common.{ℕ, ◌*◌, length, ap, sym, ◌∙◌}
use Rattle.bufr_bits.specs.BitLaws.{length-bin}
use Rattle.bufr_bits.specs.OctetLaws.{length-bits}
use Rattle.bufr_fields.specs.declared.field.Raw.{Raw}
use Rattle.bufr_data.specs.Plain.{raw_bits}
use Rattle.bufr_message.proofs.alone.bits_of.Goals as goal

pub returns-in-Number-clause-value : goal.returns-in-Number-clause-value
returns-in-Number-clause-value c =
    let width = c.args.field.now.spec.width in
    let value = ap (λ (r : Raw). length (raw_bits width r)) c.in-Number.is in
    c.from.ensures ∙ sym (value ∙ length-bin width c.in-Number.field-0)

pub returns-in-Text-clause-value : goal.returns-in-Text-clause-value
returns-in-Text-clause-value c =
    let width = c.args.field.now.spec.width in
    let value = ap (λ (r : Raw). length (raw_bits width r)) c.in-Text.is in
    ap (λ (n : ℕ). 8 * n) (ap length c.as_slice.ensures)
    ∙ sym (value ∙ length-bits c.in-Text.octets)
