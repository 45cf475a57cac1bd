-- The text of a fault of encoding: its number, its name and its values.
use Rattle.std.specs.Prelude.{ℕ, List, codes}
use Rattle.bufr_expand.specs.Reasons.{template_reason}
use Rattle.bufr_fields.specs.Reasons.{write_reason}
use Rattle.bufr_sections.specs.declared.fault.EncodeFault.{EncodeFault}
use Rattle.bufr_sections.specs.declared.fault.EncodeFault.TheVariants as faults

-- the text that a fault of encoding prints
unfoldable pub encode_reason : EncodeFault → List ℕ
encode_reason faults.NoDescriptors = codes "E4 NoDescriptors"
encode_reason (faults.Template why) = template_reason why
encode_reason (faults.Data why) = write_reason why
