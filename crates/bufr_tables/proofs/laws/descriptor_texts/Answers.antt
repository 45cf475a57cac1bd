-- `of_text-only` and `of_text-six_digits` are the two directions.
use Rattle.bufr_tables.specs.DescriptorLaws.{of_text-only, of_text-six_digits}
use Rattle.bufr_tables.proofs.laws.descriptor_texts.Goals as goal

pub returns : goal.returns
returns c text d = (of_text-only text d, λ h. rw h.1 (of_text-six_digits d h.0))
