use Rattle.std.proofs.Common.{◌∙◌, sym}
use Rattle.std.proofs.lemmas.Bool.{OnTrue_from}
use Rattle.std.specs.Cmp.Lexicographic.{same_text}
use Rattle.bufr_data.proofs.descriptor_list.RefSliceFxyDescriptorList.is.Goals as goal

pub returns : goal.returns
returns c =
    OnTrue_from c.eq.result _ (λ same. same_text c.args.self.now.now c.args.descriptors.now
    (sym same ∙ c.eq.ensures))
