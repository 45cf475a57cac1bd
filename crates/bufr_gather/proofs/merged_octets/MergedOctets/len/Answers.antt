-- Each origin has one entry.
use Rattle.std.proofs.Common.{length, reverse, sym, ap, ◌∙◌}
use Rattle.std.proofs.lemmas.List.{length-reverse}
use Rattle.bufr_gather.proofs.MergedOctetsFacts.{handed_length}
use Rattle.bufr_gather.proofs.merged_octets.MergedOctets.len.Goals as goal

pub returns : goal.returns
returns c =
    let origins = c.self.inside.origins.items in
    c.len.ensures ∙ c.self.inside.origins.ok.0 ∙ sym (length-reverse origins)
    ∙ sym (handed_length (reverse origins) c.self.inside.left.now c.self.inside.right.now)
    ∙ ap length c.self.view_is
