use Rattle.std.proofs.Common.{◌∙◌, sym}
use Rattle.bufr_data.proofs.CompressedFacts.Shown.{many_shown}
use Rattle.bufr_data.proofs.subset_index.SubsetIndex.count.Goals as goal

pub returns-in-Compressed : goal.returns-in-Compressed
returns-in-Compressed c =
    c.from.ensures ∙ c.count.ensures
    ∙ sym (many_shown c.self.inside.data_index c.in-Compressed.columns c.args.self.now c.self.view_is
    c.in-Compressed.is)
