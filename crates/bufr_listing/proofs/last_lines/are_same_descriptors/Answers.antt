use Rattle.std.proofs.lemmas.Bool.Decides.{Decides-eqb}
use Rattle.std.proofs.lemmas.Slice.Eq.{slice_eq-Decides}
use Rattle.bufr_listing.proofs.last_lines.are_same_descriptors.Goals as goal

pub returns : goal.returns
returns c same = (slice_eq-Decides Decides-eqb _ _ c.eq.result c.eq.ensures).0 same
