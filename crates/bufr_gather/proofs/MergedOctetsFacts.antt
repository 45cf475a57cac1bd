-- Each origin has the octets of one entry: for `MergedOctets::len`.
use Rattle.std.proofs.Common.{◌≡◌, ℕ, suc, List, [], ◌∷◌, length, refl, ap}
use Rattle.bufr_gather.specs.declared.merged_octets.EntrySource.{EntrySource}
use Rattle.bufr_gather.specs.declared.merged_octets.EntrySource.TheVariants.{Left, Right, LeftOfBoth}
use Rattle.bufr_gather.specs.declared.merged_octets.EntrySource.TheVariants.{RightOfBoth}
use Rattle.bufr_gather.specs.MergedOctets.{octets_after_first, handed_out}

pub handed_length : (origins : List EntrySource) (left right : List ℕ)
    → length (handed_out origins left right) ≡ length origins
handed_length [] left right = refl
handed_length (Left ∷ more) left right =
    ap (λ (n : ℕ). suc n) (handed_length more (octets_after_first left) right)
handed_length (Right ∷ more) left right =
    ap (λ (n : ℕ). suc n) (handed_length more left (octets_after_first right))
handed_length (LeftOfBoth ∷ more) left right =
    ap (λ (n : ℕ). suc n) (handed_length more (octets_after_first left) (octets_after_first right))
handed_length (RightOfBoth ∷ more) left right =
    ap (λ (n : ℕ). suc n) (handed_length more (octets_after_first left) (octets_after_first right))
