-- Merges agree by any route.
use Rattle.std.specs.Prelude.{◌≡◌}
use Rattle.bufr_gather.specs.Archives.{ArchiveView, merged, IsKept}

-- two archives under the same tables may merge either way
abbrev pub MergeCommutes : Type 0
MergeCommutes = (a b : ArchiveView) → a.tables ≡ b.tables → merged a b ≡ merged b a

-- three archives may merge in any grouping
abbrev pub MergeAssociates : Type 0
MergeAssociates = (a b c : ArchiveView) → merged (merged a b) c ≡ merged a (merged b c)

-- an archive merged with itself stays as it is
abbrev pub MergeIsIdempotent : Type 0
MergeIsIdempotent = (a : ArchiveView) → IsKept a → merged a a ≡ a

-- merged archives hold what is kept
abbrev pub MergedIsKept : Type 0
MergedIsKept = (a b : ArchiveView) → IsKept (merged a b)
