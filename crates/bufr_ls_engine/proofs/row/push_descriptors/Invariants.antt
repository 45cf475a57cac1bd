-- The loop of `push_descriptors`: the descriptors that are left.
use Rattle.std.proofs.Common.{◌≡◌, [], ◌∷◌, ◌++◌, length, take}
use Rattle.std.specs.List.{flat_map, join_by}
use Rattle.bufr_tables.specs.Descriptors.{six_digits}
use Rattle.bufr_sections.specs.Sections.{descriptors_of}
use Rattle.bufr_ls_engine.proofs.row.push_descriptors.Given as goal

-- with the descriptors that are left all are added, and the text grew
abbrev pub invariant-loop-rest : goal.invariant-loop-rest
invariant-loop-rest l =
    (
    l.text.items ++ flat_map (λ y. (32 ∷ []) ++ six_digits y) (descriptors_of l.rest)
    ≡ l.fn.text.items ++ join_by six_digits (32 ∷ []) (descriptors_of l.fn.octets)
    )
    × (take (length l.fn.text.items) l.text.items ≡ l.fn.text.items)

-- the octets that are left
abbrev pub decreases-loop-rest : goal.decreases-loop-rest
decreases-loop-rest l = length l.rest
