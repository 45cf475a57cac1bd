-- Plain subsets of one size: no count decides their fields, so all have equal bits and items (FM 94
-- BUFR, regulations 94.5.4 and 94.5.5).
use Rattle.std.specs.Prelude.{◌≡◌, ℕ, ◌+◌, ◌<◌, ◌≤◌, Bool, false, List, [], ◌∷◌, length, drop, Err}
use Rattle.bufr_tables.specs.declared.element.Kind.TheVariants as kinds
use Rattle.bufr_tables.specs.Elements.{same_kind}
use Rattle.bufr_expand.specs.declared.operators.Spec.{Spec}
use Rattle.bufr_expand.specs.Courses.{course}
use Rattle.bufr_expand.specs.Trees.{Tree}
use Rattle.bufr_expand.specs.Unrolling.{NumberedField, Allows}
use Rattle.bufr_data.specs.declared.plain.fixed_size.Alike.{Alike}
use Rattle.bufr_data.specs.declared.plain.fixed_size.FixedSize.{FixedSize}
use Rattle.bufr_data.specs.declared.plain.fixed_size.FixedSize.TheVariants.{Unasked, Same, Varied}
use Rattle.bufr_fields.specs.declared.fault.DataFault.TheVariants as faults
use Rattle.bufr_data.specs.Plain.{raw_at}
use Rattle.bufr_data.specs.Plain.Reads.{raw_or_ends}
use Rattle.bufr_data.specs.Plain.Starts.{PassesRaw}

-- the data end in field i of the subset
abbrev pub DataEndAt : ℕ → Spec → List Bool → Type 0
DataEndAt i spec front = raw_or_ends 1 i (raw_at spec front) ≡ Err (faults.DataEnds 1 i)

-- a field of this spec takes exactly `bits` bits; with fewer left, the data end
pub record TakesBits (spec : Spec) (bits : ℕ) : Type 0 where
  pub there : (i : ℕ) (front : List Bool) → bits ≤ length front
      → PassesRaw i spec front (drop bits front)
  pub short : (i : ℕ) (front : List Bool) → length front < bits → DataEndAt i spec front

-- no bits hold a field of this spec
abbrev pub NoBitsHold : Spec → Type 0
NoBitsHold spec = (i : ℕ) (front : List Bool) → DataEndAt i spec front

-- fields without counts take `bits` bits in all
abbrev pub TakeAll : List NumberedField → ℕ → Type 0
TakeAll [] bits = bits ≡ 0
TakeAll (field ∷ fields) bits = (own : ℕ) × (others : ℕ)
    × (same_kind field.spec.kind kinds.Count ≡ false) × TakesBits field.spec own
    × TakeAll fields others × (bits ≡ own + others)

-- every subset of this tree has these bits and items: those of some fields that it allows, none of
-- them a count
pub record IsAlike (tree : Tree) (alike : Alike) : Type 0 where
  pub fields : List NumberedField
  pub allowed : Allows (course tree 0) fields alike.items
  pub taken : TakeAll fields alike.bits

-- a known size is the size of the tree's subsets
abbrev pub IsKnown : Tree → FixedSize → Type 0
IsKnown tree Unasked = Unit {0}
IsKnown tree (Same each) = IsAlike tree each
IsKnown tree Varied = Unit {0}
