-- Subsets that fit a template (FM 94 BUFR, regulations 94.1.3, 94.5.4 and 94.5.5).
use Rattle.std.specs.Prelude.{◌≡◌, ℕ, ◌+◌, ◌/◌, ◌^◌, ◌<◌, ◌≤◌, List, [], ◌∷◌, length}
use Rattle.std.specs.Prelude.{map}
use Rattle.std.specs.List.{AllByRecursion}
use Rattle.bufr_tables.specs.declared.element.Kind.TheVariants as kinds
use Rattle.bufr_expand.specs.declared.operators.Operators.{Operators}
use Rattle.bufr_expand.specs.declared.operators.Spec.{Spec}
use Rattle.bufr_expand.specs.Trees.{Tree}
use Rattle.bufr_expand.specs.Unrolling.{NumberedField, SubsetUnrolls}
use Rattle.bufr_expand.specs.Limits.{most_items}
use Rattle.bufr_fields.specs.declared.field.Raw.{Raw}
use Rattle.bufr_fields.specs.declared.field.Raw.TheVariants.{Number, Text}
use Rattle.bufr_fields.specs.declared.field.Field.{Field}
use Rattle.bufr_fields.specs.declared.field.Subset.{Subset}
use Rattle.bufr_fields.specs.Forms.{number_of}
use Rattle.bufr_fields.specs.Limits.{most_raw_bits}

-- a raw value fits its spec: a text of width / 8 octets, or a number below 2 to the power of the
-- width. Octets are below 256, and a field of more than 64 bits has no number (94.1.3)
pub data HasForm (spec : Spec) : Raw → Type 0 where
  of_text : (octets : List ℕ) → spec.kind ≡ kinds.Text → length octets ≡ spec.width / 8
      → AllByRecursion (λ x. x < 256) octets → HasForm spec (Text octets)
  of_number : (n : ℕ) → (spec.kind ≡ kinds.Text → ⊥) → spec.width ≤ most_raw_bits
      → n < 2 ^ spec.width → HasForm spec (Number n)

-- a field as unrollings have it: its descriptor, its spec, and its number in case it is a factor
abbrev pub told_of : Field → NumberedField
told_of f = record { fxy = f.fxy; spec = f.spec; number = number_of f.raw }

-- the fields of a subset fit a template: they unroll its tree, with no operator in force at the
-- start, and each raw value fits its spec (94.5.4, 94.5.5)
pub record Fits (tree : Tree) (fields : List Field) (items : ℕ) : Type 0 where
  pub operators : Operators
  pub unrolled : SubsetUnrolls tree (map told_of fields) operators items
  pub formed : AllByRecursion (λ f. HasForm f.spec f.raw) fields

-- each subset fits, and `items` is the sum of their items
abbrev pub AllFit : Tree → List Subset → ℕ → Type 0
AllFit tree [] items = items ≡ 0
AllFit tree (s ∷ subsets) items = (own : ℕ) × (others : ℕ) × Fits tree s.fields own
    × AllFit tree subsets others × (items ≡ own + others)

-- fields fit in a message with `used` items before them and `n` items after them, at most
-- 16,777,216
abbrev pub FitsWithin : Tree → ℕ → List Field → ℕ → Type 0
FitsWithin tree used fields n = (items : ℕ) × Fits tree fields items × (n ≡ used + items)
    × (n ≤ most_items)

-- subsets fit in a message with `used` items before them and `n` items after them, at most
-- 16,777,216
abbrev pub AllFitWithin : Tree → ℕ → List Subset → ℕ → Type 0
AllFitWithin tree used subsets n = (items : ℕ) × AllFit tree subsets items × (n ≡ used + items)
    × (n ≤ most_items)

-- one subset fits alone, with at most 16,777,216 items
abbrev pub FitsAlone : Tree → Subset → Type 0
FitsAlone tree s = (items : ℕ) × FitsWithin tree 0 s.fields items
