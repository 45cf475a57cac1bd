-- Compressed data (FM 94 BUFR, regulation 94.6.3): one column for each field, with its value in
-- every subset.
use Rattle.std.specs.Prelude.{◌≡◌, ℕ, zero, suc, ◌+◌, ◌-◌, ◌*◌, ◌/◌, ◌^◌, ◌<◌, ◌≤◌, Bool, List, []}
use Rattle.std.specs.Prelude.{◌∷◌, ◌++◌, length, map, replicate, get_or}
use Rattle.std.specs.List.{AllByRecursion, flat_map}
use Rattle.bufr_bits.specs.Bits.{bin, bits}
use Rattle.bufr_tables.specs.declared.element.Kind.TheVariants as kinds
use Rattle.bufr_expand.specs.declared.operators.Spec.{Spec}
use Rattle.bufr_fields.specs.declared.field.Raw.{Raw}
use Rattle.bufr_fields.specs.declared.field.Raw.TheVariants.{Number, Text}
use Rattle.bufr_fields.specs.declared.field.Field.{Field}
use Rattle.bufr_fields.specs.declared.field.Subset.{Subset}
use Rattle.bufr_data.specs.Plain.{raw_bits}
use Rattle.bufr_fields.specs.Fits.{HasForm}
use Rattle.bufr_fields.specs.Limits.{most_values}
pub mod Best
pub mod Causes
pub mod Indexed
pub mod Laws
pub mod Passed
pub mod Places
pub mod Reading

-- ---- the bits of a column

-- two lists of one length, related member by member
abbrev pub Pairwise : {A B : Type 0} → (A → B → Type 0) → List A → List B → Type 0
Pairwise Belong [] [] = Unit {0}
Pairwise Belong (x ∷ xs) (y ∷ ys) = Belong x y × Pairwise Belong xs ys
Pairwise Belong [] (y ∷ ys) = ⊥
Pairwise Belong (x ∷ xs) [] = ⊥

-- the value of an increment of NBINC bits: minimum plus increment, a number of the field; or, if
-- all its bits are one, a missing value with all bits one (94.6.3)
pub data HasIncrement (width minimum nbinc increment : ℕ) (value : Raw) : Type 0 where
  above : increment + 1 < 2 ^ nbinc → minimum + increment < 2 ^ width
      → value ≡ Number (minimum + increment) → HasIncrement width minimum nbinc increment value
  missing : increment + 1 ≡ 2 ^ nbinc → value ≡ Number (2 ^ width - 1)
      → HasIncrement width minimum nbinc increment value

-- the value of a text of NBINC octets in a longer field: filled with spaces; or, if all its bits
-- are one, a missing value with all bits one
pub data HasText (octets nbinc : ℕ) (own : List ℕ) (value : Raw) : Type 0 where
  filled : length own ≡ nbinc → AllByRecursion (λ x. x < 256) own
      → (own ≡ replicate nbinc 255 → ⊥)
      → value ≡ Text (own ++ replicate (octets - nbinc) 32) → HasText octets nbinc own value
  ones : own ≡ replicate nbinc 255 → value ≡ Text (replicate octets 255)
      → HasText octets nbinc own value

-- the bits of a column: the minimum R0 as a value of the field, NBINC in six bits, and an increment
-- of NBINC bits for each subset. With NBINC 0 there are no increments, and all values are R0. In
-- columns of texts NBINC counts octets, and R0 matters only with NBINC 0 (94.6.3)
pub data IsColumn (spec : Spec) (values : List Raw) (column : List Bool) : Type 0 where
  equal : (minimum : Raw) → HasForm spec minimum → AllByRecursion (λ v. v ≡ minimum) values
      → column ≡ raw_bits spec.width minimum ++ bin 6 0 → IsColumn spec values column
  numbers : (minimum nbinc : ℕ) (increments : List ℕ) → HasForm spec (Number minimum)
      → 0 < nbinc → nbinc < 2 ^ 6
      → Pairwise (HasIncrement spec.width minimum nbinc) increments values
      → column ≡ bin spec.width minimum ++ bin 6 nbinc ++ flat_map (bin nbinc) increments
      → IsColumn spec values column
  texts : (ignored : List ℕ) (nbinc : ℕ) (own : List (List ℕ)) → HasForm spec (Text ignored)
      → 0 < nbinc → nbinc < 2 ^ 6 → nbinc ≤ spec.width / 8
      → Pairwise (HasText (spec.width / 8) nbinc) own values
      → column ≡ bits ignored ++ bin 6 nbinc ++ flat_map bits own
      → IsColumn spec values column

-- ---- columns of subsets

-- one field of all subsets: its descriptor, its spec, and its value in each subset
pub record Column : Type 0 where
  pub fxy : ℕ
  pub spec : Spec
  pub values : List Raw

-- a factor has one value in all subsets (regulation 94.5.4.3 under 94.6.3)
abbrev pub HaveOneCount : Column → Type 0
HaveOneCount c = c.spec.kind ≡ kinds.Count → (v : Raw) × AllByRecursion (λ w. w ≡ v) c.values

-- the bits are the columns of `count` subsets, joined
abbrev pub AreColumns : ℕ → List Column → List Bool → Type 0
AreColumns count [] front = front ≡ []
AreColumns count (c ∷ cs) front =
    (column others : List Bool) × (front ≡ column ++ others) × (length c.values ≡ count)
    × IsColumn c.spec c.values column × HaveOneCount c × AreColumns count cs others

-- the field of a column in the subset at an index, from 0
abbrev pub field_of : ℕ → Column → Field
field_of index c = record { fxy = c.fxy; spec = c.spec; raw = get_or c.values index (Number 0) }

-- the subset at an index, from 0: its value in each column
abbrev pub subset_of : List Column → ℕ → Subset
subset_of columns index = record { fields = map (field_of index) columns }

-- `count` subsets, from the one at an index on
abbrev pub subsets_from : ℕ → ℕ → List Column → List Subset
subsets_from index zero columns = []
subsets_from index (suc count) columns =
    subset_of columns index ∷ subsets_from (index + 1) count columns

-- the bits hold subsets column by column: all have the same descriptors and specs, with at most
-- 67,108,864 values in all. Without subsets there are no bits (94.6.3)
abbrev pub Packed : List Subset → List Bool → Type 0
Packed [] front = front ≡ []
Packed (s ∷ subsets) front =
    (columns : List Column) × (s ∷ subsets ≡ subsets_from 0 (length (s ∷ subsets)) columns)
    × (length columns * length (s ∷ subsets) ≤ most_values)
    × AreColumns (length (s ∷ subsets)) columns front
