-- Where compressed data are refused (FM 94 BUFR, regulation 94.6.3): at the first column that can't
-- be read. Where subsets are refused: at the first that does not fit, else at the first field that
-- can't be one column.
use Rattle.std.specs.Prelude.{◌≡◌, ℕ, ◌+◌, ◌*◌, ◌/◌, ◌^◌, ◌<◌, ◌≤◌, Bool, List, [], ◌∷◌, ◌++◌}
use Rattle.std.specs.Prelude.{length, map, drop, ◌⊎◌}
use Rattle.std.specs.List.{AllByRecursion, flat_map}
use Rattle.bufr_bits.specs.Bits.{bin, bits}
use Rattle.bufr_tables.specs.declared.element.Kind.TheVariants as kinds
use Rattle.bufr_expand.specs.declared.operators.Spec.{Spec}
use Rattle.bufr_expand.specs.Trees.{Tree}
use Rattle.bufr_expand.specs.Unrolling.{NumberedField}
use Rattle.bufr_expand.specs.NextFields.{Next, wants, lacks, BeginsWithin, PassesLimit}
use Rattle.bufr_fields.specs.declared.field.Raw.{Raw}
use Rattle.bufr_fields.specs.declared.field.Raw.TheVariants.{Number, Text}
use Rattle.bufr_fields.specs.declared.field.Subset.{Subset}
use Rattle.bufr_fields.specs.declared.fault.DataFault.{DataFault}
use Rattle.bufr_fields.specs.declared.fault.DataFault.TheVariants as faults
use Rattle.bufr_data.specs.Plain.{raw_bits}
use Rattle.bufr_fields.specs.Fits.{HasForm, told_of, FitsAlone}
use Rattle.bufr_fields.specs.Asked.{Begin}
use Rattle.bufr_data.specs.Causes.{FirstMisfit}
use Rattle.bufr_data.specs.Compressed.{Column, IsColumn, AreColumns, field_of, subsets_from}
use Rattle.bufr_fields.specs.declared.field.Field.{Field}
use Rattle.bufr_fields.specs.declared.fault.MisfitFault.{MisfitFault}
use Rattle.bufr_fields.specs.declared.fault.MisfitFault.TheVariants as misfits
use Rattle.bufr_data.specs.Compressed.Best.{widest, first_raw, CanBeWritten}
use Rattle.bufr_fields.specs.Limits.{most_values, most_increment_bits}

-- ---- one column

-- the bits begin with the minimum R0 and NBINC, and `rest` follows
pub record Heads (spec : Spec) (front : List Bool) (minimum : Raw) (nbinc : ℕ) (rest : List Bool)
    : Type 0 where
  pub form : HasForm spec minimum
  pub few : nbinc < 2 ^ 6
  pub spelt : front ≡ raw_bits spec.width minimum ++ (bin 6 nbinc ++ rest)

-- the bits begin with `count` increments of NBINC bits
pub record Increments (count nbinc : ℕ) (front : List Bool) (increments : List ℕ) : Type 0 where
  pub rest : List Bool
  pub many : length increments ≡ count
  pub fit : AllByRecursion (λ x. x < 2 ^ nbinc) increments
  pub spelt : front ≡ flat_map (bin nbinc) increments ++ rest

-- the bits begin with `count` texts of NBINC octets
pub record Texts (count nbinc : ℕ) (front : List Bool) (own : List (List ℕ)) : Type 0 where
  pub rest : List Bool
  pub many : length own ≡ count
  pub octets : AllByRecursion (λ t. (length t ≡ nbinc) × AllByRecursion (λ x. x < 256) t) own
  pub spelt : front ≡ flat_map bits own ++ rest

-- an increment has a value: it is all ones, or the sum fits in the field
abbrev pub HasValue : ℕ → ℕ → ℕ → ℕ → Type 0
HasValue width minimum nbinc x = (x + 1 ≡ 2 ^ nbinc) ⊎ (minimum + x < 2 ^ width)

-- why the bits begin with no column of `count` subsets for this field, from 1, in this order: R0
-- and NBINC are cut off; the texts are longer than the field; the increments or texts are cut off;
-- an increment has no value; the values of a factor differ
pub data ColumnRefused (count field : ℕ) (spec : Spec) (front : List Bool) (fault : DataFault)
    : Type 0 where
  no_head
      : ((minimum : Raw) (nbinc : ℕ) (rest : List Bool) → Heads spec front minimum nbinc rest → ⊥)
      → fault ≡ faults.DataEnds 0 field → ColumnRefused count field spec front fault
  wide_texts : (ignored : List ℕ) (nbinc : ℕ) (rest : List Bool)
      → Heads spec front (Text ignored) nbinc rest → spec.width / 8 < nbinc
      → fault ≡ faults.CharIncrement field → ColumnRefused count field spec front fault
  no_increments : (minimum nbinc : ℕ) (rest : List Bool)
      → Heads spec front (Number minimum) nbinc rest → 0 < nbinc
      → ((increments : List ℕ) → Increments count nbinc rest increments → ⊥)
      → fault ≡ faults.DataEnds 0 field → ColumnRefused count field spec front fault
  no_texts : (ignored : List ℕ) (nbinc : ℕ) (rest : List Bool)
      → Heads spec front (Text ignored) nbinc rest → 0 < nbinc → nbinc ≤ spec.width / 8
      → ((own : List (List ℕ)) → Texts count nbinc rest own → ⊥) → fault ≡ faults.DataEnds 0 field
      → ColumnRefused count field spec front fault
  passes : (minimum nbinc : ℕ) (rest : List Bool) (before : List ℕ) (x : ℕ) (behind : List ℕ)
      → Heads spec front (Number minimum) nbinc rest → 0 < nbinc
      → Increments count nbinc rest (before ++ x ∷ behind)
      → AllByRecursion (HasValue spec.width minimum nbinc) before
      → (HasValue spec.width minimum nbinc x → ⊥)
      → fault ≡ faults.IncrementRange (1 + length before) field
      → ColumnRefused count field spec front fault
  unequal : (values : List Raw) (column rest : List Bool) → IsColumn spec values column
      → length values ≡ count → front ≡ column ++ rest → spec.kind ≡ kinds.Count
      → ((v : Raw) → AllByRecursion (λ w. w ≡ v) values → ⊥) → fault ≡ faults.UnequalCounts field
      → ColumnRefused count field spec front fault

-- ---- the first column

-- the fields of columns in the first subset, as unrollings have them
abbrev pub told_first : List Column → List NumberedField
told_first columns = map told_of (map (field_of 0) columns)

-- why after these columns neither a next column nor the end follows: an item is above the limit of
-- a walk; or the next field makes more than 67,108,864 values; or it has no spec; or its column
-- can't be read
pub data NoColumnFollows (tree : Tree) (count : ℕ) (before : List Column) (front : List Bool)
    (fault : DataFault) : Type 0 where
  no_room : PassesLimit tree 0 (told_first before) → fault ≡ faults.TooLarge
      → NoColumnFollows tree count before front fault
  too_many_values : (next : Next) (met : ℕ) → BeginsWithin tree 0 (told_first before) next met
      → most_values < (1 + length before) * count → fault ≡ faults.TooLarge
      → NoColumnFollows tree count before front fault
  no_spec : (fxy met : ℕ) → BeginsWithin tree 0 (told_first before) (lacks fxy) met
      → (1 + length before) * count ≤ most_values → fault ≡ faults.EffectiveRange fxy
      → NoColumnFollows tree count before front fault
  no_column : (fxy met : ℕ) (spec : Spec)
      → BeginsWithin tree 0 (told_first before) (wants fxy spec) met
      → (1 + length before) * count ≤ most_values
      → ColumnRefused count (1 + length before) spec front fault
      → NoColumnFollows tree count before front fault

-- the first column that can't be read; those before it begin the data, and their fields begin an
-- unrolling
pub record FirstColumnRefused (tree : Tree) (count : ℕ) (front : List Bool) (fault : DataFault)
    : Type 0 where
  pub before : List Column
  pub packed : List Bool
  pub rest : List Bool
  pub begin : Begin tree 0 (map (field_of 0) before)
  pub columns : AreColumns count before packed
  pub spelt : front ≡ packed ++ rest
  pub refused : NoColumnFollows tree count before rest fault

-- ---- writing subsets

-- the first field has the descriptor and spec of f
abbrev pub BeginsLike : Field → List Field → Type 0
BeginsLike f [] = ⊥
BeginsLike f (g ∷ gs) = (f.fxy ≡ g.fxy) × (g.spec ≡ f.spec)

-- values can share a written column: all are equal, or they are no factors and have at most 63
-- bits, or 63 octets of a text
pub data CanBeColumn (spec : Spec) (values : List Raw) : Type 0 where
  same : (v : Raw) → AllByRecursion (λ w. w ≡ v) values → CanBeColumn spec values
  narrow : (spec.kind ≡ kinds.Count → ⊥) → widest spec ≤ most_increment_bits
      → CanBeColumn spec values

-- a field of the first subset and the next ones of the others can be one column
abbrev pub AreOnePlace : Field → List (List Field) → Type 0
AreOnePlace f others =
    AllByRecursion (BeginsLike f) others × CanBeColumn f.spec (f.raw ∷ map first_raw others)

-- the first field, from field i on, that can't be one column: the fields differ, or a subset ends
abbrev pub FirstApart : ℕ → List Field → List (List Field) → MisfitFault → Type 0
FirstApart i [] others fault =
    (AllByRecursion (λ fs. fs ≡ []) others → ⊥) × (fault ≡ misfits.NotCompressible i)
FirstApart i (f ∷ fs) others fault =
    ((AreOnePlace f others → ⊥) × (fault ≡ misfits.NotCompressible i))
    ⊎ (AreOnePlace f others × FirstApart (i + 1) fs (map (drop 1) others) fault)

-- why subsets are not written compressed, in this order: one does not fit alone; a field can't be
-- one column; there are more than 67,108,864 values
pub data FirstUnpacked (tree : Tree) (subsets : List Subset) (fault : MisfitFault) : Type 0 where
  misfit : (before : List Subset) (s : Subset) (behind : List Subset)
      → subsets ≡ before ++ s ∷ behind → AllByRecursion (FitsAlone tree) before
      → FirstMisfit tree (1 + length before) 0 s.fields fault → FirstUnpacked tree subsets fault
  apart : (s : Subset) (others : List Subset) → AllByRecursion (FitsAlone tree) subsets
      → subsets ≡ s ∷ others → FirstApart 1 s.fields (map (λ t. t.fields) others) fault
      → FirstUnpacked tree subsets fault
  too_many : (columns : List Column) → AllByRecursion (FitsAlone tree) subsets → 0 < length subsets
      → subsets ≡ subsets_from 0 (length subsets) columns
      → AllByRecursion (CanBeWritten (length subsets)) columns
      → most_values < length columns * length subsets → fault ≡ misfits.TooLarge
      → FirstUnpacked tree subsets fault
