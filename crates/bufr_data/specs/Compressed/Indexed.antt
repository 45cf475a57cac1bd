-- The index of compressed data: where each column begins, and its values (FM 94 BUFR, regulation
-- 94.6.3).
use Rattle.std.specs.Prelude.{◌≡◌, ℕ, zero, suc, ◌+◌, ◌*◌, ◌/◌, ◌^◌, ◌<◌, ◌≤◌, Bool, false, List, []}
use Rattle.std.specs.Prelude.{◌∷◌, ◌++◌, drop, length, Option, Some, None, option_map, Result, Ok, Err}
use Rattle.std.specs.Prelude.{IsOk, IfSome, nat_lt, if◌then◌else◌}
use Rattle.std.specs.List.{AllByRecursion}
use Rattle.bufr_bits.specs.Bits.{bits, number_at, octets_at}
use Rattle.bufr_base.specs.Answers.{result_map}
use Rattle.bufr_expand.specs.Courses.{Course, course}
use Rattle.bufr_expand.specs.Trees.{Tree}
use Rattle.bufr_fields.specs.declared.field.Raw.{Raw}
use Rattle.bufr_fields.specs.declared.field.Raw.TheVariants.{Number, Text}
use Rattle.bufr_expand.specs.declared.operators.Spec.{Spec}
use Rattle.bufr_fields.specs.Limits.{most_raw_bits}
use Rattle.bufr_tables.specs.declared.element.Kind.TheVariants as kinds
use Rattle.bufr_tables.specs.Elements.{same_kind}
use Rattle.bufr_data.specs.declared.compressed.head.ColumnHead.{ColumnHead}
use Rattle.bufr_data.specs.declared.compressed.index.ColumnStart.{ColumnStart}
use Rattle.bufr_fields.specs.declared.fault.DataFault.{DataFault}
use Rattle.bufr_data.specs.Plain.{raw_at}
use Rattle.bufr_fields.specs.Increments.{raised}
use Rattle.bufr_data.specs.Compressed.{Column}
use Rattle.bufr_data.specs.Compressed.Reading.{ColumnsFound, filled, column_at, columns_at}

-- what contracts see of an index: the number of subsets, and the columns
pub record Indexed : Type 0 where
  pub subsets : ℕ
  pub columns : List Column

-- the values that were read
abbrev pub values_of : Result (List Raw × List Bool) DataFault → List Raw
values_of (Ok x) = x.0
values_of (Err e) = []

-- what is read at a place
abbrev pub read_at : List ℕ → ℕ → ColumnStart → Result (List Raw × List Bool) DataFault
read_at octets n p = column_at n 1 p.spec (drop p.bit (bits octets))

-- the column of n subsets at a place
abbrev pub column_from : List ℕ → ℕ → ColumnStart → Column
column_from octets n p = record {
  fxy = p.fxy;
  spec = p.spec;
  values = values_of (read_at octets n p);
}

-- the head of the column of numbers that begins at a bit: R0, then NBINC, then the first bit after
-- them
pub record HasHead (octets : List ℕ) (bit : ℕ) (spec : Spec) (head : ColumnHead) : Type 0 where
  pub numbers : same_kind spec.kind kinds.Text ≡ false
  pub narrow : spec.width ≤ most_raw_bits
  pub few : head.increment_bits < 2 ^ 6
  pub inside : head.first ≤ 8 * length octets
  pub minimum : number_at spec.width (drop bit (bits octets))
      ≡ Some (head.minimum, drop (bit + spec.width) (bits octets))
  pub increment_bits : number_at 6 (drop (bit + spec.width) (bits octets))
      ≡ Some (head.increment_bits, drop head.first (bits octets))

-- a column of n subsets begins at a place, and its head, if kept, is the column's
abbrev pub Opens : List ℕ → ℕ → ColumnStart → Type 0
Opens octets n p = (p.bit ≤ 8 * length octets) × IsOk (read_at octets n p)
    × IfSome p.head (HasHead octets p.bit p.spec)

-- a column begins at every place
abbrev pub AllOpen : List ℕ → ℕ → List ColumnStart → Type 0
AllOpen octets n places = AllByRecursion (Opens octets n) places

-- an index and the bits after its columns
pub record Ahead : Type 0 where
  pub index : Indexed
  pub rest : List Bool

-- the index of the subsets that begin the bits, or the first fault; without subsets it reads
-- nothing
abbrev pub index_at : Tree → ℕ → List Bool → Result Ahead DataFault
index_at tree zero front =
    Ok (record { index = record { subsets = 0; columns = [] }; rest = front })
index_at tree (suc n) front =
    result_map (λ f. record {
      index = record {
        subsets = suc n;
        columns = f.columns;
      };
      rest = f.rest;
    })
    (columns_at (suc n) 1 (course tree 0) front)

-- ---- one value of a column

-- the value of an increment, if it is there
abbrev pub raised_of : ℕ → ℕ → ℕ → Option (ℕ × List Bool) → Option Raw
raised_of width minimum k None = None
raised_of width minimum k (Some x) = raised width minimum k x.0

-- the value at an index after R0 and NBINC: R0, or the value of the increment or text there
abbrev pub one_behind : Spec → Raw → ℕ → ℕ → List Bool → Option Raw
one_behind spec minimum zero index rest = Some minimum
one_behind spec (Number minimum) (suc k) index rest =
    raised_of spec.width minimum (suc k) (number_at (suc k) (drop (index * suc k) rest))
one_behind spec (Text ignored) (suc k) index rest =
    if nat_lt (spec.width / 8) (suc k) then None
    else option_map (λ x. filled (spec.width / 8) x.0)
    (octets_at (suc k) (drop (index * (suc k * 8)) rest))

-- the value at an index after NBINC
abbrev pub one_after_width : Spec → Raw → ℕ → Option (ℕ × List Bool) → Option Raw
one_after_width spec minimum index None = None
one_after_width spec minimum index (Some k) = one_behind spec minimum k.0 index k.1

-- the value at an index after the minimum
abbrev pub one_after_minimum : Spec → ℕ → Option (Raw × List Bool) → Option Raw
one_after_minimum spec index None = None
one_after_minimum spec index (Some x) = one_after_width spec x.0 index (number_at 6 x.1)

-- the value at an index in the column that begins the bits
abbrev pub one_at : Spec → ℕ → List Bool → Option Raw
one_at spec index front = one_after_minimum spec index (raw_at spec front)

-- ---- indexing

-- these columns, and then those found
abbrev pub behind_columns : List Column → Result ColumnsFound DataFault
    → Result ColumnsFound DataFault
behind_columns columns (Ok found) = Ok (record found { columns = columns ++ found.columns })
behind_columns columns (Err e) = Err e

-- the column of field i was passed and begins at a place, or the subsets end
abbrev pub PassesPlace : ℕ → ℕ → Course → List ℕ → List Bool → Option ColumnStart → Course → List Bool
    → Type 0
PassesPlace n i c octets front (Some p) next rest =
    Opens octets n p
    × (columns_at n i c front
    ≡ behind_columns (column_from octets n p ∷ []) (columns_at n (i + 1) next rest))
PassesPlace n i c octets front None next rest =
    (items : ℕ) × (columns_at n i c front
    ≡ Ok (record { columns = []; items = items; rest = rest }))
