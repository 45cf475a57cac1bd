-- Reading compressed data (FM 94 BUFR, regulation 94.6.3): the columns that begin the bits, or the
-- first fault.
use Rattle.std.specs.Prelude.{ℕ, zero, suc, ◌+◌, ◌-◌, ◌*◌, ◌/◌, ◌==◌, ◌&&◌, not, Bool, true}
use Rattle.std.specs.Prelude.{false, List, [], ◌∷◌, ◌++◌, length, map, replicate, Option, Some}
use Rattle.std.specs.Prelude.{None, Result, Ok, Err, nat_lt, bytes_eq, if◌then◌else◌}
use Rattle.std.specs.List.{list_all}
use Rattle.bufr_bits.specs.Bits.{number_at, numbers_at, octets_at}
use Rattle.bufr_base.specs.Answers.{◌>>=◌}
use Rattle.bufr_tables.specs.declared.element.Kind.TheVariants as kinds
use Rattle.bufr_tables.specs.Elements.{same_kind}
use Rattle.bufr_expand.specs.declared.operators.Spec.{Spec}
use Rattle.bufr_expand.specs.Courses.{Course, ends, stops, asks}
use Rattle.bufr_fields.specs.declared.field.Raw.{Raw}
use Rattle.bufr_fields.specs.declared.field.Raw.TheVariants.{Number, Text}
use Rattle.bufr_fields.specs.declared.fault.DataFault.{DataFault}
use Rattle.bufr_fields.specs.declared.fault.DataFault.TheVariants as faults
use Rattle.bufr_data.specs.Plain.{raw_at, stopped}
use Rattle.bufr_fields.specs.Forms.{number_of}
use Rattle.bufr_fields.specs.Increments.{raised}
use Rattle.bufr_data.specs.Compressed.{Column}
use Rattle.bufr_fields.specs.Limits.{most_values}

-- ---- one column

-- what is read for field i, or the fault that the data end; no single subset is to blame
abbrev pub or_ends : {A : Type 0} → ℕ → Option A → Result A DataFault
or_ends i None = Err (faults.DataEnds 0 i)
or_ends i (Some x) = Ok x

-- the value of subset j before those of the others, or the fault of its increment
abbrev pub value_then : ℕ → ℕ → Option Raw → Result (List Raw) DataFault
    → Result (List Raw) DataFault
value_then j i None others = Err (faults.IncrementRange j i)
value_then j i (Some v) others = others >>= λ vs. Ok (v ∷ vs)

-- the values of increments from subset j on
abbrev pub all_raised : ℕ → ℕ → ℕ → ℕ → ℕ → List ℕ → Result (List Raw) DataFault
all_raised j i width minimum k [] = Ok []
all_raised j i width minimum k (x ∷ xs) =
    value_then j i (raised width minimum k x) (all_raised (j + 1) i width minimum k xs)

-- a text in a longer field: filled with spaces, or with ones if it is all ones
abbrev pub filled : ℕ → List ℕ → Raw
filled octets own =
    if list_all (λ x. x == 255) own then Text (replicate octets 255)
    else Text (own ++ replicate (octets - length own) 32)

-- a text before the others
abbrev pub text_then : Option (List (List ℕ) × List Bool) → List ℕ
    → Option (List (List ℕ) × List Bool)
text_then None own = None
text_then (Some x) own = Some (own ∷ x.0, x.1)

-- a text, and then the others in the bits after it
abbrev pub texts_then : Option (List ℕ × List Bool)
    → (List Bool → Option (List (List ℕ) × List Bool)) → Option (List (List ℕ) × List Bool)
texts_then None others = None
texts_then (Some x) others = text_then (others x.1) x.0

-- n texts of k octets each, and the bits after them
abbrev pub texts_at : ℕ → ℕ → List Bool → Option (List (List ℕ) × List Bool)
texts_at zero k front = Some ([], front)
texts_at (suc n) k front = texts_then (octets_at k front) (λ rest. texts_at n k rest)

-- the values of n subsets after R0 and NBINC
abbrev pub values_at : ℕ → ℕ → Spec → Raw → ℕ → List Bool → Result (List Raw × List Bool) DataFault
values_at n i spec minimum zero front = Ok (replicate n minimum, front)
values_at n i spec (Number minimum) (suc k) front = do
  increments ← or_ends i (numbers_at n (suc k) front)
  values ← all_raised 1 i spec.width minimum (suc k) increments.0
  Ok (values, increments.1)
values_at n i spec (Text ignored) (suc k) front =
    if nat_lt (spec.width / 8) (suc k) then Err (faults.CharIncrement i)
    else (or_ends i (texts_at n (suc k) front)
    >>= λ own. Ok (map (filled (spec.width / 8)) own.0, own.1))

-- the values of one field in n subsets, and the bits after them
abbrev pub column_at : ℕ → ℕ → Spec → List Bool → Result (List Raw × List Bool) DataFault
column_at n i spec front = do
  minimum ← or_ends i (raw_at spec front)
  k ← or_ends i (number_at 6 minimum.1)
  values_at n i spec minimum.0 k.0 k.1

-- ---- all columns

-- whether two raw values are equal
abbrev pub same_raw : Raw → Raw → Bool
same_raw (Number a) (Number b) = a == b
same_raw (Text a) (Text b) = bytes_eq a b
same_raw (Number a) (Text b) = false
same_raw (Text a) (Number b) = false

-- whether all values are equal
abbrev pub all_equal : List Raw → Bool
all_equal [] = true
all_equal (v ∷ values) = list_all (λ w. same_raw w v) values

-- the values of a factor, if they are equal
abbrev pub agreeing : ℕ → Spec → List Raw × List Bool → Result (List Raw × List Bool) DataFault
agreeing i spec found =
    if same_kind spec.kind kinds.Count && not (all_equal found.0) then Err (faults.UnequalCounts i)
    else Ok found

-- the number of a factor in all subsets
abbrev pub count_of : List Raw → ℕ
count_of [] = 0
count_of (v ∷ values) = number_of v

-- what is read: the columns, the items met in the one walk, and the bits left
pub record ColumnsFound : Type 0 where
  pub columns : List Column
  pub items : ℕ
  pub rest : List Bool

-- the limit of 67,108,864 values for i fields of n subsets
abbrev pub within_limit : {A : Type 0} → ℕ → ℕ → Result A DataFault → Result A DataFault
within_limit n i found = if nat_lt most_values (i * n) then Err faults.TooLarge else found

-- a column before the others; a factor's number decides these
abbrev pub column_then : ℕ → Spec → (ℕ → List Bool → Result ColumnsFound DataFault)
    → List Raw × List Bool → Result ColumnsFound DataFault
column_then d spec after first =
    after (count_of first.0) first.1 >>= λ others.
    Ok (record others {
      columns = record { fxy = d; spec = spec; values = first.0 }
          ∷ others.columns;
    })

-- the columns of n subsets, from field i on, that a course asks for in these bits
unfoldable pub columns_at : ℕ → ℕ → Course → List Bool → Result ColumnsFound DataFault
columns_at n i (ends items) front = Ok (record { columns = []; items = items; rest = front })
columns_at n i (stops met fault) front = within_limit n i (stopped fault)
columns_at n i (asks met d spec more) front =
    within_limit n i (column_at n i spec front >>= agreeing i spec
    >>= column_then d spec (λ count rest. columns_at n (i + 1) (more count) rest))
