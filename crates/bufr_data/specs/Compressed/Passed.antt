-- Passing a column (FM 94 BUFR, regulation 94.6.3).
use Rattle.std.specs.Prelude.{◌≡◌, ℕ, Bool, List, Result, Ok}
use Rattle.bufr_bits.specs.Bits.{number_at}
use Rattle.bufr_base.specs.Answers.{◌>>=◌}
use Rattle.bufr_expand.specs.declared.operators.Spec.{Spec}
use Rattle.bufr_fields.specs.declared.field.Raw.{Raw}
use Rattle.bufr_fields.specs.declared.fault.DataFault.{DataFault}
use Rattle.bufr_data.specs.Plain.{field_number_at}
use Rattle.bufr_data.specs.Compressed.Reading.{or_ends, all_raised, all_equal, count_of, column_at}
use Rattle.bufr_data.specs.Compressed.Reading.{agreeing}

-- the minimum R0 and NBINC of a column of numbers, and the bits after them
abbrev pub head_at : ℕ → ℕ → List Bool → Result ((ℕ × ℕ) × List Bool) DataFault
head_at i width front = do
  minimum ← or_ends i (field_number_at width front)
  k ← or_ends i (number_at 6 minimum.1)
  Ok ((minimum.0, k.0), k.1)

-- the values of a column, which are equal if it is a factor's
abbrev pub agreed_at : ℕ → ℕ → Spec → List Bool → Result (List Raw × List Bool) DataFault
agreed_at n i spec front = column_at n i spec front >>= agreeing i spec

-- the bits begin with a column of n subsets, and `rest` follows
abbrev pub PassesColumn : ℕ → ℕ → Spec → List Bool → List Bool → Type 0
PassesColumn n i spec front rest =
    (values : List Raw) × (column_at n i spec front ≡ Ok (values, rest))

-- the bits begin with a factor's column of n subsets, with this one number
abbrev pub PassesFactor : ℕ → ℕ → Spec → List Bool → ℕ → List Bool → Type 0
PassesFactor n i spec front number rest =
    (values : List Raw) × (agreed_at n i spec front ≡ Ok (values, rest))
    × (count_of values ≡ number)

-- increments that all have values: the first value's number, and whether all are equal
abbrev pub AreRaised : ℕ → ℕ → ℕ → ℕ → List ℕ → ℕ → Bool → Type 0
AreRaised i width minimum k increments first equal =
    (values : List Raw) × (all_raised 1 i width minimum k increments ≡ Ok values)
    × (count_of values ≡ first) × (all_equal values ≡ equal)
