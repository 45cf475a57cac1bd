-- The fields of subsets as columns (FM 94 BUFR, regulation 94.6.3).
use Rattle.std.specs.Prelude.{ℕ, List, [], ◌∷◌, map, drop, min, max, Option, Some, None}
use Rattle.std.specs.Prelude.{if◌then◌else◌}
use Rattle.bufr_bits.specs.Bits.{all_ones}
use Rattle.bufr_fields.specs.declared.field.Raw.{Raw}
use Rattle.bufr_fields.specs.declared.field.Field.{Field}
use Rattle.bufr_fields.specs.declared.field.Subset.{Subset}
use Rattle.bufr_data.specs.Compressed.{Column}
use Rattle.bufr_data.specs.Compressed.Best.{first_raw, least_with}

-- the fields of each subset from a place on, counted from 0
abbrev pub rows_from : ℕ → List Subset → List (List Field)
rows_from place subsets = map (λ s. drop place s.fields) subsets

-- the values at a place: those of f, a field of the first subset, and of the others
abbrev pub values_from : Field → List (List Field) → List Raw
values_from f rows = f.raw ∷ map first_raw rows

-- the columns of a subset's fields and of the subsets after it, whether they fit or not
unfoldable pub columns_here : List Field → List (List Field) → List Column
columns_here [] rows = []
columns_here (f ∷ fs) rows =
    record { fxy = f.fxy; spec = f.spec; values = values_from f rows }
    ∷ columns_here fs (map (drop 1) rows)

-- the least of some numbers, if there are any
abbrev pub least_of : List ℕ → Option ℕ
least_of [] = None
least_of (n ∷ ns) = Some (least_with n ns)

-- the least of some numbers and one more; a missing one does not count
abbrev pub least_step : ℕ → Option ℕ → ℕ → Option ℕ
least_step width None n = if all_ones width n then None else Some n
least_step width (Some least) n = if all_ones width n then Some least else Some (min least n)

-- the greatest of some numbers and one more; a missing one does not count
abbrev pub greatest_step : ℕ → ℕ → ℕ → ℕ
greatest_step width greatest n = if all_ones width n then greatest else max greatest n
