-- Laws of one column of compressed data (FM 94 BUFR, regulation 94.6.3).
use Rattle.std.specs.Prelude.{◌≡◌, ℕ, ◌<◌, ◌≤◌, Bool, true, List, ◌++◌, length, Ok}
use Rattle.std.specs.List.{AllByRecursion}
use Rattle.bufr_tables.specs.declared.element.Kind.TheVariants as kinds
use Rattle.bufr_expand.specs.declared.operators.Spec.{Spec}
use Rattle.bufr_fields.specs.declared.field.Raw.{Raw}
use Rattle.bufr_fields.specs.Fits.{HasForm}
use Rattle.bufr_data.specs.Compressed.{IsColumn}
use Rattle.bufr_data.specs.Compressed.Reading.{column_at}
use Rattle.bufr_data.specs.Compressed.Best.{best, can_be_column}

-- values that are read are those of a column, one for each subset
abbrev pub ColumnReadIsHeld : Type 0
ColumnReadIsHeld =
    (n i : ℕ) (spec : Spec) (front : List Bool) (values : List Raw) (rest : List Bool)
    → column_at n i spec front ≡ Ok (values, rest)
    → (column : List Bool) × (length values ≡ n) × IsColumn spec values column
    × (front ≡ column ++ rest)

-- the values of a column are read, and no others
abbrev pub HeldColumnIsRead : Type 0
HeldColumnIsRead = (n i : ℕ) (spec : Spec) (values : List Raw) (column rest : List Bool)
    → length values ≡ n → IsColumn spec values column
    → column_at n i spec (column ++ rest) ≡ Ok (values, rest)

-- values that can share a column are those of the best one
abbrev pub BestIsColumn : Type 0
BestIsColumn = (spec : Spec) (values : List Raw) → 0 < length values
    → AllByRecursion (λ v. HasForm spec v) values → can_be_column spec values ≡ true
    → IsColumn spec values (best spec values)

-- numbers of a column are those of the best one, which is at most as long
abbrev pub BestIsShortest : Type 0
BestIsShortest = (spec : Spec) (values : List Raw) (column : List Bool)
    → (spec.kind ≡ kinds.Text → ⊥) → 0 < length values → IsColumn spec values column
    → IsColumn spec values (best spec values) × (length (best spec values) ≤ length column)
