-- Sample tables and operators for worked values.
use Rattle.std.specs.Prelude.{ℕ, List, [], ◌∷◌, fold, Option, Some, ℤ, pos, negsuc}
use Rattle.bufr_tables.specs.declared.element.Element.{Element}
use Rattle.bufr_tables.specs.declared.element.Kind.{Kind}
use Rattle.bufr_tables.specs.declared.element.Kind.TheVariants as kinds
use Rattle.bufr_tables.specs.Descriptors.{descriptor}
use Rattle.bufr_tables.specs.Entries.{Entries}
use Rattle.bufr_expand.specs.declared.operators.Operators.{Operators}
use Rattle.bufr_expand.specs.declared.operators.Spec.{Spec}
use Rattle.bufr_expand.specs.OperatorsInForce.{none_in_force, in_force_after, effective}

-- ---- rows

-- a row of Table B
abbrev pub row : Kind → ℤ → ℤ → ℕ → Element
row kind scale reference width =
    record { kind = kind; scale = scale; reference = reference; width = width }

-- a number without scale and reference value
abbrev pub number_row : ℕ → Element
number_row width = row kinds.Quantity (pos 0) (pos 0) width

-- 012101, temperature in hundredths of a kelvin
abbrev pub temperature_row : Element
temperature_row = row kinds.Quantity (pos 2) (pos 0) 16

-- 005002, latitude in hundredths of a degree from -90
abbrev pub latitude_row : Element
latitude_row = row kinds.Quantity (pos 2) (negsuc 8999) 15

-- 001011, a ship's call sign of nine characters
abbrev pub call_sign_row : Element
call_sign_row = row kinds.Text (pos 0) (pos 0) 72

-- sample elements and sequences of Tables B and D
abbrev pub sample : Entries
sample = record {
  elements =
      (descriptor 0 1 1, number_row 7) ∷ (descriptor 0 1 2, number_row 10) ∷
      (descriptor 0 1 11, call_sign_row)
      ∷ (descriptor 0 2 1, row kinds.Code (pos 0) (pos 0) 2)
      ∷ (descriptor 0 4 1, number_row 12) ∷ (descriptor 0 4 2, number_row 4) ∷
      (descriptor 0 4 3, number_row 6)
      ∷ (descriptor 0 4 4, number_row 5) ∷ (descriptor 0 4 5, number_row 6) ∷
      (descriptor 0 5 2, latitude_row)
      ∷ (descriptor 0 12 101, temperature_row)
      ∷ (descriptor 0 31 0, number_row 1) ∷ (descriptor 0 31 1, number_row 8) ∷ [];
  sequences =
      (descriptor 3 1 1, descriptor 0 1 1 ∷ descriptor 0 1 2 ∷ [])
      ∷ (descriptor 3 1 11, descriptor 0 4 1 ∷ descriptor 0 4 2 ∷ descriptor 0 4 3 ∷ [])
      ∷ (descriptor 3 1 12, descriptor 0 4 4 ∷ descriptor 0 4 5 ∷ [])
      ∷ (descriptor 3 1 250, descriptor 3 1 250 ∷ []) ∷ [];
}

-- a table with this row for the factor 031002
abbrev pub with_factor : Element → Entries
with_factor factor = record {
  elements = (descriptor 0 12 101, temperature_row) ∷ (descriptor 0 31 2, factor) ∷ [];
  sequences = [];
}

-- ---- specs under operators

-- operator 2 XX YYY of Table C
abbrev pub operator : ℕ → ℕ → ℕ
operator x y = descriptor 2 x y

-- the operators in force after these
abbrev pub in_force : List ℕ → Operators
in_force operators = fold in_force_after none_in_force operators

-- the temperature under operators
abbrev pub temperature_under : List ℕ → Option Spec
temperature_under operators = effective (descriptor 0 12 101) temperature_row (in_force operators)

-- the latitude under operators
abbrev pub latitude_under : List ℕ → Option Spec
latitude_under operators = effective (descriptor 0 5 2) latitude_row (in_force operators)

-- the call sign under operators
abbrev pub call_sign_under : List ℕ → Option Spec
call_sign_under operators = effective (descriptor 0 1 11) call_sign_row (in_force operators)

-- a number of class 31 under operators
abbrev pub factor_under : List ℕ → Option Spec
factor_under operators = effective (descriptor 0 31 1) (number_row 8) (in_force operators)

-- a quantity or a text under no operator
abbrev pub in_table : Element → Option Spec
in_table element = effective (descriptor 0 12 101) element none_in_force

-- the spec of a quantity: its scale, reference value and width
abbrev pub quantity : ℤ → ℤ → ℕ → Option Spec
quantity scale reference width =
    Some (record { kind = kinds.Quantity; scale = scale; reference = reference; width = width })

-- the spec of a text of `width` bits
abbrev pub text : ℕ → Option Spec
text width = Some (record { kind = kinds.Text; scale = pos 0; reference = pos 0; width = width })
