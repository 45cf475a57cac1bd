-- The numbers and texts that keys use.
use Rattle.std.specs.Prelude.{ℕ, ◌==◌, ◌||◌, Bool, if◌then◌else◌, List, [], ◌∷◌, find, Option, Some}
use Rattle.std.specs.Prelude.{None, ℤ, pos}
use Rattle.bufr_tables.specs.declared.element.Kind.{Kind}
use Rattle.bufr_tables.specs.declared.element.Kind.TheVariants as kinds
use Rattle.bufr_tables.specs.Elements.{same_integer}
use Rattle.bufr_fields.specs.declared.field.Raw.{Raw}
use Rattle.bufr_fields.specs.declared.field.Raw.TheVariants as raws
use Rattle.bufr_fields.specs.declared.field.Field.{Field}
use Rattle.bufr_fields.specs.declared.field.Decimal.{Decimal}
use Rattle.bufr_fields.specs.Values.{is_missing, value}

-- goes on with a value, if there is one
infixl 10 ◌>>=◌
abbrev pub ◌>>=◌ : {A B : Type 0} → Option A → (A → Option B) → Option B
(Some x) >>= f = f x
None >>= f = None

-- ---- numbers

-- the units of a decimal with scale 0
abbrev pub whole : Option Decimal → Option ℤ
whole None = None
whole (Some d) = if same_integer d.scale (pos 0) then Some d.units else None

-- the number of a field, if it is not missing, is no text and has scale 0 by the operators in
-- force: raw value plus reference value (FM 94 BUFR, Table B)
abbrev pub usable_number : Field → Option ℤ
usable_number f = whole (value f)

-- ---- texts

-- a space or NUL
abbrev pub is_blank : ℕ → Bool
is_blank x = x == 32 || x == 0

-- puts an octet first, unless it is a last blank
abbrev pub unless_last_blank : ℕ → List ℕ → List ℕ
unless_last_blank x [] = if is_blank x then [] else x ∷ []
unless_last_blank x (y ∷ ys) = x ∷ y ∷ ys

-- the octets up to the last one that is no blank
abbrev pub without_last_blanks : List ℕ → List ℕ
without_last_blanks [] = []
without_last_blanks (x ∷ xs) = unless_last_blank x (without_last_blanks xs)

-- the octets, if there are any
abbrev pub some_octets : List ℕ → Option (List ℕ)
some_octets [] = None
some_octets (x ∷ xs) = Some (x ∷ xs)

-- the text of a kind and raw value, if it is not missing
abbrev pub text_by : Kind → Raw → Bool → Option (List ℕ)
text_by kinds.Text (raws.Text octets) missing =
    if missing then None else some_octets (without_last_blanks octets)
text_by kind raw missing = None

-- the text of a field, if it is of kind Text and neither missing nor blank
abbrev pub usable_text : Field → Option (List ℕ)
usable_text f = text_by f.spec.kind f.raw (is_missing f)

-- ---- of a subset

-- the first field of an element; only this one counts
abbrev pub first_field : ℕ → List Field → Option Field
first_field d fields = find (λ f. f.fxy == d) fields

-- the number that an element says
abbrev pub element_number : ℕ → List Field → Option ℤ
element_number d fields = first_field d fields >>= usable_number

-- the text of element 0 XX YYY
abbrev pub element_text : ℕ → List Field → Option (List ℕ)
element_text d fields = first_field d fields >>= usable_text
