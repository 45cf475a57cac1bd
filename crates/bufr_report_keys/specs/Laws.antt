-- The rules of keys in words.
use Rattle.std.specs.Prelude.{◌≡◌, ℕ, ◌≤◌, List, [], ◌∷◌, ◌++◌, Option, Some, None, ℤ, pos, ◌+ℤ◌}
use Rattle.std.specs.Prelude.{true, false}
use Rattle.std.specs.List.{AllByRecursion}
use Rattle.jiff.specs.Words.{IsDate}
use Rattle.bufr_tables.specs.declared.element.Kind.TheVariants as kinds
use Rattle.bufr_fields.specs.declared.field.Raw.TheVariants as raws
use Rattle.bufr_fields.specs.declared.field.Field.{Field}
use Rattle.bufr_fields.specs.Values.{is_missing}
use Rattle.bufr_entries.specs.declared.key.Moment.{Moment}
use Rattle.bufr_report_keys.specs.declared.elements.TheConstants.{YEAR, MONTH, DAY, HOUR, MINUTE}
use Rattle.bufr_report_keys.specs.declared.elements.TheConstants.{SECOND}
use Rattle.bufr_report_keys.specs.Usable.{usable_number, is_blank, usable_text, element_number}
use Rattle.bufr_report_keys.specs.Keys.{moment}

-- ---- usable values

-- a field is not missing, is no text and has scale 0 by the operators in force; its raw value and
-- reference value make z
pub record IsUsable (f : Field) (z : ℤ) : Type 0 where
  pub raw : ℕ
  pub number : f.raw ≡ raws.Number raw
  pub no_text : f.spec.kind ≡ kinds.Text → ⊥
  pub there : is_missing f ≡ false
  pub whole : f.spec.scale ≡ pos 0
  pub is : z ≡ pos raw +ℤ f.spec.reference

-- a field is not missing and of kind Text; its octets are this text and then blanks, and the text
-- ends with no blank
pub record IsUsableText (f : Field) (text : List ℕ) : Type 0 where
  pub kind : f.spec.kind ≡ kinds.Text
  pub there : is_missing f ≡ false
  pub blanks : List ℕ
  pub octets : f.raw ≡ raws.Text (text ++ blanks)
  pub blank : AllByRecursion (λ x. is_blank x ≡ true) blanks
  pub front : List ℕ
  pub last : ℕ
  pub ends : text ≡ front ++ last ∷ []
  pub no_blank : is_blank last ≡ false

-- a usable number is that of such a field,
abbrev pub UsableNumbersAre : Type 0
UsableNumbersAre = (f : Field) (z : ℤ) → usable_number f ≡ Some z → IsUsable f z

-- and each such field has a usable number
abbrev pub UsableNumbersOnly : Type 0
UsableNumbersOnly = (f : Field) (z : ℤ) → IsUsable f z → usable_number f ≡ Some z

-- a usable text is that of such a field,
abbrev pub UsableTextsAre : Type 0
UsableTextsAre = (f : Field) (text : List ℕ) → usable_text f ≡ Some text → IsUsableText f text

-- and each such field has a usable text
abbrev pub UsableTextsOnly : Type 0
UsableTextsOnly = (f : Field) (text : List ℕ) → IsUsableText f text → usable_text f ≡ Some text

-- ---- the time

-- a minute or second, or 0 if it is absent
abbrev pub SaidOrZero : Option ℤ → ℕ → Type 0
SaidOrZero None n = n ≡ 0
SaidOrZero (Some z) n = z ≡ pos n

-- the fields have this time: a date of the civil calendar in the years 1 to 9999, and an hour,
-- minute and second
pub record IsSaid (fields : List Field) (m : Moment) : Type 0 where
  pub year : element_number YEAR fields ≡ Some (pos m.year)
  pub month : element_number MONTH fields ≡ Some (pos m.month)
  pub day : element_number DAY fields ≡ Some (pos m.day)
  pub hour : element_number HOUR fields ≡ Some (pos m.hour)
  pub minute : SaidOrZero (element_number MINUTE fields) m.minute
  pub second : SaidOrZero (element_number SECOND fields) m.second
  pub date : IsDate (pos m.year) (pos m.month) (pos m.day)
  pub from_year_1 : 1 ≤ m.year
  pub hours : m.hour ≤ 23
  pub minutes : m.minute ≤ 59
  pub seconds : m.second ≤ 59

-- a moment is the time of the fields,
abbrev pub MomentsAreSaid : Type 0
MomentsAreSaid = (fields : List Field) (m : Moment) → moment fields ≡ Some m → IsSaid fields m

-- and the time of the fields is the moment
abbrev pub SaidMomentsAre : Type 0
SaidMomentsAre = (fields : List Field) (m : Moment) → IsSaid fields m → moment fields ≡ Some m
