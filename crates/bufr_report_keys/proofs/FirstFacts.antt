-- First values, field by field, and the key that they make: for `note_handed`, `note_listed`,
-- `key_in` and `key_of_fields`.
use Rattle.std.proofs.Common.{◌≡◌, ℕ, ◌==◌, Bool, true, false, List, [], ◌∷◌, ◌++◌, Option, Some}
use Rattle.std.proofs.Common.{None, refl, sym, ap, subst, ◌∙◌, append_assoc, cond, length, drop}
use Rattle.std.proofs.Common.{slice_index_or, ◌+◌, ◌<◌, ◌≤◌, ℤ, pos}
use Rattle.std.specs.Option.{option_map, option_or, option_flatten}
use Rattle.std.proofs.lemmas.Bool.{eqb-false, eqb-true, or_parts}
use Rattle.std.proofs.lemmas.List.{append-nil, drop_all, drop_more}
use Rattle.std.proofs.lemmas.List.Folds.{find-append}
use Rattle.bufr_tables.specs.declared.element.Kind.{Kind}
use Rattle.bufr_tables.specs.declared.element.Kind.TheVariants as kinds
use Rattle.bufr_fields.specs.declared.field.Field.{Field}
use Rattle.bufr_fields.specs.declared.field.NumberField.{NumberField}
use Rattle.bufr_fields.specs.declared.field.Raw.TheVariants.{Number}
use Rattle.bufr_fields.specs.Values.{as_field, is_missing}
use Rattle.bufr_data.specs.declared.short.ShortNumber.{ShortNumber}
use Rattle.bufr_data.specs.Short.{HandsOutShort, HasShort}
use Rattle.bufr_data.specs.Chosen.{chosen, is_listed}
use Rattle.bufr_data.specs.Handed.{HandsOut, HandsOutAsked, NoneAsked, PassesUnasked}
use Rattle.bufr_message.specs.declared.report.ReportHead.{ReportHead}
use Rattle.bufr_report_keys.specs.declared.first_values.FirstValues.{FirstValues}
use Rattle.bufr_report_keys.specs.declared.elements.TheConstants.{BLOCK_NUMBER, STATION_NUMBER}
use Rattle.bufr_report_keys.specs.declared.elements.TheConstants.{MOBILE_IDENTIFIER, WIGOS_SERIES}
use Rattle.bufr_report_keys.specs.declared.elements.TheConstants.{WIGOS_ISSUER, WIGOS_ISSUE_NUMBER}
use Rattle.bufr_report_keys.specs.declared.elements.TheConstants.{WIGOS_LOCAL_IDENTIFIER, YEAR}
use Rattle.bufr_report_keys.specs.declared.elements.TheConstants.{MONTH, DAY, HOUR, MINUTE, SECOND}
use Rattle.bufr_report_keys.specs.Usable.{◌>>=◌, first_field, element_number, element_text}
use Rattle.bufr_report_keys.specs.Usable.{usable_number, usable_text, whole, text_by}
use Rattle.bufr_report_keys.specs.Keys.{station, moment, key}
use Rattle.bufr_report_keys.specs.Asked.{elements, is_asked}
use Rattle.bufr_report_keys.specs.FirstValues.{first_number, first_text, first_values, known, noted}
use Rattle.bufr_report_keys.specs.FirstValues.{all_noted, station_of, moment_of, key_of}
use Rattle.bufr_report_keys.specs.FirstValues.{numbered, short_noted}

-- ---- one more field

known_or : {A : Type 0} (value : Field → A) (before : Option Field) (is : Bool) (f : Field)
    → option_map value (option_or before (cond is (Some f) None))
    ≡ known is (option_map value before) (Some (value f))
known_or value (Some g) true f = refl
known_or value (Some g) false f = refl
known_or value None true f = refl
known_or value None false f = refl

module _ (front : List Field) (f : Field) where
  behind : {A : Type 0} (value : Field → A) (d : ℕ)
      → option_map value (first_field d (front ++ f ∷ []))
      ≡ known (f.fxy == d) (option_map value (first_field d front)) (Some (value f))
  behind value d =
      ap (option_map value) (find-append (λ g. g.fxy == d) front (f ∷ []))
      ∙ known_or value (first_field d front) (f.fxy == d) f

  number : (d : ℕ) → first_number d (front ++ f ∷ [])
      ≡ known (f.fxy == d) (first_number d front) (Some (usable_number f))
  number d = behind usable_number d

  text : (d : ℕ) → first_text d (front ++ f ∷ [])
      ≡ known (f.fxy == d) (first_text d front) (Some (usable_text f))
  text d = behind usable_text d

  pub one_noted : first_values (front ++ f ∷ []) ≡ noted f (first_values front)
  one_noted =
      rw (
        number BLOCK_NUMBER,
        number STATION_NUMBER,
        text MOBILE_IDENTIFIER,
        number WIGOS_SERIES,
        number WIGOS_ISSUER,
        number WIGOS_ISSUE_NUMBER,
        text WIGOS_LOCAL_IDENTIFIER,
        number YEAR,
        number MONTH,
        number DAY,
        number HOUR,
        number MINUTE,
        number SECOND,
      ) refl

-- ---- fields of other elements

by_other : {A : Type 0} (is : Bool) (before said : Option A) → is ≡ false
    → known is before said ≡ before
by_other false before said h = refl
by_other true before said h = absurd cc

is_other : (d e : ℕ) → is_asked d ≡ false → is_asked e ≡ true → (d == e) ≡ false
is_other d e unasked asked = by_test (d == e) refl
  where
    by_test : (is : Bool) → (d == e) ≡ is → is ≡ false
    by_test false h = refl
    by_test true h =
        let same : d ≡ e = eqb-true d e h in
        let unasked_too : is_asked e ≡ false = subst (λ c. is_asked c ≡ false) same unasked in
        absurd cc

module _ (f : Field) (unasked : is_asked f.fxy ≡ false) where
  other : {A : Type 0} (d : ℕ) (before said : Option A) → is_asked d ≡ true
      → known (f.fxy == d) before said ≡ before
  other d before said asked =
      by_other (f.fxy == d) before said (is_other f.fxy d unasked asked)

  pub not_noted : (values : FirstValues) → noted f values ≡ values
  not_noted values =
      let n = Some (usable_number f) in
      let t = Some (usable_text f) in
      rw (
        other BLOCK_NUMBER values.block n refl,
        other STATION_NUMBER values.station n refl,
        other MOBILE_IDENTIFIER values.mobile t refl,
        other WIGOS_SERIES values.series n refl,
        other WIGOS_ISSUER values.issuer n refl,
        other WIGOS_ISSUE_NUMBER values.issue n refl,
        other WIGOS_LOCAL_IDENTIFIER values.local t refl,
        other YEAR values.year n refl,
        other MONTH values.month n refl,
        other DAY values.day n refl,
        other HOUR values.hour n refl,
        other MINUTE values.minute n refl,
        other SECOND values.second n refl,
      ) refl

-- ---- all fields

noted_behind : (front rest : List Field)
    → all_noted rest (first_values front) ≡ first_values (front ++ rest)
unfolding all_noted
noted_behind front [] = ap first_values (sym (append-nil front))
noted_behind front (f ∷ rest) =
    ap (all_noted rest) (sym (one_noted front f)) ∙ noted_behind (front ++ f ∷ []) rest
    ∙ ap first_values (append_assoc front (f ∷ []) rest)

pub are_noted : (fields : List Field) → all_noted fields (first_values []) ≡ first_values fields
are_noted fields = noted_behind [] fields

passed : (unasked rest : List Field) (values : FirstValues) → NoneAsked is_asked unasked
    → all_noted (unasked ++ rest) values ≡ all_noted rest values
unfolding all_noted
passed [] rest values none = refl
passed (f ∷ unasked) rest values none =
    ap (all_noted (unasked ++ rest)) (not_noted f none.0 values)
    ∙ passed unasked rest values none.1

pub all_passed : (old new : List Field) (values : FirstValues) → PassesUnasked is_asked old new
    → all_noted old values ≡ all_noted new values
all_passed old new values by =
    ap (λ fields. all_noted fields values) by.2 ∙ passed by.0 new values by.1

pub next_noted : (old new : List Field) (f : Field) (values : FirstValues)
    → HandsOutAsked is_asked old (Some f) new
    → all_noted old values ≡ all_noted new (noted f values)
unfolding all_noted
next_noted old new f values handed =
    ap (λ fields. all_noted fields values) handed.3
    ∙ passed handed.0 (f ∷ new) values handed.1

pub none_left : (old new : List Field) (found : Option Field) (values : FirstValues)
    → HandsOutAsked is_asked old found new → ((f : Field) → found ≡ Some f → ⊥)
    → all_noted old values ≡ values
unfolding all_noted
none_left old new (Some f) values handed none = absurd (none f refl)
none_left old new None values handed none =
    ap (λ fields. all_noted fields values) (sym (append-nil old)) ∙ passed old [] values handed.0

-- ---- fields of keys alone

pub handed_noted : (old new : List Field) (f : Field) (values : FirstValues)
    → HandsOut old (Some f) new → all_noted old values ≡ all_noted new (noted f values)
unfolding all_noted
handed_noted old new f values handed = ap (λ fields. all_noted fields values) handed

pub none_handed : (old new : List Field) (found : Option Field) (values : FirstValues)
    → HandsOut old found new → ((f : Field) → found ≡ Some f → ⊥)
    → all_noted old values ≡ values
unfolding all_noted
none_handed old new (Some f) values handed none = absurd (none f refl)
none_handed old new None values handed none =
    ap (λ fields. all_noted fields values) handed.0

-- ---- short numbers

-- all values after a field of element d with this number and text
abbrev told : ℕ → Option ℤ → Option (List ℕ) → FirstValues → FirstValues
told d number text values = record (numbered d (Some number) values) {
  mobile = known (d == MOBILE_IDENTIFIER) values.mobile (Some text);
  local = known (d == WIGOS_LOCAL_IDENTIFIER) values.local (Some text);
}

whole_short : (number : Option ℕ)
    → whole (option_map (λ n. record { units = pos n; scale = pos 0 }) number)
    ≡ option_map pos number
whole_short None = refl
whole_short (Some n) = refl

number_has_no_text : (kind : Kind) (n : ℕ) (missing : Bool)
    → text_by kind (Number n) missing ≡ None
number_has_no_text kinds.Text n missing = refl
number_has_no_text kinds.Code n missing = refl
number_has_no_text kinds.Flag n missing = refl
number_has_no_text kinds.Quantity n missing = refl
number_has_no_text kinds.Count n missing = refl

short_is_noted : (f : NumberField) (short : ShortNumber) (values : FirstValues)
    → HasShort f short
    → noted (as_field f) values ≡ short_noted short.fxy (option_map pos short.number) values
short_is_noted f short values has =
    let field = as_field f in
    let usable : usable_number field ≡ option_map pos short.number =
    ap whole has.1 ∙ whole_short short.number in
    let text = number_has_no_text f.spec.kind f.number (is_missing field) in
    ap (λ d. told d (usable_number field) (usable_text field) values) has.0
    ∙ ap (λ n. told short.fxy n (usable_text field) values) usable
    ∙ ap (λ t. told short.fxy (option_map pos short.number) t values) text

pub short_handed : (old new : List Field) (short : ShortNumber) (values : FirstValues)
    → HandsOutShort old short new
    → all_noted old values
    ≡ all_noted new (short_noted short.fxy (option_map pos short.number) values)
short_handed old new short values handed =
    handed_noted old new (as_field handed.0) values handed.2
    ∙ ap (all_noted new) (short_is_noted handed.0 short values handed.1)

-- a test with its sides exchanged
other_side : (a b : ℕ) → (a == b) ≡ false → (b == a) ≡ false
other_side a b differ = by_test (b == a) refl
  where
    by_test : (is : Bool) → (b == a) ≡ is → is ≡ false
    by_test false h = refl
    by_test true h = absurd (eqb-false a b differ (sym (eqb-true b a h)))

-- an element that is in no list of elements of keys
not_listed : (f : Field) (values : FirstValues) → is_listed elements f.fxy ≡ false
    → noted f values ≡ values
not_listed f values unlisted =
    let n = Some (usable_number f) in
    let t = Some (usable_text f) in
    let a = or_parts _ _ unlisted in
    let b = or_parts _ _ a.1 in
    let c = or_parts _ _ b.1 in
    let d = or_parts _ _ c.1 in
    let e = or_parts _ _ d.1 in
    let g = or_parts _ _ e.1 in
    let h = or_parts _ _ g.1 in
    let i = or_parts _ _ h.1 in
    let j = or_parts _ _ i.1 in
    let k = or_parts _ _ j.1 in
    let l = or_parts _ _ k.1 in
    let m = or_parts _ _ l.1 in
    let o = or_parts _ _ m.1 in
    rw (
      by_other (f.fxy == BLOCK_NUMBER) values.block n (other_side BLOCK_NUMBER f.fxy a.0),
      by_other (f.fxy == STATION_NUMBER) values.station n (other_side STATION_NUMBER f.fxy b.0),
      by_other (f.fxy == MOBILE_IDENTIFIER) values.mobile t (other_side MOBILE_IDENTIFIER f.fxy c.0),
      by_other (f.fxy == WIGOS_SERIES) values.series n (other_side WIGOS_SERIES f.fxy d.0),
      by_other (f.fxy == WIGOS_ISSUER) values.issuer n (other_side WIGOS_ISSUER f.fxy e.0),
      by_other (f.fxy == WIGOS_ISSUE_NUMBER) values.issue n (other_side WIGOS_ISSUE_NUMBER f.fxy g.0),
      by_other (f.fxy == WIGOS_LOCAL_IDENTIFIER) values.local t (other_side WIGOS_LOCAL_IDENTIFIER f.fxy h.0),
      by_other (f.fxy == YEAR) values.year n (other_side YEAR f.fxy i.0),
      by_other (f.fxy == MONTH) values.month n (other_side MONTH f.fxy j.0),
      by_other (f.fxy == DAY) values.day n (other_side DAY f.fxy k.0),
      by_other (f.fxy == HOUR) values.hour n (other_side HOUR f.fxy l.0),
      by_other (f.fxy == MINUTE) values.minute n (other_side MINUTE f.fxy m.0),
      by_other (f.fxy == SECOND) values.second n (other_side SECOND f.fxy o.0),
    ) refl

one_chosen : (listed : Bool) (f : Field) (left all : List Field) (values : FirstValues)
    → is_listed elements f.fxy ≡ listed
    → ((vs : FirstValues) → all_noted left vs ≡ all_noted all vs)
    → all_noted (cond listed (f ∷ left) left) values ≡ all_noted (f ∷ all) values
unfolding all_noted
one_chosen true f left all values is same = same (noted f values)
one_chosen false f left all values is same =
    same values ∙ ap (all_noted all) (sym (not_listed f values is))

-- the fields of keys say what all fields do
pub chosen_noted : (fields : List Field) (values : FirstValues)
    → all_noted (chosen elements fields) values ≡ all_noted fields values
unfolding all_noted
chosen_noted [] values = refl
chosen_noted (f ∷ fields) values =
    one_chosen _ f (chosen elements fields) fields values refl
    (λ vs. chosen_noted fields vs)

-- ---- one field of a list

pub none_behind : (fields : List Field) (k : ℕ) (values : FirstValues) → length fields ≤ k
    → all_noted (drop k fields) values ≡ values
unfolding all_noted
none_behind fields k values h = ap (λ left. all_noted left values) (drop_all k fields h)

module _ (fields : List Field) (k : ℕ) (f : Field) (values : FirstValues)
    (is : f ≡ slice_index_or fields k f) (inside : k < length fields) where
  in_front : all_noted (drop k fields) values ≡ all_noted (drop (k + 1) fields) (noted f values)
  unfolding all_noted
  in_front =
      ap (λ left. all_noted left values)
      (drop_more fields k f inside ∙ ap (λ g. g ∷ drop (k + 1) fields) (sym is))

  pub asked_noted : (after : FirstValues) → after ≡ noted f values
      → all_noted (drop (k + 1) fields) after ≡ all_noted (drop k fields) values
  asked_noted after noted_now = ap (all_noted (drop (k + 1) fields)) noted_now ∙ sym in_front

  pub unasked_passed : (after : FirstValues) → is_asked f.fxy ≡ false → after ≡ values
      → all_noted (drop (k + 1) fields) after ≡ all_noted (drop k fields) values
  unasked_passed after unasked same =
      ap (all_noted (drop (k + 1) fields)) (same ∙ sym (not_noted f unasked values))
      ∙ sym in_front

-- ---- the key of first values

module _ (fields : List Field) where
  of_first : {A : Type 0} (usable : Field → Option A) (first : Option Field)
      → option_flatten (option_map usable first) ≡ (first >>= usable)
  of_first usable None = refl
  of_first usable (Some f) = refl

  number_said : (d : ℕ) → option_flatten (first_number d fields) ≡ element_number d fields
  number_said d = of_first usable_number (first_field d fields)

  text_said : (d : ℕ) → option_flatten (first_text d fields) ≡ element_text d fields
  text_said d = of_first usable_text (first_field d fields)

  station_said : station_of (first_values fields) ≡ station fields
  station_said =
      rw (
        number_said BLOCK_NUMBER,
        number_said STATION_NUMBER,
        number_said WIGOS_SERIES,
        number_said WIGOS_ISSUER,
        number_said WIGOS_ISSUE_NUMBER,
        text_said WIGOS_LOCAL_IDENTIFIER,
        text_said MOBILE_IDENTIFIER,
      ) refl

  moment_said : moment_of (first_values fields) ≡ moment fields
  moment_said =
      rw (
        number_said YEAR,
        number_said MONTH,
        number_said DAY,
        number_said HOUR,
        number_said MINUTE,
        number_said SECOND,
      ) refl

  pub key_said : (head : ReportHead) → key_of head (first_values fields) ≡ key head fields
  key_said head = rw (station_said, moment_said) refl
