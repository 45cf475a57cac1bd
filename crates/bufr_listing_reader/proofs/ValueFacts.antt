-- A field's line, read from the left, returns the field that prints it: for `read_value`.
use Rattle.std.proofs.Common.{◌≡◌, ℕ, zero, suc, ◌/◌, ◌≤◌, Bool, true, false, List, [], ◌∷◌, ◌++◌}
use Rattle.std.proofs.Common.{length, take, drop, replicate, codes, Ok, Err, refl, sym, ap, ◌∙◌}
use Rattle.std.proofs.Common.{subst, arith, inl, inr}
use Rattle.std.specs.Prelude.{ℤ, pos, negsuc, ◌==◌, ◌&&◌, not, Option, Some, None, option_map}
use Rattle.std.specs.Prelude.{FitsSigned, nat_lt, if◌then◌else◌}
use Rattle.std.specs.Int.{w64}
use Rattle.std.specs.List.{list_all, flat_map}
use Rattle.std.specs.Str.{bytes_eq}
use Rattle.std.specs.Int.RustNames.{unsigned_abs}
use Rattle.std.proofs.lemmas.Bool.{and_parts, and_from, cases_Bool, eqb-true, eq-eqb, true≢false}
use Rattle.std.proofs.lemmas.Bool.{cond-false}
use Rattle.std.proofs.lemmas.List.{take-append-drop}
use Rattle.std.proofs.lemmas.Option.{none-some, same_Some}
use Rattle.bufr_tables.specs.declared.element.Kind.{Kind}
use Rattle.bufr_tables.specs.declared.element.Kind.TheVariants as kinds
use Rattle.bufr_tables.specs.Descriptors.{six_digits}
use Rattle.bufr_tables.specs.Elements.{same_kind}
use Rattle.bufr_expand.specs.declared.operators.Spec.{Spec}
use Rattle.bufr_expand.specs.OperatorsInForce.{is_within}
use Rattle.bufr_fields.specs.declared.field.Raw.{Raw}
use Rattle.bufr_fields.specs.declared.field.Raw.TheVariants.{Number, Text}
use Rattle.bufr_fields.specs.declared.field.Field.{Field}
use Rattle.bufr_fields.specs.Forms.{has_form_by, matches_spec}
use Rattle.bufr_fields.specs.FormLaws.{spec_is_same}
use Rattle.bufr_listing.specs.declared.fault.ListingFault.TheVariants.{BadLine, BadValue}
use Rattle.bufr_listing.specs.Listings.{quoted_octet, quoted, value_word, field_line}
use Rattle.bufr_listing_reader.specs.Lines.{has_octets, as_printed}
use Rattle.bufr_listing_reader.specs.FieldLines.{is_missing_word, raw_in, field_in, field_fault}
use Rattle.bufr_listing_reader.specs.FieldLines.{read_field}
use Rattle.bufr_listing_reader.specs.RawWords as words
use Rattle.bufr_listing_reader.specs.RawWords.{octets_of, octets_before, are_ones, unless_ones, number_of}
use Rattle.bufr_listing_reader.specs.RawWords.{raw_of_kind, raw_of}
use Rattle.bufr_listing_reader.proofs.FieldFacts.{bytes_same, same_bytes, all_255, IsPrintable}
use Rattle.bufr_listing_reader.proofs.FieldFacts.{read_field_back}
use Rattle.bufr_listing_reader.proofs.PrintedFacts.{own_printed, octets_printed}
use Rattle.bufr_listing_reader.proofs.QuotedFacts.{map_some, quoted_is, quoted_back}
use Rattle.bufr_listing_reader.proofs.PrintsFacts.{number_is, number_back}
use Rattle.bufr_listing_reader.proofs.ShownFacts.{field_plain}

-- ---- texts

abbrev has_octets_for : ℕ → List ℕ → Bool
has_octets_for width os = length os == width / 8 && list_all (λ x. nat_lt x 256) os

abbrev is_missing_text : ℕ → List ℕ → Bool
is_missing_text width os = has_octets_for width os && list_all (λ x. x == 255) os && not
    (width == 1) && not (same_kind kinds.Text kinds.Count)

abbrev print_text : Bool → List ℕ → List ℕ
print_text missing os = if missing then codes "missing" else quoted os

-- octets of the form that print the word
record TextIs (width : ℕ) (word os : List ℕ) : Type 0 where
  bits : has_octets_for width os ≡ true
  printed : print_text (is_missing_text width os) os ≡ word

-- all octets are 255
record AllOnes (k : ℕ) (os : List ℕ) : Type 0 where
  count : length os ≡ k
  small : list_all (λ x. nat_lt x 256) os ≡ true
  ones : list_all (λ x. x == 255) os ≡ true

all_ones : (k : ℕ) → AllOnes k (replicate k 255)
all_ones zero = record { count = refl; small = refl; ones = refl }
all_ones (suc k) = let h = all_ones k in
    record { count = ap suc h.count; small = h.small; ones = h.ones }

four : (p q a b : Bool) → (a && q) ≡ false → (p && q && a && b) ≡ false
four false q a b h = refl
four true false a b h = refl
four true true false b h = refl
four true true true b h = absurd cc

left_out : (p q a b : Bool) → p ≡ true → b ≡ true → (p && q && a && b) ≡ false → (a && q) ≡ false
left_out false q a b hp hb h = absurd cc
left_out true q a false hp hb h = absurd cc
left_out true false false true hp hb h = refl
left_out true false true true hp hb h = refl
left_out true true false true hp hb h = refl
left_out true true true true hp hb h = h

missing_text : (width : ℕ) (os : List ℕ)
    → (if not (width == 1) then Some (replicate (width / 8) 255) else None) ≡ Some os
    → TextIs width (codes "missing") os
missing_text width os h =
    elim (cases_Bool (not (width == 1))) [
      | inl may ↦
          let own = rw may at h in
          let ones = all_ones (width / 8) in
          let bits : has_octets_for width (replicate (width / 8) 255) ≡ true =
          and_from _ _ (eq-eqb (length (replicate (width / 8) 255)) (width / 8) ones.count)
          ones.small in
          let missing : is_missing_text width (replicate (width / 8) 255) ≡ true =
          and_from _ _ (and_from _ _ (and_from _ _ bits ones.ones) may) refl in
          subst (λ xs. TextIs width (codes "missing") xs)
          (same_Some (replicate (width / 8) 255) os own)
          (record {
            bits = bits;
            printed = ap (λ b. print_text b (replicate (width / 8) 255))
                missing;
          })
      | inr one ↦ absurd (let own = rw one at h in cc own)
    ]

-- octets of no missing value
record NotOnes (may : Bool) (o : Option (List ℕ)) (os : List ℕ) : Type 0 where
  is : o ≡ Some os
  other : (may && are_ones os) ≡ false

not_ones : (may : Bool) (o : Option (List ℕ)) (os : List ℕ) → unless_ones may o ≡ Some os
    → NotOnes may o os
not_ones may None os h = absurd cc
not_ones may (Some xs) os h =
    elim (cases_Bool (may && are_ones xs)) [
      | inl e ↦ absurd (let own : unless_ones may (Some xs) ≡ None = rw e refl in cc (sym own ∙ h))
      | inr e ↦
          let own : unless_ones may (Some xs) ≡ Some xs = rw e refl in
          subst (λ ys. NotOnes may (Some xs) ys) (same_Some xs os (sym own ∙ h))
          (record { is = refl; other = e })
    ]

quoted_word : (count : ℕ) (word os : List ℕ) → octets_of count word ≡ Some os
    → (length os ≡ count) × (list_all (λ x. nat_lt x 256) os ≡ true) × (quoted os ≡ word)
quoted_word count [] os h = absurd cc
quoted_word count (c ∷ rest) os h =
    elim (cases_Bool (c == 34)) [
      | inl e ↦
          let own : octets_of count (c ∷ rest) ≡ octets_before count rest = rw e refl in
          let q = quoted_is count rest os (sym own ∙ h) in
          (q.count, q.small, λ i. sym (eqb-true c 34 e) i ∷ q.spelled i)
      | inr e ↦ absurd (let own : octets_of count (c ∷ rest) ≡ None = rw e refl in cc (sym own ∙ h))
    ]

text_is : (width : ℕ) (word os : List ℕ) → words.text_of width word ≡ Some os → TextIs width word os
text_is width word os h =
    elim (cases_Bool (is_missing_word word)) [
      | inl is ↦
          let own : words.text_of width word
          ≡ (if not (width == 1) then Some (replicate (width / 8) 255) else None) = rw is refl in
          subst (λ w. TextIs width w os) (sym (bytes_same word (codes "missing") is))
          (missing_text width os (sym own ∙ h))
      | inr other ↦
          let own : words.text_of width word ≡ unless_ones (not (width == 1))
          (octets_of (width / 8) word) = rw other refl in
          let n = not_ones (not (width == 1)) (octets_of (width / 8) word) os (sym own ∙ h) in
          let q = quoted_word (width / 8) word os n.is in
          let missing : is_missing_text width os ≡ false =
          four (has_octets_for width os) (list_all (λ x. x == 255) os) (not (width == 1))
          (not (same_kind kinds.Text kinds.Count)) n.other in
          record {
            bits = and_from _ _ (eq-eqb (length os) (width / 8) q.0) q.1;
            printed =
                ap (λ b. print_text b os) missing ∙ q.2;
          }
    ]

text_by : (missing : Bool) (width : ℕ) (word os : List ℕ) → has_octets_for width os ≡ true
    → is_missing_text width os ≡ missing → print_text missing os ≡ word → words.text_of width word
    ≡ Some os
text_by true width word os bits is e =
    let a = and_parts (has_octets_for width os && list_all (λ x. x == 255) os && not (width == 1))
    (not (same_kind kinds.Text kinds.Count)) is in
    let b = and_parts (has_octets_for width os && list_all (λ x. x == 255) os)
    (not (width == 1)) a.0 in
    let ones = (and_parts (has_octets_for width os) (list_all (λ x. x == 255) os) b.0).1 in
    let count =
    eqb-true (length os) (width / 8)
    (and_parts (length os == width / 8) (list_all (λ x. nat_lt x 256) os) bits).0 in
    let missing : is_missing_word word ≡ true = same_bytes word (codes "missing") (sym e) in
    let own : words.text_of width word ≡ Some (replicate (width / 8) 255) =
    rw (missing, b.1) refl in
    own ∙ ap (λ k. Some (replicate k 255)) (sym count) ∙ ap Some (all_255 os ones)
text_by false width word os bits is e =
    let p = and_parts (length os == width / 8) (list_all (λ x. nat_lt x 256) os) bits in
    let count = eqb-true (length os) (width / 8) p.0 in
    let back : octets_of (width / 8) (quoted os) ≡ Some os =
    ap (λ k. octets_before k (flat_map quoted_octet os ++ 34 ∷ [])) (sym count)
    ∙ quoted_back os p.1 in
    let other : (not (width == 1) && are_ones os) ≡ false =
    left_out (has_octets_for width os) (list_all (λ x. x == 255) os) (not (width == 1))
    (not (same_kind kinds.Text kinds.Count)) bits refl is in
    let own : unless_ones (not (width == 1)) (Some os) ≡ Some os = rw other refl in
    ap (λ w. words.text_of width w) (sym e) ∙ ap (unless_ones (not (width == 1))) back ∙ own

text_back : (width : ℕ) (word os : List ℕ) → TextIs width word os → words.text_of width word
    ≡ Some os
text_back width word os h = text_by (is_missing_text width os) width word os h.bits refl h.printed

-- ---- raw values

-- a raw value of its spec's form whose field prints the word
record RawIs (d : ℕ) (spec : Spec) (word : List ℕ) (raw : Raw) : Type 0 where
  form : has_form_by spec.kind spec.width raw ≡ true
  printed : value_word (record { fxy = d; spec = spec; raw = raw }) ≡ word

raw_by_kind : (d : ℕ) (kind : Kind) (spec : Spec) (word : List ℕ) (raw : Raw)
    → raw_of_kind kind (record spec { kind = kind }) word ≡ Some raw
    → RawIs d (record spec { kind = kind }) word raw
raw_by_kind d kinds.Text spec word raw h =
    let p = map_some (words.text_of spec.width word) (λ octets. Text octets) raw h in
    let t = text_is spec.width word p.0 p.1 in
    subst (λ r. RawIs d (record spec { kind = kinds.Text }) word r) p.2
    (record { form = t.bits; printed = t.printed })
raw_by_kind d kind spec word raw h =
    let own : Spec = record spec { kind = kind } in
    let p = map_some (number_of own word) (λ n. Number n) raw h in
    let t = number_is own word p.0 p.1 in
    subst (λ r. RawIs d own word r) p.2 (record { form = t.bits; printed = t.printed })

back_by_kind : (d : ℕ) (kind : Kind) (spec : Spec) (word : List ℕ) (raw : Raw) → IsPrintable spec
    → has_form_by kind spec.width raw ≡ true
    → value_word (record { fxy = d; spec = record spec { kind = kind }; raw = raw }) ≡ word
    → raw_of_kind kind (record spec { kind = kind }) word ≡ Some raw
back_by_kind d kinds.Text spec word (Number n) fit form e = absurd cc
back_by_kind d kinds.Text spec word (Text os) fit form e =
    ap (option_map (λ octets. Text octets))
    (text_back spec.width word os (record { bits = form; printed = e }))
back_by_kind d kind spec word (Text os) fit form e = absurd cc
back_by_kind d kind spec word (Number n) fit form e =
    ap (option_map (λ n. Number n))
    (number_back (record spec { kind = kind }) n word
    (record { scale = fit.scale; reference = fit.reference })
    (record { bits = form; printed = e }))

if_some : {A : Type 0} (b : Bool) (o : Option A) (x : A) → (if b then o else None) ≡ Some x
    → (b ≡ true) × (o ≡ Some x)
if_some true o x h = (refl, h)
if_some false o x h = absurd cc

raw_is : (d : ℕ) (spec : Spec) (word : List ℕ) (raw : Raw) → raw_of spec word ≡ Some raw
    → (is_within 600 spec.scale ≡ true) × RawIs d spec word raw
raw_is d spec word raw h =
    let p = if_some (is_within 600 spec.scale) (raw_of_kind spec.kind spec word) raw h in
    (p.0, raw_by_kind d spec.kind spec word raw p.1)

raw_back : (d : ℕ) (spec : Spec) (word : List ℕ) (raw : Raw) → IsPrintable spec
    → has_form_by spec.kind spec.width raw ≡ true
    → value_word (record { fxy = d; spec = spec; raw = raw }) ≡ word → raw_of spec word ≡ Some raw
raw_back d spec word raw fit form e =
    rw fit.scale (back_by_kind d spec.kind spec word raw fit form e)

-- ---- lines

abs_fits : (z : ℤ) → FitsSigned w64 z → unsigned_abs z ≤ 9223372036854775808
abs_fits (pos n) fits = omega (arith, fits)
abs_fits (negsuc n) fits = omega (arith, fits)

line_is : (d : ℕ) (text : List ℕ) → bytes_eq (take 7 text) (six_digits d ++ 32 ∷ []) ≡ true
    → text ≡ six_digits d ++ 32 ∷ drop 7 text
line_is d text h =
    sym (take-append-drop 7 text) ∙ ap (λ t. t ++ drop 7 text)
    (bytes_same (take 7 text) (six_digits d ++ 32 ∷ []) h)

own_text : (d : ℕ) (text : List ℕ) → bytes_eq (take 7 text) (six_digits d ++ 32 ∷ []) ≡ true
    → as_printed text ≡ text
own_text d text h =
    own_printed text (ap has_octets (line_is d text h) ∙ field_plain d (drop 7 text))

not_plain : (d : ℕ) (text : List ℕ) → has_octets text ≡ true → bytes_eq (take 7 text)
    (six_digits d ++ 32 ∷ []) ≡ false
not_plain d text octets =
    elim (cases_Bool (bytes_eq (take 7 text) (six_digits d ++ 32 ∷ []))) [
      | inl h ↦ absurd (true≢false
          (sym octets ∙ ap has_octets (line_is d text h) ∙ field_plain d (drop 7 text)))
      | inr h ↦ h
    ]

front_printed : (d : ℕ) (text : List ℕ) → bytes_eq (take 7 text) (six_digits d ++ 32 ∷ []) ≡ false
    → bytes_eq (take 7 (as_printed text)) (six_digits d ++ 32 ∷ []) ≡ false
front_printed d text h =
    elim (cases_Bool (has_octets text)) [
      | inl octets ↦ not_plain d (as_printed text) (octets_printed text ∙ octets)
      | inr plain ↦
          ap (λ t. bytes_eq (take 7 t) (six_digits d ++ 32 ∷ [])) (own_printed text plain) ∙ h
    ]

pub value_some : (d : ℕ) (spec : Spec) (n : ℕ) (text : List ℕ) (raw : Raw)
    → FitsSigned w64 spec.reference → bytes_eq (take 7 text) (six_digits d ++ 32 ∷ []) ≡ true
    → raw_of spec (drop 7 text) ≡ Some raw
    → read_field d spec n (as_printed text) ≡ Ok (record { fxy = d; spec = spec; raw = raw })
value_some d spec n text raw fits begins h =
    let p = raw_is d spec (drop 7 text) raw h in
    let f : Field = record { fxy = d; spec = spec; raw = raw } in
    let stands : matches_spec d spec (record { fxy = d; spec = spec; raw = raw }) ≡ true =
    rw (spec_is_same spec, p.1.form, eq-eqb d d refl) refl in
    let line : field_line (record { fxy = d; spec = spec; raw = raw }) ≡ text =
    ap (λ w. six_digits d ++ 32 ∷ w) p.1.printed ∙ sym (line_is d text begins) in
    ap (read_field d spec n) (own_text d text begins ∙ sym line)
    ∙ read_field_back d spec n (record { fxy = d; spec = spec; raw = raw })
    (record { scale = p.0; reference = abs_fits spec.reference fits }) stands

-- the field read from a line, with its raw value
record Accepted (d : ℕ) (spec : Spec) (text : List ℕ) : Type 0 where
  raw : Raw
  line : text ≡ field_line (record { fxy = d; spec = spec; raw = raw })
  within : is_within 600 spec.scale ≡ true
  form : has_form_by spec.kind spec.width raw ≡ true

abbrev accepts : ℕ → Spec → List ℕ → Bool
accepts d spec text =
    is_within 600 spec.scale
    && has_form_by spec.kind spec.width (raw_in spec (drop 7 text))
    && bytes_eq (field_line (field_in d spec text)) text

accepted : (d : ℕ) (spec : Spec) (text : List ℕ) → accepts d spec text ≡ true → Accepted d spec text
accepted d spec text h =
    let q = and_parts (is_within 600 spec.scale && has_form_by spec.kind spec.width
    (raw_in spec (drop 7 text))) (bytes_eq (field_line (field_in d spec text)) text) h in
    let r = and_parts (is_within 600 spec.scale)
    (has_form_by spec.kind spec.width (raw_in spec (drop 7 text))) q.0 in
    record {
      raw = raw_in spec (drop 7 text);
      line =
          sym (bytes_same (field_line (field_in d spec text)) text q.1);
      within = r.0;
      form = r.1;
    }

pub value_none : (d : ℕ) (spec : Spec) (n : ℕ) (text : List ℕ) → FitsSigned w64 spec.reference
    → bytes_eq (take 7 text) (six_digits d ++ 32 ∷ []) ≡ true → raw_of spec (drop 7 text) ≡ None
    → read_field d spec n (as_printed text) ≡ Err (BadValue n)
value_none d spec n text fits begins h =
    ap (read_field d spec n) (own_text d text begins)
    ∙ elim (cases_Bool (accepts d spec text)) [
      | inl is ↦
          let a = accepted d spec text is in
          let word : value_word (record { fxy = d; spec = spec; raw = a.raw }) ≡ drop 7 text =
          sym (ap (drop 7) a.line) in
          absurd (none-some a.raw (sym h ∙ raw_back d spec (drop 7 text) a.raw
          (record { scale = a.within; reference = abs_fits spec.reference fits }) a.form word))
      | inr not ↦ cond-false (accepts d spec text) (Ok (field_in d spec text))
          (Err (field_fault d n text)) not ∙ rw begins refl
    ]

pub value_elsewhere : (d : ℕ) (spec : Spec) (n : ℕ) (text : List ℕ) → bytes_eq (take 7 text)
    (six_digits d ++ 32 ∷ []) ≡ false → read_field d spec n (as_printed text) ≡ Err (BadLine n)
value_elsewhere d spec n text other =
    let t = as_printed text in
    let no = front_printed d text other in
    elim (cases_Bool (accepts d spec (as_printed text))) [
      | inl is ↦
          let a = accepted d spec (as_printed text) is in
          absurd (true≢false
          (sym (same_bytes (take 7 (as_printed text)) (six_digits d ++ 32 ∷ [])
          (ap (take 7) a.line)) ∙ no))
      | inr not ↦ cond-false (accepts d spec t) (Ok (field_in d spec t)) (Err (field_fault d n t))
          not ∙ rw no refl
    ]
