-- The raw value read from a field's line is the only one that prints it: for the laws of listings.
use Rattle.std.proofs.Common.{◌≡◌, ℕ, suc, ◌+◌, ◌/◌, ◌%◌, ◌^◌, ◌<◌, ◌≤◌, Bool, true, false, List}
use Rattle.std.proofs.Common.{[], ◌∷◌, ◌++◌, length, drop, replicate, codes, refl, sym, ap, ◌∙◌}
use Rattle.std.proofs.Common.{subst, arith, append_assoc, inl, inr}
use Rattle.std.specs.Prelude.{ℤ, pos, negsuc, ◌+ℤ◌, ◌-ℤ◌, ◌==◌, ◌&&◌, not, None, Result, Ok, Err}
use Rattle.std.specs.Prelude.{nat_lt, nat_le, if◌then◌else◌}
use Rattle.std.specs.List.{flat_map, list_all}
use Rattle.std.specs.Str.{bytes_eq}
use Rattle.std.specs.Int.RustNames.{unsigned_abs}
use Rattle.std.proofs.lemmas.Bool.{and_parts, and_from, cases_Bool, ltb-true, leb-true, eqb-true}
use Rattle.std.proofs.lemmas.Bool.{not-true, eq-eqb, cond-true, cond-false, false_from_ne_true}
use Rattle.std.proofs.Math.Nat.{pow-le-pow_right}
use Rattle.std.proofs.Math.IntN.{+ℤ-neg_ℤ_cancel}
use Rattle.std.proofs.lemmas.Int.{ints}
use Rattle.std.proofs.lemmas.Slice.Eq.{bytes_eq-Decides}
use Rattle.hex.specs.Hex.{encode_with, encode_lower}
use Rattle.hex.proofs.HexLemmas.{IsDigits-lower_digits}
use Rattle.bufr_tables.specs.declared.element.Kind.{Kind}
use Rattle.bufr_tables.specs.declared.element.Kind.TheVariants as kinds
use Rattle.bufr_base.specs.AnswerLaws.{passed_ok}
use Rattle.bufr_expand.specs.declared.operators.Spec.{Spec}
use Rattle.bufr_expand.specs.OperatorsInForce.{is_within}
use Rattle.bufr_fields.specs.declared.field.Raw.{Raw}
use Rattle.bufr_fields.specs.declared.field.Raw.TheVariants.{Number, Text}
use Rattle.bufr_fields.specs.declared.field.Field.{Field}
use Rattle.bufr_fields.specs.Forms.{has_form_by, matches_spec, same_spec}
use Rattle.bufr_fields.specs.Values.{size_of, is_all_ones, is_missing, decimal_within, text_of}
use Rattle.bufr_fields.specs.DecimalTextLaws.{units_of_text, no_letter}
use Rattle.bufr_fields.specs.FormLaws.{same_spec_is, spec_is_same}
use Rattle.bufr_listing.specs.Listings.{field_line}
use Rattle.bufr_listing.specs.Listings.{quoted_octet, quoted, number_word, value_word}
use Rattle.bufr_listing_reader.specs.FieldLines.{octet_at, behind_octet, unquoted, is_missing_word}
use Rattle.bufr_listing_reader.specs.FieldLines.{natural_part, text_in, number_in, raw_in, field_in}
use Rattle.bufr_listing_reader.specs.FieldLines.{field_fault, read_field}

-- ---- tests

pub bytes_same : (xs ys : List ℕ) → bytes_eq xs ys ≡ true → xs ≡ ys
bytes_same xs ys e = (bytes_eq-Decides xs ys).0 e

pub same_bytes : (xs ys : List ℕ) → xs ≡ ys → bytes_eq xs ys ≡ true
same_bytes xs ys e = (bytes_eq-Decides xs ys).1 e

pub other_bytes : (xs ys : List ℕ) → (xs ≡ ys → ⊥) → bytes_eq xs ys ≡ false
other_bytes xs ys different =
    false_from_ne_true (bytes_eq xs ys) (λ same. different (bytes_same xs ys same))

pub if_answered : {A F : Type 0} (b : Bool) (r : Result A F) (e : F) (x : A)
    → (if b then r else Err e) ≡ Ok x → (b ≡ true) × (r ≡ Ok x)
if_answered true r e x h = (refl, h)
if_answered false r e x h = absurd cc

pub refused : {A F : Type 0} (b : Bool) (r : Result A F) (e : F) → (b ≡ true → ⊥)
    → (if b then r else Err e) ≡ Err e
refused b r e h = cond-false b r (Err e) (false_from_ne_true b h)

-- ---- quoted octets

escaped_back : (c : ℕ) (more : List ℕ) → c < 256 → octet_at (92 ∷ encode_lower (c ∷ []) ++ more) ≡ c
unfolding encode_with
escaped_back c more small =
    let high = IsDigits-lower_digits (c / 16) (omega arith) in
    let low = IsDigits-lower_digits (c % 16) (omega arith) in
    rw (high, low) (omega arith)

escaped_behind : (c : ℕ) (more : List ℕ) → behind_octet (92 ∷ encode_lower (c ∷ []) ++ more) ≡ more
unfolding encode_with
escaped_behind c more = refl

plain_back : (c : ℕ) (more : List ℕ) → (c == 92) ≡ false → (octet_at (c ∷ more) ≡ c)
    × (behind_octet (c ∷ more) ≡ more)
plain_back c more e = (rw e refl, rw e refl)

octet_by : (printed : Bool) (c : ℕ) (more : List ℕ) → c < 256 → (printed ≡ true → (c == 92) ≡ false)
    → (octet_at ((if printed then c ∷ [] else 92 ∷ encode_lower (c ∷ [])) ++ more) ≡ c)
    × (behind_octet ((if printed then c ∷ [] else 92 ∷ encode_lower (c ∷ [])) ++ more) ≡ more)
octet_by true c more small plain = plain_back c more (plain refl)
octet_by false c more small plain = (escaped_back c more small, escaped_behind c more)

octet_back : (c : ℕ) (more : List ℕ) → c < 256 → (octet_at (quoted_octet c ++ more) ≡ c)
    × (behind_octet (quoted_octet c ++ more) ≡ more)
octet_back c more small =
    octet_by (nat_le 32 c && nat_le c 126 && not (c == 34) && not (c == 92)) c more small
    (λ e. not-true (c == 92) (and_parts (nat_le 32 c && nat_le c 126 && not (c == 34))
    (not (c == 92)) e).1)

-- reading quoted octets returns them
unquoted_back : (os more : List ℕ) → list_all (λ x. nat_lt x 256) os ≡ true → unquoted (length os)
    (flat_map quoted_octet os ++ more) ≡ os
unfolding unquoted
unquoted_back [] more h = refl
unquoted_back (c ∷ os) more h =
    let p = and_parts (nat_lt c 256) (list_all (λ x. nat_lt x 256) os) h in
    let back = octet_back c (flat_map quoted_octet os ++ more) (ltb-true c 256 p.0) in
    rw (append_assoc (quoted_octet c) (flat_map quoted_octet os) more, back.0, back.1)
    (ap (λ xs. c ∷ xs) (unquoted_back os more p.1))

pub all_255 : (os : List ℕ) → list_all (λ x. x == 255) os ≡ true → replicate (length os) 255 ≡ os
all_255 [] h = refl
all_255 (c ∷ os) h =
    let p = and_parts (c == 255) (list_all (λ x. x == 255) os) h in
    λ i. sym (eqb-true c 255 p.0) i ∷ all_255 os p.1 i

text_by : (missing : Bool) (count : ℕ) (os : List ℕ) → length os ≡ count
    → list_all (λ x. nat_lt x 256) os ≡ true → (missing ≡ true → list_all (λ x. x == 255) os ≡ true)
    → text_in count (if missing then codes "missing" else quoted os) ≡ os
text_by true count os len small ones = rw (sym len) (all_255 os (ones refl))
text_by false count os len small ones = rw (sym len) (unquoted_back os (34 ∷ []) small)

-- ---- numbers

-- specs whose numbers decimals can print
pub record IsPrintable (spec : Spec) : Type 0 where
  pub scale : is_within 600 spec.scale ≡ true
  pub reference : unsigned_abs spec.reference ≤ 9223372036854775808

pub size_small : (n : ℕ) (reference : ℤ) → n < 18446744073709551616
    → unsigned_abs reference ≤ 9223372036854775808 → size_of (pos n +ℤ reference) < 10 ^ 64
size_small n (pos m) small within = omega (arith, small, within)
size_small n (negsuc m) small within = elim (cases_Bool (nat_lt n (suc m))) [
  | inl below ↦ grind (arith, ints)
  | inr above ↦ grind (arith, ints)
]

natural_back : (n : ℕ) (reference : ℤ) → natural_part (pos n +ℤ reference -ℤ reference) ≡ n
natural_back n reference = ap natural_part (+ℤ-neg_ℤ_cancel (pos n) reference)

number_back : (spec : Spec) (n : ℕ) → IsPrintable spec → n < 18446744073709551616
    → number_in spec (text_of (record { units = pos n +ℤ spec.reference; scale = spec.scale })) ≡ n
number_back spec n fit small =
    let size = size_small n spec.reference small fit.reference in
    let units = pos n +ℤ spec.reference in
    let word = text_of (record { units = units; scale = spec.scale }) in
    let not_missing : is_missing_word word ≡ false =
    other_bytes word (codes "missing") (λ e. no_letter units spec.scale _ size e) in
    rw (not_missing, units_of_text units spec.scale size) (natural_back n spec.reference)

number_by : (missing : Bool) (spec : Spec) (n : ℕ) → IsPrintable spec → n < 18446744073709551616
    → (missing ≡ true → n + 1 ≡ 2 ^ spec.width)
    → number_in spec (if missing then codes "missing" else number_word
    (if missing then None else decimal_within (pos n +ℤ spec.reference) spec.scale)) ≡ n
number_by true spec n fit small ones = let e = ones refl in omega (arith, e)
number_by false spec n fit small ones = rw fit.scale (number_back spec n fit small)

missing_ones : (f : Field) → is_missing f ≡ true → is_all_ones f.spec.width f.raw ≡ true
missing_ones f e =
    let a = (and_parts _ _ e).0 in let b = (and_parts _ _ a).0 in (and_parts _ _ b).1

pub number_small : (width n : ℕ) → (nat_le width 64 && nat_lt n (2 ^ width)) ≡ true
    → n < 18446744073709551616
number_small width n form =
    let p = and_parts (nat_le width 64) (nat_lt n (2 ^ width)) form in
    let most = pow-le-pow_right {n = 2} (omega arith) {i = width} {j = 64}
    (leb-true width 64 p.0) in
    omega (arith, most, ltb-true n (2 ^ width) p.1)

-- reading a field's word returns its raw value
pub raw_back : (d : ℕ) (spec : Spec) (raw : Raw) → has_form_by spec.kind spec.width raw ≡ true
    → IsPrintable spec → raw_in spec (value_word (record { fxy = d; spec = spec; raw = raw })) ≡ raw
raw_back d spec raw form fit = raw_by_kind spec.kind raw form
  where
    raw_by_kind : (kind : Kind) (raw : Raw) → has_form_by kind spec.width raw ≡ true
        → raw_in (record spec { kind = kind })
        (value_word (record { fxy = d; spec = record spec { kind = kind }; raw = raw })) ≡ raw
    raw_by_kind kinds.Text (Number n) form = absurd cc
    raw_by_kind kinds.Text (Text os) form =
        let own : Spec = record spec { kind = kinds.Text } in
        let f : Field = record { fxy = d; spec = own; raw = Text os } in
        let p = and_parts (length os == spec.width / 8) (list_all (λ x. nat_lt x 256) os) form in
        ap Text (text_by (is_missing f) (spec.width / 8) os
        (eqb-true (length os) (spec.width / 8) p.0) p.1 (λ e. missing_ones f e))
    raw_by_kind kind (Text os) form = absurd cc
    raw_by_kind kind (Number n) form =
        let own : Spec = record spec { kind = kind } in
        let f : Field = record { fxy = d; spec = own; raw = Number n } in
        ap Number (number_by (is_missing f) spec n fit (number_small spec.width n form)
        (λ e. eqb-true (n + 1) (2 ^ spec.width) (missing_ones f e)))

-- ---- lines of fields

candidate_back : (f : Field) → has_form_by f.spec.kind f.spec.width f.raw ≡ true
    → IsPrintable f.spec → raw_in f.spec (drop 7 (field_line f)) ≡ f.raw
candidate_back f form fit = raw_back f.fxy f.spec f.raw form fit

own_line : (n : ℕ) (f : Field) → IsPrintable f.spec → has_form_by f.spec.kind f.spec.width f.raw
    ≡ true → read_field f.fxy f.spec n (field_line f) ≡ Ok f
own_line n f fit form =
    let back = candidate_back f form fit in
    let same : field_in f.fxy f.spec (field_line f) ≡ f =
    λ i. record { fxy = f.fxy; spec = f.spec; raw = back i } in
    let formed : has_form_by f.spec.kind f.spec.width (raw_in f.spec (drop 7 (field_line f)))
    ≡ true = subst (λ (r : Raw). has_form_by f.spec.kind f.spec.width r ≡ true) (sym back) form in
    cond-true _ (Ok (field_in f.fxy f.spec (field_line f)))
    (Err (field_fault f.fxy n (field_line f)))
    (and_from _ _ (and_from _ _ fit.scale formed)
    (same_bytes (field_line (field_in f.fxy f.spec (field_line f))) (field_line f)
    (ap field_line same))) ∙ ap Ok same

-- reading returns the field from its line
pub read_field_back : (d : ℕ) (spec : Spec) (n : ℕ) (f : Field) → IsPrintable spec
    → matches_spec d spec f ≡ true → read_field d spec n (field_line f) ≡ Ok f
read_field_back d spec n f fit stands =
    let p = and_parts (f.fxy == d && same_spec f.spec spec)
    (has_form_by spec.kind spec.width f.raw) stands in
    let q = and_parts (f.fxy == d) (same_spec f.spec spec) p.0 in
    let own = same_spec_is f.spec spec q.1 in
    subst (λ e. read_field e spec n (field_line f) ≡ Ok f) (eqb-true f.fxy d q.0)
    (subst (λ (s : Spec). read_field f.fxy s n (field_line f) ≡ Ok f) own
    (own_line n f (subst IsPrintable (sym own) fit)
    (subst (λ (s : Spec). has_form_by s.kind s.width f.raw ≡ true) (sym own) p.1)))

-- a field as read prints its line
pub read_field_takes : (d : ℕ) (spec : Spec) (n : ℕ) (text : List ℕ) (f : Field)
    → read_field d spec n text ≡ Ok f → (text ≡ field_line f) × (matches_spec d spec f ≡ true)
read_field_takes d spec n text f h =
    let p = passed_ok (is_within 600 spec.scale && has_form_by spec.kind spec.width
    (raw_in spec (drop 7 text)) && bytes_eq (field_line (field_in d spec text)) text)
    (field_in d spec text) (field_fault d n text) f h in
    let q = and_parts (is_within 600 spec.scale && has_form_by spec.kind spec.width
    (raw_in spec (drop 7 text))) (bytes_eq (field_line (field_in d spec text)) text) p.0 in
    let formed =
    (and_parts (is_within 600 spec.scale)
    (has_form_by spec.kind spec.width (raw_in spec (drop 7 text))) q.0).1 in
    let same : matches_spec d spec (field_in d spec text) ≡ true =
    rw (spec_is_same spec, formed, eq-eqb d d refl) refl in (
      sym (bytes_same (field_line (field_in d spec text)) text q.1) ∙ ap field_line p.1,
      subst (λ (g : Field). matches_spec d spec g ≡ true) p.1 same,
    )
