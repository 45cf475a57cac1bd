-- The greatest length of a field's line, and so of the listing of a message with small subsets: for
-- `show_frame`.
use Rattle.std.proofs.Common.{◌≡◌, ℕ, zero, suc, ◌+◌, ◌-◌, ◌*◌, ◌^◌, ◌<◌, ◌≤◌, Bool, true, false}
use Rattle.std.proofs.Common.{List, [], ◌∷◌, ◌++◌, length, map, take, drop, replicate, codes, ap}
use Rattle.std.proofs.Common.{arith, length-append, inl, inr}
use Rattle.std.specs.Prelude.{ℤ, pos, negsuc, ◌+ℤ◌, ◌==◌, None, Some, decimal, nat_lt, if◌then◌else◌}
use Rattle.std.specs.List.{flat_map, AllByRecursion}
use Rattle.std.specs.Int.RustNames.{unsigned_abs}
use Rattle.std.proofs.lemmas.Bool.{cases_Bool}
use Rattle.std.proofs.lemmas.Fmt.{length-decimal-le_wide}
use Rattle.std.proofs.lemmas.Int.{ints}
use Rattle.std.proofs.lemmas.List.{length-replicate, take-append-drop}
use Rattle.hex.specs.Hex.{encode_with, encode_lower}
use Rattle.bufr_tables.specs.declared.element.Kind.{Kind}
use Rattle.bufr_tables.specs.declared.element.Kind.TheVariants as kinds
use Rattle.bufr_expand.specs.declared.operators.Spec.{Spec}
use Rattle.bufr_expand.specs.Effects.{IsInRange}
use Rattle.bufr_expand.specs.OperatorsInForce.{is_within}
use Rattle.bufr_fields.specs.declared.field.Raw.{Raw}
use Rattle.bufr_fields.specs.declared.field.Raw.TheVariants.{Number, Text}
use Rattle.bufr_fields.specs.declared.field.Field.{Field}
use Rattle.bufr_fields.specs.declared.field.Subset.{Subset}
use Rattle.bufr_sections.specs.declared.message.Message.{Message}
use Rattle.bufr_message.specs.SmallSubsets.{IsSmall, IsSmallField, HasSmallFields, HasSmallSubsets}
use Rattle.bufr_engines.specs.ShortListings.{HasShortListing}
use Rattle.bufr_fields.specs.Values.{size_of, digits_by, text_of, is_missing, decimal_within}
use Rattle.bufr_listing.specs.Listings.{is_literal, quoted_octet, quoted, number_word}
use Rattle.bufr_listing.specs.Listings.{value_word, field_line, line, joined, subset_lines}

-- ---- texts

octet_short : (c : ℕ) → length (quoted_octet c) ≤ 3
unfolding encode_with
octet_short c = by_test (is_literal c)
  where
    by_test : (b : Bool) → length (if b then c ∷ [] else 92 ∷ encode_lower (c ∷ [])) ≤ 3
    by_test true = omega arith
    by_test false = omega arith

octets_short : (os : List ℕ) → length (flat_map quoted_octet os) ≤ 3 * length os
octets_short [] = omega arith
octets_short (c ∷ os) =
    omega (
      arith,
      octet_short c,
      octets_short os,
      length-append (quoted_octet c) (flat_map quoted_octet os),
    )

quoted_short : (os : List ℕ) → length os ≤ 8191 → length (quoted os) ≤ 30000
quoted_short os few =
    omega (arith, few, octets_short os, length-append (flat_map quoted_octet os) (34 ∷ []))

-- ---- numbers

size_small : (n : ℕ) (reference : ℤ) → n < 2 ^ 64
    → unsigned_abs reference ≤ 4611686018427387904 → size_of (pos n +ℤ reference) < 10 ^ 64
size_small n (pos m) small within = omega (arith, small, within)
size_small n (negsuc m) small within = elim (cases_Bool (nat_lt n (suc m))) [
  | inl below ↦ grind (arith, ints)
  | inr above ↦ grind (arith, ints)
]

digits_few : (n : ℕ) → n < 10 ^ 64 → length (decimal n) ≤ 64
digits_few n small = length-decimal-le_wide 64 n (omega arith) small small

point_short : (k : ℕ) (ds : List ℕ) → length (take k ds ++ 46 ∷ drop k ds) ≡ length ds + 1
point_short k ds =
    let all = ap length (take-append-drop k ds) in
    omega (
      arith,
      all,
      length-append (take k ds) (drop k ds),
      length-append (take k ds) (46 ∷ drop k ds),
    )

not_zero : (n : ℕ) → (suc n == 0) ≡ false
not_zero n = grind arith

digits_short : (scale : ℤ) (n : ℕ) → unsigned_abs scale ≤ 510 → n < 10 ^ 64
    → length (digits_by scale n) ≤ 1000
digits_short (pos zero) n within small = omega (arith, digits_few n small)
digits_short (pos (suc s)) n within small =
    let k = suc (suc s) - length (decimal n) in
    let ds = replicate k 48 ++ decimal n in
    omega (
      arith,
      within,
      digits_few n small,
      point_short (length ds - suc s) ds,
      length-append (replicate k 48) (decimal n),
      length-replicate {A = ℕ} k 48,
    )
digits_short (negsuc s) zero within small = omega (arith, digits_few 0 small)
digits_short (negsuc s) (suc n) within small =
    rw (not_zero n) (omega (
      arith,
      within,
      digits_few (suc n) small,
      length-append (decimal (suc n)) (replicate (suc s) 48),
      length-replicate {A = ℕ} (suc s) 48,
    ))

text_short : (units scale : ℤ) → unsigned_abs scale ≤ 510 → size_of units < 10 ^ 64
    → length (text_of (record { units = units; scale = scale })) ≤ 30000
text_short (pos n) scale within small = omega (arith, digits_short scale n within small)
text_short (negsuc n) scale within small = omega (arith, digits_short scale (suc n) within small)

number_short : (missing : Bool) (spec : Spec) (n : ℕ) → IsInRange spec → n < 2 ^ 64
    → length (if missing then codes "missing" else number_word
    (if missing then None else decimal_within (pos n +ℤ spec.reference) spec.scale)) ≤ 30000
number_short true spec n fit small = omega arith
number_short false spec n fit small =
    by_test (is_within 600 spec.scale)
    (text_short (pos n +ℤ spec.reference) spec.scale fit.scale_within
    (size_small n spec.reference small fit.reference_within))
  where
    by_test : (b : Bool)
        → length (text_of (record { units = pos n +ℤ spec.reference; scale = spec.scale })) ≤ 30000
        → length (number_word (if b then Some (record { units = pos n +ℤ spec.reference; scale = spec.scale }) else None)) ≤ 30000
    by_test true short = short
    by_test false short = omega arith

-- ---- fields

word_short : (missing : Bool) (word : List ℕ) → length word ≤ 30000
    → length (if missing then codes "missing" else word) ≤ 30000
word_short true word short = omega arith
word_short false word short = short

value_short : (d : ℕ) (kind : Kind) (spec : Spec) (raw : Raw) → IsSmall raw → IsInRange spec
    → length (value_word (record { fxy = d; spec = record spec { kind = kind }; raw = raw })) ≤ 30000
value_short d kind spec (Text os) small fit =
    word_short (is_missing (record { fxy = d; spec = record spec { kind = kind }; raw = Text os }))
    (quoted os) (quoted_short os small)
value_short d kinds.Text spec (Number n) small fit =
    word_short (is_missing (record { fxy = d; spec = record spec { kind = kinds.Text }; raw = Number n }))
    [] (omega arith)
value_short d kind spec (Number n) small fit =
    number_short (is_missing (record { fxy = d; spec = record spec { kind = kind }; raw = Number n }))
    spec n fit small

line_short : (f : Field) → IsSmall f.raw → IsInRange f.spec
    → length (line (field_line f)) ≤ 32768
line_short f small fit =
    let word = value_short f.fxy f.spec.kind f.spec f.raw small fit in
    omega (arith, word, length-append (field_line f) (10 ∷ []))

lines_short : (fields : List Field) → AllByRecursion IsSmallField fields
    → length (joined (map field_line fields)) ≤ 32768 * length fields
lines_short [] small = omega arith
lines_short (f ∷ fields) (small, others) =
    let first = line_short f small.raw small.range in
    let rest = lines_short fields others in
    omega (
      arith,
      first,
      rest,
      length-append (line (field_line f)) (joined (map field_line fields)),
    )

subset_short : (s : Subset) → HasSmallFields s → length (joined (subset_lines s)) < 2 ^ 40
subset_short s small =
    let few = small.few in
    let lines = lines_short s.fields small.small in
    omega (arith, few, lines)

each_short : (subsets : List Subset) → AllByRecursion HasSmallFields subsets
    → AllByRecursion (λ s. length (joined (subset_lines s)) < 2 ^ 40) subsets
each_short [] small = tt
each_short (s ∷ subsets) (small, others) = (subset_short s small, each_short subsets others)

pub listing_short : (m : Message) → HasSmallSubsets m → HasShortListing m
listing_short m small = record { few = small.few; short = each_short m.subsets small.small }
