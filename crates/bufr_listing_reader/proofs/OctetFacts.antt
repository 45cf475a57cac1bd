-- Hexadecimal digits of either case spell the same octets: for the readers of octets.
use Rattle.std.proofs.Common.{◌≡◌, ℕ, zero, suc, ◌+◌, ◌-◌, ◌*◌, ◌/◌, ◌%◌, ◌<◌, Bool, true, false}
use Rattle.std.proofs.Common.{List, [], ◌∷◌, ◌++◌, length, map, drop, get_or, refl, sym, ap, ◌∙◌}
use Rattle.std.proofs.Common.{subst, arith, inl, inr, ◌⊎◌}
use Rattle.std.specs.Prelude.{◌==◌, ◌&&◌, not, Option, Some, None, Result, Ok, Err, nat_le, nat_lt}
use Rattle.std.specs.Prelude.{slice_index, if◌then◌else◌}
use Rattle.std.specs.List.{list_all}
use Rattle.std.specs.Str.{bytes_eq}
use Rattle.std.proofs.lemmas.Bool.{and_parts, and_right, cases_Bool, not-true, eqb-true}
use Rattle.std.proofs.lemmas.Bool.Decides.{nat_tests}
use Rattle.std.proofs.lemmas.List.{append-nil, length-map}
use Rattle.std.proofs.lemmas.Option.{none-some, same_Some}
use Rattle.hex.specs.declared.error.FromHexError.{FromHexError}
use Rattle.hex.specs.declared.error.FromHexError.TheVariants as hexes
use Rattle.bufr_base.specs.AnswerLaws.{ok_is}
use Rattle.hex.specs.Hex.{hex_digit_value, digit_or_error, value_at, pair_value, lower_digits}
use Rattle.hex.specs.Hex.{encode_with, encode_lower, decode_pairs, decode_of, ◌>>=◌}
use Rattle.hex.proofs.HexLemmas.{IsDigits-lower_digits}
use Rattle.bufr_listing.specs.declared.fault.ListingFault.{ListingFault}
use Rattle.bufr_listing.specs.declared.fault.ListingFault.TheVariants.{BadLine, BadValue}
use Rattle.bufr_listing.specs.Listings.{words, octets_line}
use Rattle.bufr_listing_reader.specs.Lines.{words_of, first_word, has_octets, lower_digit, as_printed}
use Rattle.bufr_listing_reader.specs.Reading.{octets_by, octets_in, read_octets}
use Rattle.bufr_listing_reader.proofs.FieldFacts.{bytes_same, same_bytes, refused}
use Rattle.bufr_listing_reader.proofs.LineFacts.{IsWord, words_back}
use Rattle.bufr_listing_reader.proofs.PrintedFacts.{words_lower, lower_printed, first_printed}
use Rattle.bufr_listing_reader.proofs.PrintedFacts.{count_printed, line_of_words}

-- ---- digits

value_lower : (c i : ℕ) → value_at (lower_digit c) i ≡ value_at c i
value_lower c i =
    elim (cases_Bool (nat_le 65 c && nat_le c 70)) [
      | inl e ↦
          let one : (nat_le 65 (c + 32) && nat_le (c + 32) 70) ≡ false = grind (arith, nat_tests) in
          let two : (nat_le 97 (c + 32) && nat_le (c + 32) 102) ≡ true = grind (arith, nat_tests) in
          let same : c + 32 - 87 ≡ c - 55 = grind (arith, nat_tests) in
          rw (e, one, two, same) refl
      | inr e ↦ let own : lower_digit c ≡ c = rw e refl in ap (λ x. value_at x i) own
    ]

decode_pairs_lower : (i : ℕ) (w : List ℕ) → decode_pairs i (map lower_digit w) ≡ decode_pairs i w
unfolding decode_pairs
decode_pairs_lower i [] = refl
decode_pairs_lower i (digit ∷ []) = refl
decode_pairs_lower i (high ∷ low ∷ rest) =
    λ j. (value_lower high i j >>= λ h. value_lower low (i + 1) j >>= λ l. Ok (h * 16 + l))
    >>= λ byte. decode_pairs_lower (i + 2) rest j >>= λ bytes. Ok (byte ∷ bytes)

pub decode_lower : (w : List ℕ) → decode_of (map lower_digit w) ≡ decode_of w
decode_lower w = rw (length-map w lower_digit, decode_pairs_lower 0 w) refl

abbrev digit_for : ℕ → ℕ
digit_for a = if nat_lt a 10 then 48 + a else 87 + a

value_place : (c a : ℕ) → hex_digit_value c ≡ Some a → (a < 16) × (lower_digit c ≡ digit_for a)
value_place c a h =
    elim (cases_Bool (nat_le 65 c && nat_le c 70)) [
      | inl e ↦
          let own : hex_digit_value c ≡ Some (c - 55) = rw e refl in
          let is : c - 55 ≡ a = same_Some (c - 55) a (sym own ∙ h) in
          let lower : lower_digit c ≡ c + 32 = rw e refl in
          (grind (arith, nat_tests), grind (arith, nat_tests))
      | inr e ↦
          let lower : lower_digit c ≡ c = rw e refl in
          elim (cases_Bool (nat_le 97 c && nat_le c 102)) [
            | inl f ↦
                let own : hex_digit_value c ≡ Some (c - 87) = rw (e, f) refl in
                let is : c - 87 ≡ a = same_Some (c - 87) a (sym own ∙ h) in
                (grind (arith, nat_tests), grind (arith, nat_tests))
            | inr f ↦
                elim (cases_Bool (nat_le 48 c && nat_le c 57)) [
                  | inl g ↦
                      let own : hex_digit_value c ≡ Some (c - 48) = rw (e, f, g) refl in
                      let is : c - 48 ≡ a = same_Some (c - 48) a (sym own ∙ h) in
                      (grind (arith, nat_tests), grind (arith, nat_tests))
                  | inr g ↦ let own : hex_digit_value c ≡ None = rw (e, f, g) refl in
                      absurd (none-some a (sym own ∙ h))
                ]
          ]
    ]

pub value_small : (c a : ℕ) → hex_digit_value c ≡ Some a → a < 16
value_small c a h = (value_place c a h).0

pub passes_at : (test : ℕ → Bool) (t : List ℕ) (k : ℕ) → list_all test t ≡ true → k < length t
    → test (slice_index t k) ≡ true
passes_at test [] k h few = absurd (omega arith)
passes_at test (c ∷ cs) zero h few = (and_parts (test c) (list_all test cs) h).0
passes_at test (c ∷ cs) (suc k) h few =
    passes_at test cs k (and_parts (test c) (list_all test cs) h).1 (omega arith)

pub printed_lower : (k : ℕ) → k < 16 → lower_digit (slice_index lower_digits k)
    ≡ slice_index lower_digits k
printed_lower k small =
    eqb-true _ _ (passes_at (λ c. lower_digit c == c) lower_digits k refl small)

pub digit_printed : (c a : ℕ) → hex_digit_value c ≡ Some a → slice_index lower_digits a
    ≡ lower_digit c
digit_printed c a h =
    let small = value_small c a h in
    sym (printed_lower a small)
    ∙ (value_place (slice_index lower_digits a) a (IsDigits-lower_digits a small)).1
    ∙ sym (value_place c a h).1

value_is : (c i a : ℕ) → value_at c i ≡ Ok a → hex_digit_value c ≡ Some a
value_is c i a h = by_value (hex_digit_value c) refl h
  where
    by_value : (o : Option ℕ) → hex_digit_value c ≡ o → digit_or_error c i o ≡ Ok a
        → hex_digit_value c ≡ Some a
    by_value None e h = absurd cc
    by_value (Some b) e h = let same : b ≡ a = cc in e ∙ ap Some same

hex_ok : {A B : Type 0} (x : Result A FromHexError) (f : A → Result B FromHexError) (y : B)
    → (x >>= f) ≡ Ok y → (a : A) × (x ≡ Ok a) × (f a ≡ Ok y)
hex_ok (Ok a) f y e = (a, refl, e)
hex_ok (Err fault) f y e = absurd cc

pairs_printed : (i : ℕ) (w os : List ℕ) → decode_pairs i w ≡ Ok os → encode_lower os
    ≡ map lower_digit w
unfolding decode_pairs encode_with
pairs_printed i [] os h = let none = ok_is [] os h in
    subst (λ xs. encode_lower xs ≡ []) none refl
pairs_printed i (digit ∷ []) os h = absurd cc
pairs_printed i (high ∷ low ∷ rest) os h =
    let p = hex_ok (pair_value high low i) _ os h in
    let q = hex_ok (decode_pairs (i + 2) rest) _ os p.2 in
    let a = hex_ok (value_at high i) _ p.0 p.1 in
    let b = hex_ok (value_at low (i + 1)) _ p.0 a.2 in
    let sum = ok_is (a.0 * 16 + b.0) p.0 b.2 in
    let first = value_is high i a.0 a.1 in
    let second = value_is low (i + 1) b.0 b.1 in
    let small = value_small low b.0 second in
    let up : p.0 / 16 ≡ a.0 = omega (arith, sum, small) in
    let down : p.0 % 16 ≡ b.0 = omega (arith, sum, small) in
    let high_is : slice_index lower_digits (p.0 / 16) ≡ lower_digit high =
    ap (slice_index lower_digits) up ∙ digit_printed high a.0 first in
    let low_is : slice_index lower_digits (p.0 % 16) ≡ lower_digit low =
    ap (slice_index lower_digits) down ∙ digit_printed low b.0 second in
    let more = pairs_printed (i + 2) rest q.0 q.1 in
    subst (λ xs. encode_lower xs ≡ map lower_digit (high ∷ low ∷ rest))
    (ok_is (p.0 ∷ q.0) os q.2) (λ j. high_is j ∷ low_is j ∷ more j)

-- octets print as their digits in lower case
pub octets_printed_as : (w os : List ℕ) → decode_of w ≡ Ok os → encode_lower os ≡ map lower_digit w
octets_printed_as w os h =
    elim (cases_Bool (length w % 2 == 1)) [
      | inl odd ↦ absurd (let g = rw odd at h in cc)
      | inr even ↦ let g = rw even at h in pairs_printed 0 w os g
    ]

-- ---- lines of octets

digit_no_space : (t : List ℕ) (k : ℕ) → list_all (λ c. not (c == 32)) t ≡ true
    → (slice_index t k == 32) ≡ false
digit_no_space [] k h = refl
digit_no_space (c ∷ cs) zero h =
    not-true (c == 32) (and_parts (not (c == 32)) (list_all (λ c. not (c == 32)) cs) h).0
digit_no_space (c ∷ cs) (suc k) h =
    digit_no_space cs k (and_parts (not (c == 32)) (list_all (λ c. not (c == 32)) cs) h).1

digits_word : (os : List ℕ) → IsWord (encode_lower os)
unfolding encode_with
digits_word [] = tt
digits_word (x ∷ xs) = (
  digit_no_space lower_digits (x / 16) refl,
  (
    digit_no_space lower_digits (x % 16) refl,
    digits_word xs,
  ),
)

lower_words : (text title : List ℕ) (ws : List (List ℕ)) → has_octets text ≡ true
    → words_of text ≡ title ∷ ws → words_of (as_printed text) ≡ title ∷ map
    (λ w. map lower_digit w) ws
lower_words text title ws octets e =
    let first : first_word (as_printed text) ≡ title =
    first_printed text ∙ ap (λ us. get_or us 0 []) e in
    let all : words_of (as_printed text) ≡ map lower_digit title ∷ map (λ w. map lower_digit w)
    ws = ap words_of (lower_printed text octets) ∙ words_lower text
    ∙ ap (λ us. map (λ w. map lower_digit w) us) e in
    let same : map lower_digit title ≡ title = sym (ap (λ us. get_or us 0 []) all) ∙ first in
    all ∙ ap (λ w. w ∷ map (λ w. map lower_digit w) ws) same

pub octets_are_not : (title : List ℕ) (n : ℕ) (text : List ℕ) (ws : List (List ℕ)) → IsWord title
    → has_octets text ≡ true → words_of text ≡ title ∷ ws → (length ws ≡ 1 → ⊥)
    → read_octets title (length (words_of (as_printed text)) == 2) n (as_printed text) ≡ Err
    (BadLine n)
octets_are_not title n text ws word octets e other =
    let t = as_printed text in
    let os = octets_in (drop (length title + 1) t) in
    let count : length (words_of t) ≡ suc (length ws) = count_printed text ∙ ap length e in
    let not_two : (length (words_of t) == 2) ≡ false = grind (arith, nat_tests) in
    refused (not (length os == 0) && bytes_eq (octets_line title os) t) (Ok os) _ (λ holds.
    let line = bytes_same (octets_line title os) t (and_parts (not (length os == 0)) _ holds).1 in
    let two = ap length (sym (words_back title (encode_lower os ∷ []) word (digits_word os, tt))
    ∙ ap words_of line) in
    other (omega (arith, two, count)))
    ∙ ap (λ b. Err (if b then BadValue n else BadLine n))
    (and_right (bytes_eq (first_word t) title) (length (words_of t) == 2) not_two)

two_words : (title : List ℕ) (text digits : List ℕ) → has_octets text ≡ true
    → words_of text ≡ title ∷ digits ∷ [] → as_printed text ≡ words title
    (map lower_digit digits ∷ [])
two_words title text digits octets e =
    line_of_words (as_printed text) title (map lower_digit digits ∷ [])
    (lower_words text title (digits ∷ []) octets e)

drop_title : (title rest : List ℕ) → drop (length title + 1) (title ++ 32 ∷ rest) ≡ rest
drop_title [] rest = refl
drop_title (c ∷ title) rest = let next : suc (length title) + 1 ≡ suc (length title + 1) =
    omega arith in ap (λ k. drop k (c ∷ title ++ 32 ∷ rest)) next ∙ drop_title title rest

-- the octets of a line are those of its digits
read_digits : (title : List ℕ) (text digits : List ℕ) → has_octets text ≡ true
    → words_of text ≡ title ∷ digits ∷ [] → octets_in (drop (length title + 1) (as_printed text))
    ≡ octets_by (decode_of digits)
read_digits title text digits octets e =
    ap (λ t. octets_in (drop (length title + 1) t)) (two_words title text digits octets e)
    ∙ ap octets_in (drop_title title (map lower_digit digits ++ [])
    ∙ append-nil (map lower_digit digits))
    ∙ ap octets_by (decode_lower digits)

pub octets_are_bad : (title : List ℕ) (n : ℕ) (text digits : List ℕ) → has_octets text ≡ true
    → words_of text ≡ title ∷ digits ∷ [] → octets_by (decode_of digits) ≡ []
    → read_octets title (length (words_of (as_printed text)) == 2) n (as_printed text) ≡ Err
    (BadValue n)
octets_are_bad title n text digits octets e none =
    let t = as_printed text in
    let os = octets_in (drop (length title + 1) t) in
    let empty : os ≡ [] = read_digits title text digits octets e ∙ none in
    let count : length (words_of t) ≡ 2 = count_printed text ∙ ap length e in
    let first : first_word t ≡ title = first_printed text ∙ ap (λ us. get_or us 0 []) e in
    refused (not (length os == 0) && bytes_eq (octets_line title os) t) (Ok os) _ (λ holds.
    let some = (and_parts (not (length os == 0)) (bytes_eq (octets_line title os) t) holds).1 in
    let none = (and_parts (not (length os == 0)) (bytes_eq (octets_line title os) t) holds).0 in
    let no = subst (λ (xs : List ℕ). not (length xs == 0) ≡ true) empty none in cc no)
    ∙ rw (same_bytes (first_word t) title first, count) refl

pub octets_are : (title : List ℕ) (n : ℕ) (text digits os : List ℕ) → has_octets text ≡ true
    → words_of text ≡ title ∷ digits ∷ [] → decode_of digits ≡ Ok os → (length os == 0) ≡ false
    → read_octets title (length (words_of (as_printed text)) == 2) n (as_printed text) ≡ Ok os
octets_are title n text digits os octets e decoded some =
    let t = as_printed text in
    let own = octets_in (drop (length title + 1) t) in
    let same : own ≡ os = read_digits title text digits octets e ∙ ap octets_by decoded in
    let printed : octets_line title os ≡ t =
    ap (λ w. words title (w ∷ [])) (octets_printed_as digits os decoded)
    ∙ sym (two_words title text digits octets e) in
    let not_empty : not (length own == 0) ≡ true = rw (same, some) refl in
    let line : bytes_eq (octets_line title own) t ≡ true =
    same_bytes (octets_line title own) t (ap (octets_line title) same ∙ printed) in
    rw (not_empty, line) (ap Ok same)

pub undecoded_is : (digits : List ℕ) (fault : FromHexError) (bad : ListingFault)
    (meant : Result (List ℕ) ListingFault) → (fault ≡ hexes.OutOfMemory → ⊥)
    → (decode_of digits ≡ Err fault → meant ≡ Err bad)
    → ((fault ≡ hexes.OutOfMemory) ⊎ (decode_of digits ≡ Err fault)) → meant ≡ Err bad
undecoded_is digits fault bad meant other h (inl e) = absurd (other e)
undecoded_is digits fault bad meant other h (inr d) = h d
