-- The octets that a text between quotes spells, read from the left: for the readers of texts.
use Rattle.std.proofs.Common.{◌≡◌, ℕ, zero, suc, ◌+◌, ◌-◌, ◌*◌, ◌/◌, ◌%◌, ◌<◌, true, false}
use Rattle.std.proofs.Common.{List, [], ◌∷◌, ◌++◌, append_assoc, length, refl, sym, ap, ◌∙◌, subst}
use Rattle.std.proofs.Common.{arith, inl, inr}
use Rattle.std.specs.Prelude.{◌==◌, ◌&&◌, not, Option, Some, None, option_map, option_and_then}
use Rattle.std.specs.Prelude.{nat_le, nat_lt, slice_index}
use Rattle.std.specs.List.{flat_map, list_all}
use Rattle.std.specs.Str.{bytes_eq}
use Rattle.std.proofs.lemmas.Bool.{and_parts, and_from, cases_Bool, not-true, lt-ltb, ltb-true}
use Rattle.std.proofs.lemmas.Bool.{eqb-true}
use Rattle.std.proofs.lemmas.Option.{same_Some, cond_some}
use Rattle.std.proofs.lemmas.Bool.Decides.{nat_tests}
use Rattle.hex.specs.Hex.{hex_digit_value, lower_digits, encode_with}
use Rattle.hex.proofs.HexLemmas.{IsDigits-lower_digits}
use Rattle.bufr_listing.specs.Listings.{is_literal, quoted_octet}
use Rattle.bufr_listing_reader.specs.Lines.{lower_digit}
use Rattle.bufr_listing_reader.specs.RawWords.{lower_value, pair_of, escaped, escaped_octet, first_octet}
use Rattle.bufr_listing_reader.specs.RawWords.{then_octets, octets_before}
use Rattle.bufr_listing_reader.proofs.FieldFacts.{bytes_same}
use Rattle.bufr_listing_reader.proofs.OctetFacts.{value_small, digit_printed, printed_lower}

-- ---- digits

-- a digit in lower case, and its value
record DigitIs (c v : ℕ) : Type 0 where
  small : v < 16
  printed : slice_index lower_digits v ≡ c

digit_is : (c v : ℕ) → lower_value c ≡ Some v → DigitIs c v
digit_is c v h =
    elim (cases_Bool (nat_le 48 c && nat_le c 57)) [
      | inl e ↦
          let own : lower_value c ≡ Some (c - 48) = rw e refl in
          let is : c - 48 ≡ v = same_Some (c - 48) v (sym own ∙ h) in
          let one : (nat_le 65 c && nat_le c 70) ≡ false = grind (arith, nat_tests) in
          let two : (nat_le 97 c && nat_le c 102) ≡ false = grind (arith, nat_tests) in
          let hex : hex_digit_value c ≡ Some v = rw (one, two, e) (ap Some is) in
          let low : lower_digit c ≡ c = rw one refl in
          record { small = value_small c v hex; printed = digit_printed c v hex ∙ low }
      | inr e ↦
          elim (cases_Bool (nat_le 97 c && nat_le c 102)) [
            | inl f ↦
                let own : lower_value c ≡ Some (c - 97 + 10) = rw (e, f) refl in
                let is : c - 97 + 10 ≡ v = same_Some (c - 97 + 10) v (sym own ∙ h) in
                let one : (nat_le 65 c && nat_le c 70) ≡ false = grind (arith, nat_tests) in
                let same : c - 87 ≡ v = grind (arith, nat_tests) in
                let hex : hex_digit_value c ≡ Some v = rw (one, f) (ap Some same) in
                let low : lower_digit c ≡ c = rw one refl in
                record { small = value_small c v hex; printed = digit_printed c v hex ∙ low }
            | inr f ↦ let own : lower_value c ≡ None = rw (e, f) refl in absurd (cc (sym own ∙ h))
          ]
    ]

value_from_hex : (c v : ℕ) → hex_digit_value c ≡ Some v → lower_digit c ≡ c → lower_value c ≡ Some v
value_from_hex c v h low =
    elim (cases_Bool (nat_le 65 c && nat_le c 70)) [
      | inl e ↦ let up : lower_digit c ≡ c + 32 = rw e refl in absurd (omega (arith, up, low))
      | inr e ↦
          elim (cases_Bool (nat_le 97 c && nat_le c 102)) [
            | inl f ↦
                let own : hex_digit_value c ≡ Some (c - 87) = rw (e, f) refl in
                let is : c - 87 ≡ v = same_Some (c - 87) v (sym own ∙ h) in
                let no : (nat_le 48 c && nat_le c 57) ≡ false = grind (arith, nat_tests) in
                let same : c - 97 + 10 ≡ v = grind (arith, nat_tests) in
                rw (no, f) (ap Some same)
            | inr f ↦
                elim (cases_Bool (nat_le 48 c && nat_le c 57)) [
                  | inl g ↦
                      let own : hex_digit_value c ≡ Some (c - 48) = rw (e, f, g) refl in
                      rw g (sym own ∙ h)
                  | inr g ↦ let own : hex_digit_value c ≡ None = rw (e, f, g) refl in
                      absurd (cc (sym own ∙ h))
                ]
          ]
    ]

digit_value : (k : ℕ) → k < 16 → lower_value (slice_index lower_digits k) ≡ Some k
digit_value k small =
    value_from_hex (slice_index lower_digits k) k (IsDigits-lower_digits k small)
    (printed_lower k small)

-- ---- one octet

-- the first octet of a text
record OctetFront (text : List ℕ) (c : ℕ) (rest : List ℕ) : Type 0 where
  small : c < 256
  front : quoted_octet c ++ rest ≡ text

escaped_is : (high low a b c : ℕ) (more rest : List ℕ) → lower_value high ≡ Some a
    → lower_value low ≡ Some b → escaped (Some (16 * a + b)) more ≡ Some (c, rest)
    → OctetFront (92 ∷ high ∷ low ∷ more) c rest
unfolding encode_with
escaped_is high low a b c more rest is_high is_low h =
    elim (cases_Bool (is_literal (16 * a + b))) [
      | inl e ↦
          absurd (let own : escaped (Some (16 * a + b)) more ≡ None = rw e refl in cc (sym own ∙ h))
      | inr e ↦
          let own : escaped (Some (16 * a + b)) more ≡ Some (16 * a + b, more) = rw e refl in
          let same : (16 * a + b, more) ≡ (c, rest) =
          same_Some (16 * a + b, more) (c, rest) (sym own ∙ h) in
          let p = digit_is high a is_high in
          let q = digit_is low b is_low in
          let few = p.small in
          let less = q.small in
          let up : (16 * a + b) / 16 ≡ a = omega (arith, less) in
          let down : (16 * a + b) % 16 ≡ b = omega (arith, less) in
          let one : slice_index lower_digits ((16 * a + b) / 16) ≡ high =
          ap (slice_index lower_digits) up ∙ p.printed in
          let two : slice_index lower_digits ((16 * a + b) % 16) ≡ low =
          ap (slice_index lower_digits) down ∙ q.printed in
          let printed : quoted_octet (16 * a + b) ≡ 92 ∷ slice_index lower_digits
          ((16 * a + b) / 16) ∷ slice_index lower_digits ((16 * a + b) % 16) ∷ [] = rw e refl in
          subst (λ (x : ℕ × List ℕ). OctetFront (92 ∷ high ∷ low ∷ more) x.0 x.1) same (record {
            small = omega (arith, few, less);
            front = ap (λ ds. ds ++ more) printed ∙ (λ i. 92 ∷ one i ∷ two i ∷ more);
          })
    ]

pair_is : (high low c : ℕ) (more rest : List ℕ) (o p : Option ℕ) → lower_value high ≡ o
    → lower_value low ≡ p → escaped (pair_of o p) more ≡ Some (c, rest)
    → OctetFront (92 ∷ high ∷ low ∷ more) c rest
pair_is high low c more rest None p is_high is_low h = absurd cc
pair_is high low c more rest (Some a) None is_high is_low h = absurd cc
pair_is high low c more rest (Some a) (Some b) is_high is_low h =
    escaped_is high low a b c more rest is_high is_low h

behind_backslash : (text rest : List ℕ) (c : ℕ) → escaped_octet text ≡ Some (c, rest)
    → OctetFront (92 ∷ text) c rest
behind_backslash [] rest c h = absurd cc
behind_backslash (high ∷ []) rest c h = absurd cc
behind_backslash (high ∷ low ∷ more) rest c h =
    pair_is high low c more rest (lower_value high) (lower_value low) refl refl h

plain_small : (c : ℕ) → is_literal c ≡ true → c < 256
plain_small c h = grind (arith, nat_tests)

front_is : (text rest : List ℕ) (c : ℕ) → first_octet text ≡ Some (c, rest) → OctetFront text c rest
front_is [] rest c h = absurd cc
front_is (x ∷ behind) rest c h =
    elim (cases_Bool (x == 92)) [
      | inl e ↦
          let own : first_octet (x ∷ behind) ≡ escaped_octet behind = rw e refl in
          subst (λ y. OctetFront (y ∷ behind) c rest) (sym (eqb-true x 92 e))
          (behind_backslash behind rest c (sym own ∙ h))
      | inr e ↦
          elim (cases_Bool (is_literal x)) [
            | inl p ↦
                let own : first_octet (x ∷ behind) ≡ Some (x, behind) = rw (p, e) refl in
                let same : (x, behind) ≡ (c, rest) =
                same_Some (x, behind) (c, rest) (sym own ∙ h) in
                let printed : quoted_octet x ≡ x ∷ [] = rw p refl in
                subst (λ (y : ℕ × List ℕ). OctetFront (x ∷ behind) y.0 y.1) same
                (record { small = plain_small x p; front = ap (λ ds. ds ++ behind) printed })
            | inr p ↦ let own : first_octet (x ∷ behind) ≡ None = rw (p, e) refl in
                absurd (cc (sym own ∙ h))
          ]
    ]

plain_no_backslash : (c : ℕ) → is_literal c ≡ true → (c == 92) ≡ false
plain_no_backslash c h =
    not-true (c == 92) (and_parts (nat_le 32 c && nat_le c 126 && not (c == 34))
    (not (c == 92)) h).1

front_back : (c : ℕ) (more : List ℕ) → c < 256 → first_octet (quoted_octet c ++ more) ≡ Some
    (c, more)
unfolding encode_with
front_back c more small =
    elim (cases_Bool (is_literal c)) [
      | inl p ↦
          let printed : quoted_octet c ≡ c ∷ [] = rw p refl in
          let own : first_octet (c ∷ more) ≡ Some (c, more) = rw (p, plain_no_backslash c p) refl in
          ap (λ ds. first_octet (ds ++ more)) printed ∙ own
      | inr p ↦
          let printed : quoted_octet c ≡ 92 ∷ slice_index lower_digits (c / 16) ∷ slice_index
          lower_digits (c % 16) ∷ [] = rw p refl in
          let one = digit_value (c / 16) (omega (arith, small)) in
          let two = digit_value (c % 16) (omega arith) in
          let sum : 16 * (c / 16) + c % 16 ≡ c = omega arith in
          let own : escaped (Some c) more ≡ Some (c, more) = rw p refl in
          ap (λ ds. first_octet (ds ++ more)) printed
          ∙ (λ i. escaped (pair_of (one i) (two i)) more)
          ∙ ap (λ n. escaped (Some n) more) sum
          ∙ own
    ]

-- ---- all octets

and_then_some : {A B : Type 0} (o : Option A) (f : A → Option B) (y : B) → option_and_then f o
    ≡ Some y → (x : A) × (o ≡ Some x) × (f x ≡ Some y)
and_then_some None f y h = absurd cc
and_then_some (Some x) f y h = (x, refl, h)

pub map_some : {A B : Type 0} (o : Option A) (f : A → B) (y : B) → option_map f o ≡ Some y
    → (x : A) × (o ≡ Some x) × (f x ≡ y)
map_some None f y h = absurd cc
map_some (Some x) f y h = (x, refl, same_Some (f x) y h)

-- octets up to the last quote
pub record QuotedIs (n : ℕ) (text os : List ℕ) : Type 0 where
  pub count : length os ≡ n
  pub small : list_all (λ x. nat_lt x 256) os ≡ true
  pub spelled : flat_map quoted_octet os ++ 34 ∷ [] ≡ text

pub quoted_is : (n : ℕ) (text os : List ℕ) → octets_before n text ≡ Some os → QuotedIs n text os
unfolding octets_before
quoted_is zero text os h =
    let p = cond_some (bytes_eq text (34 ∷ [])) [] os h in
    subst (λ (xs : List ℕ). QuotedIs 0 text xs) p.1
    (record { count = refl; small = refl; spelled = sym (bytes_same text (34 ∷ []) p.0) })
quoted_is (suc n) text os h =
    let p = and_then_some (first_octet text)
    (λ (x : ℕ × List ℕ). then_octets x.0 (octets_before n x.1)) os h in
    let q = map_some (octets_before n p.0.1) (λ cs. p.0.0 ∷ cs) os p.2 in
    let one = front_is text p.0.1 p.0.0 p.1 in
    let more = quoted_is n p.0.1 q.0 q.1 in
    subst (λ (xs : List ℕ). QuotedIs (suc n) text xs) q.2 (record {
      count = ap suc more.count;
      small = and_from _ _ (lt-ltb p.0.0 256 one.small) more.small;
      spelled = append_assoc (quoted_octet p.0.0) (flat_map quoted_octet q.0) (34 ∷ [])
          ∙ ap (λ t. quoted_octet p.0.0 ++ t) more.spelled ∙ one.front;
    })

pub quoted_back : (os : List ℕ) → list_all (λ x. nat_lt x 256) os ≡ true
    → octets_before (length os) (flat_map quoted_octet os ++ 34 ∷ []) ≡ Some os
unfolding octets_before
quoted_back [] h = refl
quoted_back (c ∷ os) h =
    let p = and_parts (nat_lt c 256) (list_all (λ x. nat_lt x 256) os) h in
    let one = front_back c (flat_map quoted_octet os ++ 34 ∷ []) (ltb-true c 256 p.0) in
    ap (λ t. octets_before (suc (length os)) t)
    (append_assoc (quoted_octet c) (flat_map quoted_octet os) (34 ∷ []))
    ∙ ap (λ o. option_and_then
    (λ (x : ℕ × List ℕ). then_octets x.0 (octets_before (length os) x.1)) o) one
    ∙ ap (then_octets c) (quoted_back os p.1)
