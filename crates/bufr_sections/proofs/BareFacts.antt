-- When octets are what `spell` writes for their sections: for `are_bare`.
use Rattle.std.proofs.Common.{◌≡◌, ℕ, ◌+◌, ◌-◌, ◌*◌, ◌%◌, ◌<◌, Bool, true, false, get_or, List, []}
use Rattle.std.proofs.Common.{◌++◌, ◌∷◌, length, None, Ok, Err, refl, sym, ap, subst, ◌∙◌, arith}
use Rattle.std.proofs.Common.{length-append, append_assoc}
use Rattle.std.specs.Prelude.{◌||◌, nat_lt, codes, if◌then◌else◌}
use Rattle.bufr_base.specs.AnswerLaws.{ok_is}
use Rattle.bufr_fields.specs.declared.fault.MisfitFault.TheVariants.{TooLarge}
use Rattle.std.specs.List.{flat_map}
use Rattle.std.specs.Int.{bytes_high_first}
use Rattle.std.proofs.lemmas.Bool.{le-ltb}
use Rattle.std.proofs.lemmas.List.{get_or-append_right, nil_from_length}
use Rattle.bufr_sections.specs.declared.layout.Layout.{Layout}
use Rattle.bufr_sections.specs.declared.layout.Layout.TheVariants.{Edition4, Edition3}
use Rattle.bufr_sections.specs.Sections.{Envelope, Ignored, AreOctets, EnvelopeFits, spelling}
use Rattle.bufr_sections.specs.Sections.{sections, section1, section2, section3, section4, flag}
use Rattle.bufr_sections.specs.Sections.{is_present, shortest1, edition_number, envelope_of}
use Rattle.bufr_sections.specs.Sections.{nothing_ignored}
use Rattle.bufr_sections.specs.Spelt.{bare, spelt_or, longest, most_subsets}
use Rattle.bufr_sections.proofs.LengthFacts.{length_of_descriptors}
use Rattle.bufr_sections.proofs.SpellingFacts.{envelope_of_takes}

-- ---- the places of what readers ignore, without octets for local use and section 2

fixed_at : (e : Envelope) (i : Ignored) → e.head.local ≡ [] → e.section2 ≡ None
    → (get_or (spelling Edition4 e i) 17 0 ≡ i.bits1)
    × (get_or (spelling Edition4 e i) 33 0 ≡ i.octet3)
    × (get_or (spelling Edition4 e i) 36 0
    ≡ flag e.observed 128 + flag e.compressed 64 + i.bits3)
unfolding spelling sections
fixed_at e i local two = rw (local, two) (omega arith, refl, refl)

-- the octets before section 4
abbrev before4 : Layout → Envelope → Ignored → List ℕ
before4 layout e i = codes "BUFR" ++ bytes_high_first 3 (12 + length (sections layout e i))
    ++ edition_number layout ∷ (section1 layout e.head (is_present e.section2) i
    ++ section2 e.section2 i.octet2 ++ section3 e i)

regrouped : (front one two three four last : List ℕ)
    → front ++ (one ++ two ++ three ++ four) ++ last
    ≡ (front ++ (one ++ two ++ three)) ++ (four ++ last)
regrouped front one two three four last = simp append_assoc

parted : (layout : Layout) (e : Envelope) (i : Ignored) → spelling layout e i
    ≡ before4 layout e i ++ (section4 e.contents i.octet4 ++ codes "7777")
unfolding spelling sections
parted layout e i =
    regrouped
    (codes "BUFR" ++ bytes_high_first 3 (12 + length (sections layout e i))
    ++ edition_number layout ∷ [])
    (section1 layout e.head (is_present e.section2) i) (section2 e.section2 i.octet2)
    (section3 e i) (section4 e.contents i.octet4) (codes "7777")

length_before4 : (layout : Layout) (e : Envelope) (i : Ignored) → e.head.local ≡ []
    → e.section2 ≡ None
    → length (before4 layout e i) ≡ 15 + shortest1 layout + 2 * length e.descriptors + length i.odd
length_before4 Edition4 e i local two =
    let pairs = length_of_descriptors e.descriptors in
    let three = length-append (flat_map (bytes_high_first 2) e.descriptors) i.odd in
    rw (local, two) (omega arith)
length_before4 Edition3 e i local two =
    let pairs = length_of_descriptors e.descriptors in
    let three = length-append (flat_map (bytes_high_first 2) e.descriptors) i.odd in
    rw (local, two) (omega arith)

length_is : (layout : Layout) (e : Envelope) (i : Ignored) → e.head.local ≡ []
    → e.section2 ≡ None → length (spelling layout e i)
    ≡ 23 + shortest1 layout + 2 * length e.descriptors + length i.odd + length e.contents
length_is layout e i local two =
    let front = length_before4 layout e i local two in
    let whole = ap length (parted layout e i) in
    let both = length-append (before4 layout e i) (section4 e.contents i.octet4 ++ codes "7777") in
    let end = length-append (section4 e.contents i.octet4) (codes "7777") in
    omega arith

fourth_at : (e : Envelope) (i : Ignored) → e.head.local ≡ [] → e.section2 ≡ None → i.odd ≡ []
    → get_or (spelling Edition4 e i) (37 + 2 * length e.descriptors + 3) 0 ≡ i.octet4
fourth_at e i local two none =
    let p : ℕ = 37 + 2 * length e.descriptors in
    let front : length (before4 Edition4 e i) ≡ p =
    omega (arith, length_before4 Edition4 e i local two, ap length none) in
    let three : p + 3 - p ≡ 3 = omega arith in
    ap (λ l. get_or l (p + 3) 0) (parted Edition4 e i)
    ∙ get_or-append_right (before4 Edition4 e i) (section4 e.contents i.octet4 ++ codes "7777") p
    (p + 3) 0 front (omega arith)
    ∙ ap (λ k. get_or (section4 e.contents i.octet4 ++ codes "7777") k 0) three

-- ---- zeros in all that readers ignore

nothing_free : (e : Envelope) (i : Ignored) → e.section2 ≡ None → i.bits1 ≡ 0 → i.octet3 ≡ 0
    → i.bits3 ≡ 0 → i.odd ≡ [] → i.octet4 ≡ 0 → spelling Edition4 e i ≡ bare e
unfolding spelling sections
nothing_free e i two bits1 octet3 bits3 odd octet4 =
    rw (two, bits1, octet3, bits3, odd, octet4) refl

low_bits : (observed compressed : Bool) (bits3 : ℕ) → bits3 < 64
    → (flag observed 128 + flag compressed 64 + bits3) % 64 ≡ 0 → bits3 ≡ 0
low_bits true true bits3 small none = omega arith
low_bits true false bits3 small none = omega arith
low_bits false true bits3 small none = omega arith
low_bits false false bits3 small none = omega arith

-- the length shows edition 4 and no odd octet: edition 3 is shorter, even with one
written : (layout : Layout) (e : Envelope) (i : Ignored) → EnvelopeFits layout e i
    → e.head.local ≡ [] → e.section2 ≡ None
    → length (spelling layout e i) ≡ 45 + 2 * length e.descriptors + length e.contents
    → get_or (spelling layout e i) 17 0 ≡ 0 → get_or (spelling layout e i) 33 0 ≡ 0
    → get_or (spelling layout e i) 36 0 % 64 ≡ 0
    → get_or (spelling layout e i) (37 + 2 * length e.descriptors + 3) 0 ≡ 0
    → spelling layout e i ≡ bare e
written Edition3 e i fits local two long one three flags four =
    absurd (omega (arith, length_is Edition3 e i local two, fits.ignored.4))
written Edition4 e i fits local two long one three flags four =
    let fixed = fixed_at e i local two in
    let odd : i.odd ≡ [] =
    nil_from_length i.odd (omega (arith, length_is Edition4 e i local two)) in
    nothing_free e i two (sym fixed.0 ∙ one) (sym fixed.1 ∙ three)
    (low_bits e.observed e.compressed i.bits3 fits.ignored.3 (rw fixed.2 at flags)) odd
    (sym (fourth_at e i local two odd) ∙ four)

-- octets that pass the tests are what `spell` writes
pub read_bare : (octets : List ℕ) (e : Envelope) → AreOctets octets → envelope_of octets ≡ Ok e
    → e.head.local ≡ [] → e.section2 ≡ None
    → length octets ≡ 45 + 2 * length e.descriptors + length e.contents
    → get_or octets 17 0 ≡ 0 → get_or octets 33 0 ≡ 0 → get_or octets 36 0 % 64 ≡ 0
    → get_or octets (37 + 2 * length e.descriptors + 3) 0 ≡ 0 → spelt_or e ≡ Ok octets
unfolding spelt_or
read_bare octets e all read local two long one three flags four =
    let h = envelope_of_takes octets e all read in
    let same =
    written h.0 e h.1 h.3 local two (rw h.2 at long) (rw h.2 at one) (rw h.2 at three)
    (rw h.2 at flags) (rw h.2 at four) in
    let few : nat_lt most_subsets e.count ≡ false = le-ltb _ _ (omega (arith, h.3.count)) in
    let short : nat_lt longest (length (bare e)) ≡ false =
    le-ltb _ _ (omega (arith, h.3.total, ap length same)) in
    rw (few, short, sym (h.2 ∙ same)) refl

-- ---- the converse

bare_is : (e : Envelope) (octets : List ℕ) → spelt_or e ≡ Ok octets → bare e ≡ octets
unfolding spelt_or
bare_is e octets spelt = by_test (nat_lt most_subsets e.count || nat_lt longest (length (bare e))) spelt
  where
    by_test : (many : Bool) → (if many then Err TooLarge else Ok (bare e)) ≡ Ok octets
        → bare e ≡ octets
    by_test true is = absurd cc
    by_test false is = ok_is _ _ is

-- what `spell` writes has this length, and zeros in all that readers ignore
pub record IsZero (octets : List ℕ) (e : Envelope) : Type 0 where
  pub long : length octets ≡ 45 + 2 * length e.descriptors + length e.contents
  pub one : get_or octets 17 0 ≡ 0
  pub three : get_or octets 33 0 ≡ 0
  pub flags : get_or octets 36 0 % 64 ≡ 0
  pub four : get_or octets (37 + 2 * length e.descriptors + 3) 0 ≡ 0

no_low_bits : (observed compressed : Bool)
    → (flag observed 128 + flag compressed 64 + 0) % 64 ≡ 0
no_low_bits true true = refl
no_low_bits true false = refl
no_low_bits false true = refl
no_low_bits false false = refl

pub bare_is_zero : (octets : List ℕ) (e : Envelope) → e.section2 ≡ None → e.head.local ≡ []
    → spelt_or e ≡ Ok octets → IsZero octets e
bare_is_zero octets e two local spelt =
    let fixed = fixed_at e nothing_ignored local two in
    subst (λ (o : List ℕ). IsZero o e) (bare_is e octets spelt) (
    record {
      long = omega (arith, length_is Edition4 e nothing_ignored local two);
      one = fixed.0;
      three = fixed.1;
      flags = ap (λ n. n % 64) fixed.2 ∙ no_low_bits e.observed e.compressed;
      four = fourth_at e nothing_ignored local two refl;
    }
    )
