-- Octets spell what reading returns, section by section: for the law `SectionsReadAreSpelt`.
use Rattle.std.proofs.Common.{◌≡◌, ℕ, ◌+◌, ◌-◌, ◌*◌, ◌/◌, ◌%◌, ◌^◌, ◌<◌, ◌≤◌, Bool, true, false}
use Rattle.std.proofs.Common.{not, List, [], ◌∷◌, ◌++◌, length, take, drop, Option, Some, None, Ok}
use Rattle.std.proofs.Common.{refl, sym, ap, subst, ◌∙◌, arith, length-append, inl, inr}
use Rattle.std.specs.Prelude.{◌==◌, ◌||◌, nat_lt, nat_le, codes, bytes_eq, All, IfSome}
use Rattle.std.specs.Prelude.{if◌then◌else◌}
use Rattle.std.specs.List.{flat_map}
use Rattle.std.specs.Int.{bytes_high_first}
use Rattle.std.proofs.lemmas.Bool.{cases_lt, ltb-false, eqb-true, eq-eqb, ne_eqb, le-leb, lt-leb}
use Rattle.std.proofs.lemmas.List.{take-append-drop, length-take}
use Rattle.std.proofs.lemmas.List.Elements.{All-nil, All-cons, All-head, All-tail, All-take}
use Rattle.std.proofs.lemmas.List.Elements.{All-drop}
use Rattle.std.proofs.lemmas.Slice.Eq.{bytes_eq-Decides}
use Rattle.bufr_sections.specs.declared.fault.Refused.{Refused}
use Rattle.bufr_sections.specs.declared.fault.Refused.TheVariants.{NotBufr, TotalLength, NoEnd}
use Rattle.bufr_sections.specs.declared.fault.Refused.TheVariants.{Section1Length, MasterTable}
use Rattle.bufr_sections.specs.declared.fault.Refused.TheVariants.{Section2Length, Section3Length}
use Rattle.bufr_sections.specs.declared.fault.Refused.TheVariants.{Section4Length}
use Rattle.bufr_sections.specs.declared.message.Head.{Head}
use Rattle.bufr_sections.specs.declared.layout.Layout.{Layout}
use Rattle.bufr_sections.specs.declared.layout.Layout.TheVariants.{Edition4, Edition3}
use Rattle.bufr_sections.specs.Sections.{Envelope, Ignored, IsOctet, AreOctets, section, section1}
use Rattle.bufr_sections.specs.Sections.{section2, section3, section4, sections, enclosed, spelling}
use Rattle.bufr_sections.specs.Sections.{flag, is_present, edition_number, layout_of, layout_or}
use Rattle.bufr_sections.specs.Sections.{shortest1, head_octets, nothing_ignored, HasSection1}
use Rattle.bufr_sections.specs.Sections.{EnvelopeFits, three, two, room_in, room_of, section_at}
use Rattle.bufr_sections.specs.Sections.{head4_of, head3_of, head_of, year_of_century, section2_at}
use Rattle.bufr_sections.specs.Sections.{Description, descriptors_of, description_of, contents_of}
use Rattle.bufr_sections.specs.Sections.{sections_of, envelope_of}
use Rattle.bufr_sections.specs.Causes.{HasSections}
use Rattle.bufr_sections.proofs.SectionFacts.{regrouped, head_is_long}
use Rattle.bufr_base.specs.AnswerLaws.{bind_ok, guard_ok, passed_ok, ok_is, or_first, or_second}
use Rattle.bufr_base.specs.AnswerLaws.{not_false}

-- ---- numbers of octets

three_spelt : (n a b c : ℕ) → n ≡ three a b c → a < 256 → b < 256 → c < 256
    → bytes_high_first 3 n ≡ a ∷ b ∷ c ∷ []
three_spelt n a b c e la lb lc =
    let h : n / 65536 % 256 ≡ a = omega arith in
    let m : n / 256 % 256 ≡ b = omega arith in
    let l : n % 256 ≡ c = omega arith in
    rw (h, m, l) refl

two_cells : (a b : ℕ) → a < 256 → b < 256
    → (two a b / 256 % 256 ≡ a) × (two a b % 256 ≡ b) × (two a b < 2 ^ 16)
two_cells a b la lb = (omega arith, omega arith, omega arith)

-- ---- section 0 and the end

room_spelt : (layout : Layout) (l1 l2 l3 : ℕ) (rest : List ℕ) → l1 < 256 → l2 < 256 → l3 < 256
    → three l1 l2 l3 ≡ 8 + length rest → 4 ≤ length rest
    → drop (length rest - 4) rest ≡ codes "7777"
    → (codes "BUFR" ++ l1 ∷ l2 ∷ l3 ∷ edition_number layout ∷ rest
    ≡ enclosed layout (take (length rest - 4) rest))
    × (12 + length (take (length rest - 4) rest) < 2 ^ 24)
room_spelt layout l1 l2 l3 rest h1 h2 h3 total long end =
    let room : List ℕ = take (length rest - 4) rest in
    let size : length room ≡ length rest - 4 = omega (arith, length-take (length rest - 4) rest) in
    let front = three_spelt (12 + length room) l1 l2 l3 (omega arith) h1 h2 h3 in
    let whole : rest ≡ room ++ codes "7777" =
    sym (take-append-drop (length rest - 4) rest) ∙ ap (λ xs. room ++ xs) end in (
      ap (λ xs. codes "BUFR" ++ l1 ∷ l2 ∷ l3 ∷ edition_number layout ∷ xs) whole
          ∙ ap (λ xs. codes "BUFR" ++ xs ++ edition_number layout ∷ room ++ codes "7777")
          (sym front),
      omega arith,
    )

room_in_takes : (total : ℕ) (rest room : List ℕ) → room_in total rest ≡ Ok room
    → (total ≡ 8 + length rest) × (4 ≤ length rest) × (drop (length rest - 4) rest ≡ codes "7777")
    × (take (length rest - 4) rest ≡ room)
unfolding room_in
room_in_takes total rest room e =
    let g3 = guard_ok (not (total == 8 + length rest)) TotalLength _ room e in
    let g4 =
    guard_ok
    (nat_lt (length rest) 4 || not
    (bytes_eq (drop (length rest - 4) rest) (codes "7777"))) NoEnd _ room g3.1 in (
      eqb-true _ _ (not_false _ g3.0),
      ltb-false _ _
          (or_first (nat_lt (length rest) 4)
          (not (bytes_eq (drop (length rest - 4) rest) (codes "7777"))) g4.0),
      (bytes_eq-Decides (drop (length rest - 4) rest) (codes "7777")).0
          (not_false _
          (or_second (nat_lt (length rest) 4)
          (not (bytes_eq (drop (length rest - 4) rest) (codes "7777"))) g4.0)),
      ok_is _ _ g4.1,
    )

layout_takes : (edition : ℕ) (layout : Layout) → layout_or edition (layout_of edition) ≡ Ok layout
    → edition ≡ edition_number layout
layout_takes edition layout e = by_test (edition == 4) refl (edition == 3) refl e
  where
    by_test : (four : Bool) → (edition == 4) ≡ four → (three : Bool) → (edition == 3) ≡ three
        → layout_or edition (if four then Some Edition4 else if three then Some Edition3 else None)
        ≡ Ok layout → edition ≡ edition_number layout
    by_test true is three other e = eqb-true _ _ is ∙ ap edition_number (ok_is _ _ e)
    by_test false not_four true is e = eqb-true _ _ is ∙ ap edition_number (ok_is _ _ e)
    by_test false not_four false not_three e = absurd cc

-- octets spell the room as read
pub room_of_takes : (octets : List ℕ) (found : Layout × List ℕ) → AreOctets octets
    → room_of octets ≡ Ok found
    → (octets ≡ enclosed found.0 found.1) × (12 + length found.1 < 2 ^ 24) × AreOctets found.1
unfolding room_of
room_of_takes (b ∷ u ∷ f ∷ r ∷ l1 ∷ l2 ∷ l3 ∷ edition ∷ rest) found octets e =
    let g1 = guard_ok (not (bytes_eq (b ∷ u ∷ f ∷ r ∷ []) (codes "BUFR"))) NotBufr _ found e in
    let start : b ∷ u ∷ f ∷ r ∷ [] ≡ codes "BUFR" =
    (bytes_eq-Decides (b ∷ u ∷ f ∷ r ∷ []) (codes "BUFR")).0 (not_false _ g1.0) in
    let layout = bind_ok (layout_or edition (layout_of edition)) _ found g1.1 in
    let number = layout_takes edition layout.0 layout.1 in
    let room = bind_ok (room_in (three l1 l2 l3) rest) _ found layout.2 in
    let whole = room_in_takes (three l1 l2 l3) rest room.0 room.1 in
    let spelt =
    room_spelt layout.0 l1 l2 l3 rest (octets 4 0 (omega arith)) (octets 5 0 (omega arith))
    (octets 6 0 (omega arith)) whole.0 whole.1 whole.2 in
    let is : (layout.0, take (length rest - 4) rest) ≡ found =
    ap (λ xs. (layout.0, xs)) whole.3 ∙ ok_is _ _ room.2 in
    subst (λ (x : Layout × List ℕ).
    (b ∷ u ∷ f ∷ r ∷ l1 ∷ l2 ∷ l3 ∷ edition ∷ rest ≡ enclosed x.0 x.1)
    × (12 + length x.1 < 2 ^ 24) × AreOctets x.1) is (
      ap (λ xs. xs ++ l1 ∷ l2 ∷ l3 ∷ edition ∷ rest) start
          ∙ ap (λ n. codes "BUFR" ++ l1 ∷ l2 ∷ l3 ∷ n ∷ rest) number ∙ spelt.0,
      spelt.1,
      All-take IsOctet (length rest - 4) rest
          (All-drop IsOctet 8 (b ∷ u ∷ f ∷ r ∷ l1 ∷ l2 ∷ l3 ∷ edition ∷ rest) octets),
    )
room_of_takes _ found octets e = absurd cc

-- ---- a section

-- octets spell a section as read
pub section_at_takes : (shortest : ℕ) (fault : Refused) (room contents rest : List ℕ) → 3 ≤ shortest
    → AreOctets room → section_at shortest fault room ≡ Ok (contents, rest)
    → (room ≡ section contents ++ rest) × (shortest ≤ 3 + length contents) × AreOctets contents
    × AreOctets rest
unfolding section_at
section_at_takes shortest fault (a ∷ b ∷ c ∷ more) contents rest least octets e =
    let g =
    guard_ok (nat_lt (three a b c) shortest || nat_lt (3 + length more) (three a b c)) fault _
    (contents, rest) e in
    let long : shortest ≤ three a b c =
    ltb-false _ _
    (or_first (nat_lt (three a b c) shortest) (nat_lt (3 + length more) (three a b c)) g.0) in
    let inside : three a b c ≤ 3 + length more =
    ltb-false _ _
    (or_second (nat_lt (three a b c) shortest) (nat_lt (3 + length more) (three a b c)) g.0) in
    let len : length (take (three a b c - 3) more) ≡ three a b c - 3 =
    omega (arith, length-take (three a b c - 3) more) in
    let whole : 3 + length (take (three a b c - 3) more) ≡ three a b c = omega arith in
    let front =
    three_spelt (3 + length (take (three a b c - 3) more)) a b c whole
    (octets 0 0 (omega arith)) (octets 1 0 (omega arith)) (octets 2 0 (omega arith)) in
    let others = All-drop IsOctet 3 (a ∷ b ∷ c ∷ more) octets in
    subst (λ (p : List ℕ × List ℕ). (a ∷ b ∷ c ∷ more ≡ section p.0 ++ p.1)
    × (shortest ≤ 3 + length p.0) × AreOctets p.0 × AreOctets p.1) (ok_is _ _ g.1) (
      ap (λ xs. a ∷ b ∷ c ∷ xs) (sym (take-append-drop (three a b c - 3) more))
          ∙ ap (λ (h : List ℕ). h ++ take (three a b c - 3) more ++ drop (three a b c - 3) more)
          (sym front),
      omega arith,
      All-take IsOctet (three a b c - 3) more others,
      All-drop IsOctet (three a b c - 3) more others,
    )
section_at_takes shortest fault _ contents rest least octets e = absurd cc

-- ---- section 1

first_bit : (flags : ℕ) → flags < 256 → flag (nat_le 128 flags) 128 ≡ flags / 128 * 128
first_bit flags h = elim (cases_lt flags 128) [
  | inl lt ↦ let e : nat_le 128 flags ≡ false = lt-leb _ _ lt in rw e (omega arith)
  | inr le ↦ let e : nat_le 128 flags ≡ true = le-leb _ _ le in rw e (omega arith)
]

flags1 : (flags : ℕ) → flags < 256
    → (flags ≡ flag (nat_le 128 flags) 128 + flags % 128) × (flags % 128 < 128)
flags1 flags h = (omega (arith, first_bit flags h), omega arith)

-- octets spell a head with some reserved bits and some octet for the year, whatever else readers
-- ignore
abbrev pub SpeltHead : Layout → List ℕ → Head × Bool → Type 0
SpeltHead layout octets h = (bits1 : ℕ) × (year_octet : ℕ) × (bits1 < 128)
    × ((i : Ignored) → i.bits1 ≡ bits1 → i.year_octet ≡ year_octet
    → (octets ≡ head_octets layout h.0 h.1 i) × HasSection1 layout h.0 i)

head4_of_takes : (octets : List ℕ) (h : Head × Bool) → AreOctets octets → head4_of octets ≡ Ok h
    → SpeltHead Edition4 octets h
unfolding head4_of
head4_of_takes
    (master ∷ c1 ∷ c2 ∷ s1 ∷ s2 ∷ update ∷ flags ∷ category ∷ international ∷ local_category
    ∷ master_version ∷ local_version ∷ y1 ∷ y2 ∷ month ∷ day ∷ hour ∷ minute ∷ second
    ∷ local) h octets e =
    let p = passed_ok (master == 0) _ (MasterTable master) h e in
    let none : master ≡ 0 = eqb-true _ _ p.0 in
    let centre = two_cells c1 c2 (octets 1 0 (omega arith)) (octets 2 0 (omega arith)) in
    let sub_centre = two_cells s1 s2 (octets 3 0 (omega arith)) (octets 4 0 (omega arith)) in
    let year = two_cells y1 y2 (octets 12 0 (omega arith)) (octets 13 0 (omega arith)) in
    let bits = flags1 flags (octets 6 0 (omega arith)) in
    let front = master ∷ c1 ∷ c2 ∷ s1 ∷ s2 ∷ update ∷ flags ∷ category ∷ international
    ∷ local_category ∷ master_version ∷ local_version ∷ y1 ∷ y2 ∷ month ∷ day ∷ hour ∷ minute
    ∷ second ∷ local in
    subst (SpeltHead Edition4 front) p.1 (
      flags % 128,
      0,
      bits.1,
      λ i same same_year. (
        rw (centre.0, centre.1, sub_centre.0, sub_centre.1, year.0, year.1, same, ← bits.0, none)
            refl,
        record {
          centre = centre.2;
          sub_centre = sub_centre.2;
          update = octets 5 0 (omega arith);
          category = octets 7 0 (omega arith);
          international = octets 8 0 (omega arith);
          local_category = octets 9 0 (omega arith);
          master_version = octets 10 0 (omega arith);
          local_version = octets 11 0 (omega arith);
          year = year.2;
          month = octets 14 0 (omega arith);
          day = octets 15 0 (omega arith);
          hour = octets 16 0 (omega arith);
          minute = octets 17 0 (omega arith);
          second = octets 18 0 (omega arith);
          local = All-drop IsOctet 19 front octets;
        },
      ),
    )
head4_of_takes _ h octets e = absurd cc

head3_of_takes : (octets : List ℕ) (h : Head × Bool) → AreOctets octets → head3_of octets ≡ Ok h
    → SpeltHead Edition3 octets h
unfolding head3_of
head3_of_takes
    (master ∷ sub_centre ∷ centre ∷ update ∷ flags ∷ category ∷ local_category ∷ master_version
    ∷ local_version ∷ year ∷ month ∷ day ∷ hour ∷ minute ∷ local) h octets e =
    let p = passed_ok (master == 0) _ (MasterTable master) h e in
    let none : master ≡ 0 = eqb-true _ _ p.0 in
    let bits = flags1 flags (octets 4 0 (omega arith)) in
    let front = master ∷ sub_centre ∷ centre ∷ update ∷ flags ∷ category ∷ local_category
    ∷ master_version ∷ local_version ∷ year ∷ month ∷ day ∷ hour ∷ minute ∷ local in
    subst (SpeltHead Edition3 front) p.1 (
      flags % 128,
      year,
      bits.1,
      λ i same same_year. (
        rw (same, same_year, ← bits.0, none) refl,
        record {
          centre = octets 2 0 (omega arith);
          sub_centre = octets 1 0 (omega arith);
          update = octets 3 0 (omega arith);
          category = octets 5 0 (omega arith);
          international = refl;
          local_category = octets 6 0 (omega arith);
          master_version = octets 7 0 (omega arith);
          local_version = octets 8 0 (omega arith);
          year = ap year_of_century (sym same_year);
          year_octet = rw same_year (octets 9 0 (omega arith));
          month = octets 10 0 (omega arith);
          day = octets 11 0 (omega arith);
          hour = octets 12 0 (omega arith);
          minute = octets 13 0 (omega arith);
          second = refl;
          local = All-drop IsOctet 14 front octets;
        },
      ),
    )
head3_of_takes _ h octets e = absurd cc

pub head_of_takes : (layout : Layout) (octets : List ℕ) (h : Head × Bool) → AreOctets octets
    → head_of layout octets ≡ Ok h → SpeltHead layout octets h
head_of_takes Edition4 octets h all e = head4_of_takes octets h all e
head_of_takes Edition3 octets h all e = head3_of_takes octets h all e

-- ---- section 2

pub local_at_takes : (announced : Bool) (room rest : List ℕ) (local : Option (List ℕ))
    → AreOctets room → section2_at announced room ≡ Ok (local, rest)
    → (ignored : ℕ) × IsOctet ignored × (room ≡ section2 local ignored ++ rest)
    × (is_present local ≡ announced) × IfSome local AreOctets × AreOctets rest
local_at_takes false room rest local octets e =
    subst (λ (p : Option (List ℕ) × List ℕ). (ignored : ℕ) × IsOctet ignored
    × (room ≡ section2 p.0 ignored ++ p.1) × (is_present p.0 ≡ false) × IfSome p.0 AreOctets
    × AreOctets p.1) (ok_is _ _ e)
    (0, omega arith, refl, refl, tt, octets)
local_at_takes true room rest local octets e =
    let two = bind_ok (section_at 4 Section2Length room) _ (local, rest) e in
    let found = section_at_takes 4 Section2Length room two.0.0 two.0.1 (omega arith) octets two.1 in
    subst (λ (p : Option (List ℕ) × List ℕ). (ignored : ℕ) × IsOctet ignored
    × (room ≡ section2 p.0 ignored ++ p.1) × (is_present p.0 ≡ true) × IfSome p.0 AreOctets
    × AreOctets p.1) (ok_is _ _ two.2)
    (local_spelt room two.0.0 two.0.1 found.0 found.1 found.2 found.3)
  where
    local_spelt : (room octets rest : List ℕ) → room ≡ section octets ++ rest
        → 4 ≤ 3 + length octets → AreOctets octets → AreOctets rest
        → (ignored : ℕ) × IsOctet ignored × (room ≡ section2 (Some (drop 1 octets)) ignored ++ rest)
        × (is_present (Some (drop 1 octets)) ≡ true) × AreOctets (drop 1 octets)
        × AreOctets rest
    local_spelt room [] rest is long octets others = absurd (omega arith)
    local_spelt room (x ∷ xs) rest is long octets others =
        (x, All-head IsOctet x xs octets, is, refl, All-tail IsOctet x xs octets, others)

-- ---- section 3

pub list_spelt : (list : List ℕ) → AreOctets list
    → (odd : List ℕ) × (list ≡ flat_map (bytes_high_first 2) (descriptors_of list) ++ odd)
    × (length odd ≤ 1) × AreOctets odd × All (λ d. d < 2 ^ 16) (descriptors_of list)
unfolding descriptors_of
list_spelt [] octets = ([], refl, omega arith, All-nil IsOctet, All-nil (λ d. d < 2 ^ 16))
list_spelt (a ∷ []) octets = (a ∷ [], refl, omega arith, octets, All-nil (λ d. d < 2 ^ 16))
list_spelt (a ∷ b ∷ rest) octets =
    let more = list_spelt rest (All-drop IsOctet 2 (a ∷ b ∷ rest) octets) in
    let cells = two_cells a b (octets 0 0 (omega arith)) (octets 1 0 (omega arith)) in (
      more.0,
      rw (cells.0, cells.1) (ap (λ xs. a ∷ b ∷ xs) more.1),
      more.2,
      more.3,
      All-cons (λ d. d < 2 ^ 16) (two a b) (descriptors_of rest) cells.2 more.4,
    )

second_bit : (flags : ℕ) → flag (flags / 64 % 2 == 1) 64 ≡ flags / 64 % 2 * 64
second_bit flags = elim (cases_lt (flags / 64 % 2) 1) [
  | inl none ↦
      let e : (flags / 64 % 2 == 1) ≡ false = ne_eqb _ _ (λ one. omega arith) in rw e (omega arith)
  | inr some ↦
      let e : (flags / 64 % 2 == 1) ≡ true = eq-eqb _ _ (omega arith) in rw e (omega arith)
]

-- the flags and the reserved bits make up their octet
flags3 : (flags : ℕ) → flags < 256
    → (flags ≡ flag (nat_le 128 flags) 128 + flag (flags / 64 % 2 == 1) 64 + flags % 64)
    × (flags % 64 < 64)
flags3 flags h = (omega (arith, first_bit flags h, second_bit flags), omega arith)

-- octets spell section 3 after its length
pub record Described (octets : List ℕ) (d : Description) : Type 0 where
  pub octet3 : ℕ
  pub bits3 : ℕ
  pub odd : List ℕ
  pub spelt : octets ≡ octet3 ∷ bytes_high_first 2 d.count
      ++ (flag d.observed 128 + flag d.compressed 64 + bits3)
      ∷ flat_map (bytes_high_first 2) d.descriptors ++ odd
  pub is_octet : IsOctet octet3
  pub few : bits3 < 64
  pub short : length odd ≤ 1
  pub octets_odd : AreOctets odd
  pub some_descriptor : 0 < length d.descriptors
  pub descriptors : All (λ d. d < 2 ^ 16) d.descriptors
  pub count : d.count < 2 ^ 16

some_listed : (list : List ℕ) → 2 ≤ length list → 0 < length (descriptors_of list)
unfolding descriptors_of
some_listed (a ∷ b ∷ rest) h = omega arith
some_listed _ h = absurd (omega arith)

pub description_of_takes : (octets : List ℕ) (d : Description) → AreOctets octets
    → 6 ≤ length octets → description_of octets ≡ Ok d → Described octets d
unfolding description_of
description_of_takes (x ∷ n1 ∷ n2 ∷ flags ∷ list) d octets long e =
    let cells = two_cells n1 n2 (octets 1 0 (omega arith)) (octets 2 0 (omega arith)) in
    let bits = flags3 flags (octets 3 0 (omega arith)) in
    let listed = list_spelt list (All-drop IsOctet 4 (x ∷ n1 ∷ n2 ∷ flags ∷ list) octets) in
    subst (Described (x ∷ n1 ∷ n2 ∷ flags ∷ list)) (ok_is _ _ e)
    (record {
      octet3 = x;
      bits3 = flags % 64;
      odd = listed.0;
      spelt = rw (cells.0, cells.1, ← bits.0) (ap (λ xs. x ∷ n1 ∷ n2 ∷ flags ∷ xs) listed.1);
      is_octet = octets 0 0 (omega arith);
      few = bits.1;
      short = listed.2;
      octets_odd = listed.3;
      some_descriptor = some_listed list (omega arith);
      descriptors = listed.4;
      count = cells.2;
    })
description_of_takes _ d octets long e = absurd cc

-- ---- section 4

contents_spelt : (octets : List ℕ) → 4 ≤ 3 + length octets → AreOctets octets
    → (ignored : ℕ) × IsOctet ignored × (section octets ≡ section4 (drop 1 octets) ignored)
    × AreOctets (drop 1 octets)
contents_spelt [] long octets = absurd (omega arith)
contents_spelt (x ∷ xs) long octets =
    (x, All-head IsOctet x xs octets, refl, All-tail IsOctet x xs octets)

pub contents_of_takes : (octets rest contents : List ℕ) → 4 ≤ 3 + length octets → AreOctets octets
    → contents_of (octets, rest) ≡ Ok contents
    → (ignored : ℕ) × IsOctet ignored × (section octets ++ rest ≡ section4 contents ignored ++ [])
    × AreOctets contents
contents_of_takes octets [] contents long all e =
    subst (λ (xs : List ℕ). (ignored : ℕ) × IsOctet ignored
    × (section octets ++ [] ≡ section4 xs ignored ++ []) × AreOctets xs) (ok_is _ _ e)
    (let c = contents_spelt octets long all in (c.0, c.1, ap (λ xs. xs ++ []) c.2, c.3))
contents_of_takes octets (x ∷ rest) contents long all e =
    let none : length (x ∷ rest) ≡ 0 =
    eqb-true _ _ (passed_ok (length (x ∷ rest) == 0) _ Section4Length contents e).0 in
    absurd (omega arith)

-- ---- the sections together

-- the parts as one envelope
abbrev enveloped : Head → Option (List ℕ) → Description → List ℕ → Envelope
enveloped h local d contents =
    record {
      head = h;
      section2 = local;
      observed = d.observed;
      compressed = d.compressed;
      descriptors =
          d.descriptors;
      count = d.count;
      contents = contents;
    }

-- sections that octets spell each are spelt together
together : (layout : Layout) (room room2 room3 room4 : List ℕ) (h : Head) (announced : Bool)
    (local : Option (List ℕ)) (d : Description) (contents : List ℕ) (i : Ignored)
    → room ≡ section1 layout h announced i ++ room2 → is_present local ≡ announced
    → room2 ≡ section2 local i.octet2 ++ room3
    → room3 ≡ section3 (enveloped h local d contents) i ++ room4
    → room4 ≡ section4 contents i.octet4 ++ []
    → room ≡ sections layout (enveloped h local d contents) i
unfolding sections
together layout room room2 room3 room4 h announced local d contents i e1 present e2 e3 e4 =
    let s1 = section1 layout h (is_present local) i in
    let s2 = section2 local i.octet2 in
    let s3 = section3 (enveloped h local d contents) i in
    let s4 = section4 contents i.octet4 in
    e1 ∙ ap (λ a. section1 layout h a i ++ room2) (sym present)
    ∙ ap (λ xs. s1 ++ xs) (e2 ∙ ap (λ xs. s2 ++ xs) (e3 ∙ ap (λ xs. s3 ++ xs) e4))
    ∙ sym (regrouped s1 s2 s3 s4)

-- each part as read fits its field
fits_together : (layout : Layout) (room : List ℕ) (h : Head) (local : Option (List ℕ))
    (d : Description) (contents : List ℕ) (i : Ignored) (octets3 : List ℕ)
    (said : Described octets3 d) → 12 + length room < 2 ^ 24
    → room ≡ sections layout (enveloped h local d contents) i → HasSection1 layout h i
    → IfSome local AreOctets → AreOctets contents → i.bits1 < 128 → IsOctet i.octet2
    → IsOctet i.octet4 → i.octet3 ≡ said.octet3 → i.bits3 ≡ said.bits3 → i.odd ≡ said.odd
    → EnvelopeFits layout (enveloped h local d contents) i
unfolding spelling
fits_together layout room h local d contents i octets3 said small is head section2 all bits1 octet2
    octet4 same3 same_bits same_odd =
    record {
      head = head;
      section2 = section2;
      some_descriptor = said.some_descriptor;
      descriptors = said.descriptors;
      count = said.count;
      contents = all;
      total =
          let len : length (sections layout (enveloped h local d contents) i) ≡ length room =
          ap length (sym is) in
          omega (
            arith,
            length-append (sections layout (enveloped h local d contents) i) (codes "7777"),
          );
      ignored = (
        bits1,
        octet2,
        rw same3 said.is_octet,
        rw same_bits said.few,
        rw same_odd said.short,
        rw same_odd said.octets_odd,
        octet4,
      );
    }

pub sections_of_takes : (layout : Layout) (room : List ℕ) (e : Envelope) → AreOctets room
    → 12 + length room < 2 ^ 24 → sections_of layout room ≡ Ok e
    → (i : Ignored) × (room ≡ sections layout e i) × EnvelopeFits layout e i
unfolding sections_of
sections_of_takes layout room e octets small ok =
    let one = bind_ok (section_at (shortest1 layout) Section1Length room) _ e ok in
    let head = bind_ok (head_of layout one.0.0) _ e one.2 in
    let two = bind_ok (section2_at head.0.1 one.0.1) _ e head.2 in
    let three = bind_ok (section_at 9 Section3Length two.0.1) _ e two.2 in
    let said = bind_ok (description_of three.0.0) _ e three.2 in
    let four = bind_ok (section_at 4 Section4Length three.0.1) _ e said.2 in
    let last = bind_ok (contents_of four.0) _ e four.2 in
    let t1 =
    section_at_takes (shortest1 layout) Section1Length room one.0.0 one.0.1
    (head_is_long layout head.0.0 head.0.1 nothing_ignored).0 octets one.1 in
    let th = head_of_takes layout one.0.0 head.0 t1.2 head.1 in
    let t2 = local_at_takes head.0.1 one.0.1 two.0.1 two.0.0 t1.3 two.1 in
    let t3 =
    section_at_takes 9 Section3Length two.0.1 three.0.0 three.0.1 (omega arith) t2.5 three.1 in
    let td = description_of_takes three.0.0 said.0 t3.2 (omega (arith, t3.1)) said.1 in
    let t4 =
    section_at_takes 4 Section4Length three.0.1 four.0.0 four.0.1 (omega arith) t3.3 four.1 in
    let tc = contents_of_takes four.0.0 four.0.1 last.0 t4.1 t4.2 last.1 in
    let i : Ignored = record {
      bits1 = th.0;
      octet2 = t2.0;
      octet3 = td.octet3;
      bits3 = td.bits3;
      odd = td.odd;
      octet4 = tc.0;
      year_octet = th.1;
    } in
    let h = th.3 i refl refl in
    let spelt =
    together layout room one.0.1 two.0.1 three.0.1 head.0.0 head.0.1 two.0.0 said.0 last.0 i
    (t1.0 ∙ ap (λ xs. section xs ++ one.0.1) h.0) t2.3 t2.2
    (t3.0 ∙ ap (λ xs. section xs ++ three.0.1) td.spelt) (t4.0 ∙ tc.2) in
    let spelt_as = λ (e : Envelope).
    (i : Ignored) × (room ≡ sections layout e i) × EnvelopeFits layout e i in
    subst spelt_as (ok_is _ _ last.2) (
      i,
      spelt,
      fits_together layout room head.0.0 two.0.0 said.0 last.0 i three.0.0 td small spelt
          h.1 t2.4 tc.3 th.2 t2.1 tc.1 refl refl refl,
    )

-- octets spell the sections that reading returns
pub envelope_of_takes : (octets : List ℕ) (e : Envelope) → AreOctets octets
    → envelope_of octets ≡ Ok e → HasSections octets e
unfolding envelope_of spelling
envelope_of_takes octets e all ok =
    let room = bind_ok (room_of octets) _ e ok in
    let outer = room_of_takes octets room.0 all room.1 in
    let inner = sections_of_takes room.0.0 room.0.1 e outer.2 outer.1 room.2 in
    (room.0.0, inner.0, outer.0 ∙ ap (enclosed room.0.0) inner.1, inner.2)
