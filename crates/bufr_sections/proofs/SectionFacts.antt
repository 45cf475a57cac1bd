-- Reading returns what octets spell, section by section: for the law `SectionsSpeltAreRead`.
use Rattle.std.proofs.Common.{◌≡◌, ℕ, ◌+◌, ◌-◌, ◌/◌, ◌%◌, ◌^◌, ◌<◌, ◌≤◌, Bool, true, false, ltb}
use Rattle.std.proofs.Common.{List, [], ◌∷◌, ◌++◌, length, drop, Option, Some, None, Ok, refl, ap}
use Rattle.std.proofs.Common.{◌∙◌, arith, append_assoc, length-append, eq-eqb}
use Rattle.std.specs.List.{AllByRecursion}
use Rattle.std.specs.Prelude.{◌==◌, nat_le, codes}
use Rattle.std.specs.List.{flat_map}
use Rattle.std.specs.Int.{bytes_high_first}
use Rattle.std.proofs.lemmas.Bool.{le-ltb, le-leb, lt-leb}
use Rattle.std.proofs.lemmas.List.Elements.{recursion_from_All}
use Rattle.std.proofs.lemmas.List.{append-nil, take_at, drop_at}
use Rattle.bufr_sections.specs.declared.fault.Refused.{Refused}
use Rattle.bufr_sections.specs.declared.fault.Refused.TheVariants.{Section1Length, Section2Length}
use Rattle.bufr_sections.specs.declared.fault.Refused.TheVariants.{Section3Length, Section4Length}
use Rattle.bufr_sections.specs.declared.message.Head.{Head}
use Rattle.bufr_sections.specs.declared.layout.Layout.{Layout}
use Rattle.bufr_sections.specs.declared.layout.Layout.TheVariants.{Edition4, Edition3}
use Rattle.bufr_sections.specs.Sections.{Envelope, Ignored, section, section1, section2, section3}
use Rattle.bufr_sections.specs.Sections.{section4, sections, enclosed, spelling, flag, is_present}
use Rattle.bufr_sections.specs.Sections.{edition_number, layout_of, shortest1, head_octets}
use Rattle.bufr_sections.specs.Sections.{HasSection1, EnvelopeFits, three, two, room_in, room_of}
use Rattle.bufr_sections.specs.Sections.{section_at, head4_of, head3_of, head_of, section2_at}
use Rattle.bufr_sections.specs.Sections.{Description, descriptors_of, description_of, sections_of}
use Rattle.bufr_sections.specs.Sections.{envelope_of}
use Rattle.bufr_sections.proofs.LengthFacts.{four_parts}

three_is : (n : ℕ) → n < 2 ^ 24 → three (n / 2 ^ 16 % 256) (n / 2 ^ 8 % 256) (n % 256) ≡ n
three_is n h = omega arith

pub section_at-section : (shortest : ℕ) (fault : Refused) (contents rest : List ℕ)
    → shortest ≤ 3 + length contents → 3 + length contents < 2 ^ 24
    → section_at shortest fault (section contents ++ rest) ≡ Ok (contents, rest)
unfolding section_at
section_at-section shortest fault contents rest long small =
    let n = three_is (3 + length contents) small in
    let enough : ltb (3 + length contents) shortest ≡ false = le-ltb _ _ long in
    let inside : ltb (3 + length (contents ++ rest)) (3 + length contents) ≡ false =
    le-ltb _ _ (omega (arith, length-append contents rest)) in
    let behind : 3 + length contents - 3 ≡ length contents = omega arith in
    rw (
      n,
      enough,
      inside,
      behind,
      take_at contents rest (length contents) refl,
      drop_at contents rest (length contents) refl,
    ) refl

pub room_in-whole : (middle : List ℕ) → 12 + length middle < 2 ^ 24
    → room_in (three ((12 + length middle) / 2 ^ 16 % 256) ((12 + length middle) / 2 ^ 8 % 256)
    ((12 + length middle) % 256)) (middle ++ codes "7777") ≡ Ok middle
unfolding room_in
room_in-whole middle small =
    let n = three_is (12 + length middle) small in
    let total : (12 + length middle == 8 + length (middle ++ codes "7777")) ≡ true =
    eq-eqb _ _ (omega (arith, length-append middle (codes "7777"))) in
    let long : ltb (length (middle ++ codes "7777")) 4 ≡ false =
    le-ltb _ _ (omega (arith, length-append middle (codes "7777"))) in
    let before : length (middle ++ codes "7777") - 4 ≡ length middle =
    omega (arith, length-append middle (codes "7777")) in
    rw (
      n,
      total,
      long,
      before,
      drop_at middle (codes "7777") (length middle) refl,
      take_at middle (codes "7777") (length middle) refl,
    ) refl

pub layout_of-number : (layout : Layout) → layout_of (edition_number layout) ≡ Some layout
layout_of-number Edition4 = refl
layout_of-number Edition3 = refl

pub room_of-enclosed : (layout : Layout) (middle : List ℕ) → 12 + length middle < 2 ^ 24
    → room_of (enclosed layout middle) ≡ Ok (layout, middle)
unfolding room_of
room_of-enclosed layout middle small = rw (layout_of-number layout, room_in-whole middle small) refl

-- ---- section 1

two_is : (n : ℕ) → n < 2 ^ 16 → two (n / 2 ^ 8 % 256) (n % 256) ≡ n
two_is n h = omega arith

-- the other bits don't change the flag of section 2
announced_is : (announced : Bool) (ignored : ℕ) → ignored < 128
    → nat_le 128 (flag announced 128 + ignored) ≡ announced
announced_is true ignored h = le-leb _ _ (omega arith)
announced_is false ignored h = lt-leb _ _ (omega arith)

-- reading returns the head that a layout spells
pub head_of-section1 : (layout : Layout) (h : Head) (announced : Bool) (i : Ignored)
    → HasSection1 layout h i → i.bits1 < 128
    → head_of layout (head_octets layout h announced i) ≡ Ok (h, announced)
unfolding head4_of head3_of
head_of-section1 Edition4 h announced i fits small =
    rw (
      two_is h.centre fits.centre,
      two_is h.sub_centre fits.sub_centre,
      two_is h.year fits.year,
      announced_is announced i.bits1 small,
    ) refl
head_of-section1 Edition3 h announced i fits small =
    rw (announced_is announced i.bits1 small, ← fits.year, ← fits.international, ← fits.second) refl

pub head_is_long : (layout : Layout) (h : Head) (announced : Bool) (i : Ignored)
    → (3 ≤ shortest1 layout) × (shortest1 layout ≤ 3 + length (head_octets layout h announced i))
head_is_long Edition4 h announced i = (omega arith, omega arith)
head_is_long Edition3 h announced i = (omega arith, omega arith)

-- ---- section 3

-- reading returns descriptors as spelt, and drops an odd octet
pub descriptors_of-flat_map : (ds odd : List ℕ) → AllByRecursion (λ d. d < 2 ^ 16) ds
    → length odd ≤ 1 → descriptors_of (flat_map (bytes_high_first 2) ds ++ odd) ≡ ds
unfolding descriptors_of
descriptors_of-flat_map [] [] all short = refl
descriptors_of-flat_map [] (x ∷ []) all short = refl
descriptors_of-flat_map [] (x ∷ y ∷ zs) all short = absurd (omega arith)
descriptors_of-flat_map (d ∷ ds) odd all short =
    rw (two_is d all.0, descriptors_of-flat_map ds odd all.1 short) refl

observed_is : (o c : Bool) (b : ℕ) → b < 64 → nat_le 128 (flag o 128 + flag c 64 + b) ≡ o
observed_is true true b h = le-leb _ _ (omega arith)
observed_is true false b h = le-leb _ _ (omega arith)
observed_is false true b h = lt-leb _ _ (omega arith)
observed_is false false b h = lt-leb _ _ (omega arith)

compressed_is : (o c : Bool) (b : ℕ) → b < 64 → ((flag o 128 + flag c 64 + b) / 64 % 2 == 1) ≡ c
compressed_is true true b h = eq-eqb _ _ (omega arith)
compressed_is true false b h = let e : (128 + 0 + b) / 64 % 2 ≡ 0 = omega arith in rw e refl
compressed_is false true b h = eq-eqb _ _ (omega arith)
compressed_is false false b h = let e : (0 + 0 + b) / 64 % 2 ≡ 0 = omega arith in rw e refl

-- ---- the sections together

-- if each step returns its part, all together return the envelope
steps : (layout : Layout) (room c1 room2 room3 c3 room4 c4 : List ℕ) (h : Head × Bool)
    (local : Option (List ℕ)) (d : Description)
    → section_at (shortest1 layout) Section1Length room ≡ Ok (c1, room2) → head_of layout c1 ≡ Ok h
    → section2_at h.1 room2 ≡ Ok (local, room3) → section_at 9 Section3Length room3 ≡ Ok (c3, room4)
    → description_of c3 ≡ Ok d → section_at 4 Section4Length room4 ≡ Ok (c4, [])
    → sections_of layout room ≡ Ok (record {
      head = h.0;
      section2 = local;
      observed = d.observed;
      compressed = d.compressed;
      descriptors = d.descriptors;
      count = d.count;
      contents = drop 1 c4;
    })
unfolding sections_of
steps layout room c1 room2 room3 c3 room4 c4 h local d e1 e2 e3 e4 e5 e6 =
    rw (e1, e2, e3, e4, e5, e6) refl

section2_at-section2 : (local : Option (List ℕ)) (ignored : ℕ) (rest : List ℕ)
    → length (section2 local ignored) < 2 ^ 24
    → section2_at (is_present local) (section2 local ignored ++ rest) ≡ Ok (local, rest)
section2_at-section2 None ignored rest small = refl
section2_at-section2 (Some local) ignored rest small =
    rw (section_at-section 4 Section2Length (ignored ∷ local) rest (omega arith) (omega arith)) refl

-- section 3 after its length
abbrev contents3 : Envelope → Ignored → List ℕ
contents3 e i =
    i.octet3 ∷ bytes_high_first 2 e.count ++ (flag e.observed 128 + flag e.compressed 64 + i.bits3)
    ∷ flat_map (bytes_high_first 2) e.descriptors ++ i.odd

-- the section 3 of an envelope
abbrev described : Envelope → Description
described e =
    record {
      count = e.count;
      observed = e.observed;
      compressed = e.compressed;
      descriptors = e.descriptors;
    }

description_of-section3 : (layout : Layout) (e : Envelope) (i : Ignored) → EnvelopeFits layout e i
    → description_of (contents3 e i) ≡ Ok (described e)
unfolding description_of
description_of-section3 layout e i fits =
    rw (
      two_is e.count fits.count,
      observed_is e.observed e.compressed i.bits3 fits.ignored.3,
      compressed_is e.observed e.compressed i.bits3 fits.ignored.3,
      descriptors_of-flat_map e.descriptors i.odd
          (recursion_from_All (λ d. d < 2 ^ 16) e.descriptors fits.descriptors) fits.ignored.4,
    ) refl

some_octets : (ds : List ℕ) → 0 < length ds → 2 ≤ length (flat_map (bytes_high_first 2) ds)
some_octets [] h = absurd (omega arith)
some_octets (d ∷ ds) h = omega arith

pub regrouped : (a b c d : List ℕ) → a ++ b ++ c ++ d ≡ a ++ (b ++ (c ++ (d ++ [])))
regrouped a b c d = rw (append-nil d) (simp append_assoc)

sections_of-sections : (layout : Layout) (e : Envelope) (i : Ignored) → EnvelopeFits layout e i
    → length (sections layout e i) < 2 ^ 24 → sections_of layout (sections layout e i) ≡ Ok e
unfolding sections
sections_of-sections layout e i fits small =
    let s1 = section1 layout e.head (is_present e.section2) i in
    let s2 = section2 e.section2 i.octet2 in
    let s3 = section3 e i in
    let s4 = section4 e.contents i.octet4 in
    let c1 = head_octets layout e.head (is_present e.section2) i in
    let long = (head_is_long layout e.head (is_present e.section2) i).1 in
    let c3 = contents3 e i in
    let c4 : List ℕ = i.octet4 ∷ e.contents in
    let lengths = four_parts s1 s2 s3 s4 in
    let some : 2 ≤ length (flat_map (bytes_high_first 2) e.descriptors) =
    some_octets e.descriptors fits.some_descriptor in
    let l3 = length-append (flat_map (bytes_high_first 2) e.descriptors) i.odd in
    ap (sections_of layout) (regrouped s1 s2 s3 s4)
    ∙ steps layout (s1 ++ (s2 ++ (s3 ++ (s4 ++ [])))) c1 (s2 ++ (s3 ++ (s4 ++ [])))
    (s3 ++ (s4 ++ [])) c3 (s4 ++ []) c4 (e.head, is_present e.section2) e.section2 (described e)
    (section_at-section (shortest1 layout) Section1Length c1 (s2 ++ (s3 ++ (s4 ++ [])))
    (omega arith) (omega arith))
    (head_of-section1 layout e.head (is_present e.section2) i fits.head fits.ignored.0)
    (section2_at-section2 e.section2 i.octet2 (s3 ++ (s4 ++ [])) (omega arith))
    (section_at-section 9 Section3Length c3 (s4 ++ []) (omega arith) (omega arith))
    (description_of-section3 layout e i fits)
    (section_at-section 4 Section4Length c4 [] (omega arith) (omega arith))

-- reading returns the sections that octets spell
pub envelope_of-spelling : (layout : Layout) (e : Envelope) (i : Ignored) → EnvelopeFits layout e i
    → envelope_of (spelling layout e i) ≡ Ok e
unfolding envelope_of spelling
envelope_of-spelling layout e i fits =
    let small : 12 + length (sections layout e i) < 2 ^ 24 =
    omega (arith, fits.total, length-append (sections layout e i) (codes "7777")) in
    rw (room_of-enclosed layout (sections layout e i) small)
    (sections_of-sections layout e i fits (omega arith))
