-- A message with the octets of another before the data bits has its sections, but for these bits.
use Rattle.std.proofs.Common.{◌≡◌, ◌∙◌, ℕ, ◌+◌, ◌-◌, ◌<◌, ◌≤◌, ◌^◌, List, [], ◌∷◌, ◌++◌, codes, length}
use Rattle.std.proofs.Common.{take, drop, refl, sym, ap, subst, arith, Ok, append_assoc}
use Rattle.std.proofs.Common.{get_or, zero, suc, w64}
use Rattle.std.specs.Int.{bytes_high_first, from_le_bytes, to_le_bytes}
use Rattle.std.proofs.lemmas.Nat.{le_bytes_8}
use Rattle.std.proofs.Math.Seq.{take-add, take-append_seam}
use Rattle.std.proofs.lemmas.List.{drop-drop, length-append, length-drop, length-take-le}
use Rattle.std.proofs.lemmas.List.{take-append-drop, take-take, take_all}
use Rattle.std.proofs.lemmas.List.Elements.{All-drop, All-take}
use Rattle.bufr_sections.specs.declared.layout.Layout.{Layout}
use Rattle.bufr_sections.specs.Sections.{AreOctets, Envelope, EnvelopeFits, Ignored, IsOctet}
use Rattle.bufr_sections.specs.Sections.{edition_number, envelope_of, is_present, section1}
use Rattle.bufr_sections.specs.Sections.{section2, section3, section4, sections, spelling}
use Rattle.bufr_sections.specs.SectionLaws.{SectionsReadAreSpelt, SectionsSpeltAreRead}
use Rattle.bufr_ls_engine.specs.RowSteps.{fields_after_length, fields_from}
use Rattle.bufr_ls_engine.specs.Rows.{edition_of}

-- the octets before the data bits, given the total length and the length of section 4
abbrev before : Layout → Envelope → Ignored → ℕ → ℕ → List ℕ
before layout e i total long =
    codes "BUFR" ++ bytes_high_first 3 total ++ edition_number layout
    ∷ section1 layout e.head (is_present e.section2) i ++ section2 e.section2 i.octet2
    ++ section3 e i ++ (bytes_high_first 3 long ++ i.octet4 ∷ [])

-- the length of the sections before section 4
abbrev long_before : Layout → Envelope → Ignored → ℕ
long_before layout e i =
    length (section1 layout e.head (is_present e.section2) i) + length (section2 e.section2 i.octet2)
    + length (section3 e i)

four_parts : (a b c d : List ℕ)
    → length (a ++ b ++ c ++ d) ≡ length a + length b + length c + length d
four_parts a b c d = simp length-append

-- the same lists, parted otherwise
parted : (head a b c long octet contents end : List ℕ)
    → head ++ ((a ++ b ++ c ++ (long ++ (octet ++ contents))) ++ end)
    ≡ (head ++ (a ++ b ++ c ++ (long ++ octet))) ++ (contents ++ end)
parted head a b c long octet contents end = simp append_assoc

-- the octets of a message: those before the data bits, the data bits, and the end
parts_of_spelling : (layout : Layout) (e : Envelope) (i : Ignored) → spelling layout e i
    ≡ before layout e i (16 + long_before layout e i + length e.contents) (4 + length e.contents)
    ++ (e.contents ++ codes "7777")
unfolding spelling sections
parts_of_spelling layout e i =
    let a = section1 layout e.head (is_present e.section2) i in
    let b = section2 e.section2 i.octet2 in
    let c = section3 e i in
    let d = section4 e.contents i.octet4 in
    let long : 12 + length (a ++ b ++ c ++ d)
    ≡ 16 + long_before layout e i + length e.contents = omega (arith, four_parts a b c d) in
    let long4 : 3 + length (i.octet4 ∷ e.contents) ≡ 4 + length e.contents = omega arith in
    (λ j. (codes "BUFR" ++ bytes_high_first 3 (long j) ++ edition_number layout ∷ [])
    ++ ((a ++ b ++ c ++ (bytes_high_first 3 (long4 j) ++ (i.octet4 ∷ [] ++ e.contents)))
    ++ codes "7777"))
    ∙ parted
    (codes "BUFR" ++ bytes_high_first 3 (16 + long_before layout e i + length e.contents)
    ++ edition_number layout ∷ []) a b c (bytes_high_first 3 (4 + length e.contents)) (i.octet4 ∷ [])
    e.contents (codes "7777")

-- how long the octets before the data bits are
pub ends_before : SectionsReadAreSpelt → (octets : List ℕ) (e : Envelope) → AreOctets octets
    → envelope_of octets ≡ Ok e → (n : ℕ) × (length octets ≡ n + (length e.contents + 4))
ends_before read octets e are is =
    let said = read octets e are is in
    let parts = said.2 ∙ parts_of_spelling said.0 e said.1 in
    let front =
    before said.0 e said.1 (16 + long_before said.0 e said.1 + length e.contents)
    (4 + length e.contents) in (
      length front,
      ap length parts ∙ omega (
        arith,
        length-append front (e.contents ++ codes "7777"),
        length-append e.contents (codes "7777"),
      ),
    )

-- the edition of a spelling
edition_of_spelling : (layout : Layout) (e : Envelope) (i : Ignored)
    → edition_of (spelling layout e i) ≡ edition_number layout
unfolding spelling
edition_of_spelling layout e i = refl

-- a message with other data bits
other_spelling : (layout : Layout) (e : Envelope) (i : Ignored) (contents : List ℕ)
    → length contents ≡ length e.contents
    → spelling layout (record e { contents = contents }) i
    ≡ before layout e i (16 + long_before layout e i + length e.contents) (4 + length e.contents)
    ++ (contents ++ codes "7777")
other_spelling layout e i contents long =
    parts_of_spelling layout (record e { contents = contents }) i
    ∙ ap (λ n. before layout e i (16 + long_before layout e i + n) (4 + n)
    ++ (contents ++ codes "7777")) long

-- octets that differ from a message in the data bits alone
pub read_again : SectionsReadAreSpelt → SectionsSpeltAreRead → (octets other : List ℕ) (e : Envelope)
    → AreOctets octets → AreOctets other → envelope_of octets ≡ Ok e
    → length other ≡ length octets
    → (k : ℕ) → length octets ≡ k + (length e.contents + 4) → take k other ≡ take k octets
    → drop (length other - 4) other ≡ codes "7777"
    → (x : Envelope) × (envelope_of other ≡ Ok x) × (x.head.master_version ≡ e.head.master_version)
    × (fields_after_length octets e ≡ fields_after_length other x)
read_again read spelt octets other e are others is long k parts_at same end =
    let said = read octets e are is in
    let layout = said.0 in
    let i = said.1 in
    let fits = said.3 in
    let front =
    before layout e i (16 + long_before layout e i + length e.contents) (4 + length e.contents) in
    let parts : octets ≡ front ++ (e.contents ++ codes "7777") =
    said.2 ∙ parts_of_spelling layout e i in
    let whole : length octets ≡ length front + (length e.contents + 4) =
    ap length parts ∙ omega (
      arith,
      length-append front (e.contents ++ codes "7777"),
      length-append e.contents (codes "7777"),
    ) in
    let k_is : k ≡ length front = omega (arith, whole, parts_at) in
    let first : take k other ≡ front =
    same ∙ ap (λ n. take n octets) k_is ∙ ap (λ (t : List ℕ). take (length front) t) parts
    ∙ take-append_seam front (e.contents ++ codes "7777") in
    let m = length e.contents in
    let rest = drop k other in
    let contents = take m rest in
    let rest_long : length rest ≡ m + 4 = omega (arith, length-drop k other, long, whole, k_is) in
    let contents_long : length contents ≡ m = length-take-le m rest (omega (arith, rest_long)) in
    let last : drop m rest ≡ codes "7777" =
    drop-drop m k other ∙ ap (λ n. drop n other) (omega (arith, long, whole, k_is)) ∙ end in
    let other_parts : other ≡ front ++ (contents ++ codes "7777") =
    sym (take-append-drop k other)
    ∙ (λ j. first j ++ sym (take-append-drop m rest) j)
    ∙ ap (λ t. front ++ (contents ++ t)) last in
    let x = record e { contents = contents } in
    let spelt_so : other ≡ spelling layout x i =
    other_parts ∙ sym (other_spelling layout e i contents contents_long) in
    let total : length (spelling layout x i) < 2 ^ 24 =
    subst (λ n. n < 2 ^ 24)
    (ap length (sym said.2) ∙ sym long ∙ ap length spelt_so) fits.total in
    let fits_so : EnvelopeFits layout x i = record {
      head = fits.head;
      section2 = fits.section2;
      some_descriptor = fits.some_descriptor;
      descriptors = fits.descriptors;
      count = fits.count;
      contents = All-take IsOctet m rest (All-drop IsOctet k other others);
      total = total;
      ignored = fits.ignored;
    } in
    let edition : edition_of octets ≡ edition_of other =
    ap edition_of said.2 ∙ edition_of_spelling layout e i
    ∙ sym (edition_of_spelling layout x i) ∙ sym (ap edition_of spelt_so) in (
      x,
      ap envelope_of spelt_so ∙ spelt layout x i fits_so,
      refl,
      ap (λ n. fields_from n e.head e.count e.observed e.compressed e.descriptors) edition,
    )

-- the front of octets, by two parts of them that meet
pub front_by_parts : (n at : ℕ) (xs ys : List ℕ) → at ≤ 32 → n ≡ at + 32
    → take 32 xs ≡ take 32 ys → take 32 (drop at xs) ≡ take 32 (drop at ys)
    → take n xs ≡ take n ys
front_by_parts n at xs ys short is first last =
    let front : take at xs ≡ take at ys =
    sym (take-take at 32 xs short) ∙ ap (λ (t : List ℕ). take at t) first ∙ take-take at 32 ys short in
    ap (λ k. take k xs) is ∙ take-add at 32 xs ∙ (λ j. front j ++ last j)
    ∙ sym (ap (λ k. take k ys) is ∙ take-add at 32 ys)

-- eight octets more
more_words : (n : ℕ) (xs ys : List ℕ) → take n xs ≡ take n ys
    → take 8 (drop n xs) ≡ take 8 (drop n ys) → take (n + 8) xs ≡ take (n + 8) ys
more_words n xs ys first next =
    take-add n 8 xs ∙ (λ j. first j ++ next j) ∙ sym (take-add n 8 ys)

-- 32 octets, by eight at a time
pub by_words : (xs ys : List ℕ) → length xs ≡ 32 → length ys ≡ 32
    → take 8 (drop 0 xs) ≡ take 8 (drop 0 ys) → take 8 (drop 8 xs) ≡ take 8 (drop 8 ys)
    → take 8 (drop 16 xs) ≡ take 8 (drop 16 ys) → take 8 (drop 24 xs) ≡ take 8 (drop 24 ys) → xs ≡ ys
by_words xs ys long other first second third last =
    sym (take_all 32 xs (omega (arith, long)))
    ∙ more_words 24 xs ys (more_words 16 xs ys (more_words 8 xs ys first second) third) last
    ∙ take_all 32 ys (omega (arith, other))

-- each element of octets is below 256, and so is what is past the end
each_octet : (xs : List ℕ) → AreOctets xs → (i : ℕ) → get_or xs i 0 < 256
each_octet [] are i = omega arith
each_octet (x ∷ xs) are zero = are 0 0 (omega arith)
each_octet (x ∷ xs) are (suc i) = each_octet xs (λ k d here. are (suc k) d (omega (arith, here))) i

-- eight octets are those of their number
pub by_number : (xs ys : List ℕ) (m n : ℕ) → length xs ≡ 8 → length ys ≡ 8 → AreOctets xs
    → AreOctets ys → m ≡ from_le_bytes w64 xs → n ≡ from_le_bytes w64 ys → m ≡ n → xs ≡ ys
by_number xs ys m n long other are others first second same =
    sym (le_bytes_8 xs m long (each_octet xs are) first)
    ∙ ap (to_le_bytes w64) same ∙ le_bytes_8 ys n other (each_octet ys others) second
