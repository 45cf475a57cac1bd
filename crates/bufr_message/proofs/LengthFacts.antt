-- The length of a message by its parts: for the law `reports_have_canonical_messages`.
use Rattle.std.proofs.Common.{◌≡◌, ℕ, ◌+◌, ◌*◌, ◌≤◌, Bool, Option, None, List, [], ◌∷◌, ◌++◌}
use Rattle.std.proofs.Common.{length, codes, refl, ap, arith}
use Rattle.std.specs.List.{flat_map}
use Rattle.std.specs.Int.{bytes_high_first}
use Rattle.std.proofs.lemmas.List.{length-append}
use Rattle.bufr_bits.specs.Bits.{bits}
use Rattle.bufr_bits.specs.OctetLaws.{length-bits}
use Rattle.bufr_sections.specs.declared.layout.Layout.{Layout}
use Rattle.bufr_sections.specs.declared.layout.Layout.TheVariants.{Edition4}
use Rattle.bufr_sections.specs.Sections.{Envelope, Ignored, spelling, sections, enclosed}
use Rattle.bufr_sections.specs.Sections.{is_present, nothing_ignored, section1, section2, section3}
use Rattle.bufr_sections.specs.Sections.{section4}
use Rattle.bufr_sections.specs.SectionLaws.{BareSpellingsAreShortest}

pub contents_hold : (data_bits rest : List Bool) (contents : List ℕ)
    → bits contents ≡ data_bits ++ rest
    → 8 * length contents ≡ length data_bits + length rest
contents_hold data_bits rest contents begins =
    let size = ap length begins in
    omega (arith, length-append data_bits rest, length-bits contents)

pairs : (ds : List ℕ) → length (flat_map (bytes_high_first 2) ds) ≡ 2 * length ds
pairs [] = refl
pairs (d ∷ ds) = let more = pairs ds in omega arith

enclosed_long : (layout : Layout) (middle : List ℕ)
    → length (enclosed layout middle) ≡ 12 + length middle
enclosed_long layout middle = let both = length-append middle (codes "7777") in omega arith

four_parts : (a b c d : List ℕ)
    → length (a ++ b ++ c ++ d) ≡ length a + length b + length c + length d
four_parts a b c d =
    let first = length-append a b in
    let second = length-append (a ++ b) c in
    let third = length-append (a ++ b ++ c) d in
    omega arith

pub bare_long : (e : Envelope) → e.head.local ≡ [] → e.section2 ≡ None
    → length (spelling Edition4 e nothing_ignored)
    ≡ 45 + 2 * length e.descriptors + length e.contents
unfolding spelling sections
bare_long e no_local no_section2 =
    let one = section1 Edition4 e.head (is_present e.section2) nothing_ignored in
    let two = section2 e.section2 0 in
    let three = section3 e nothing_ignored in
    let four = section4 e.contents 0 in
    let parts = four_parts one two three four in
    let first = ap length no_local in
    let second = ap (λ (s : Option (List ℕ)). length (section2 s 0)) no_section2 in
    let list = pairs e.descriptors in
    let third = length-append (flat_map (bytes_high_first 2) e.descriptors) [] in
    let whole = enclosed_long Edition4 (one ++ two ++ three ++ four) in
    omega arith

-- no message of edition 4 with these descriptors and this section 4 is shorter
pub spelling_long : BareSpellingsAreShortest → (e : Envelope) (i : Ignored)
    → 45 + 2 * length e.descriptors + length e.contents ≤ length (spelling Edition4 e i)
spelling_long law e i =
    let least : Envelope = record e { head = record e.head { local = [] }; section2 = None } in
    let size = bare_long least refl refl in
    let no_longer = law e least i (omega arith) (omega arith) (omega arith) (omega arith) in
    omega arith
