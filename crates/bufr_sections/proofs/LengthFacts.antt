-- How long a message is: for `spell`, and for the law on the shortest spelling.
use Rattle.std.proofs.Common.{◌≡◌, ℕ, ◌+◌, ◌*◌, ◌≤◌, Option, Some, None, List, [], ◌∷◌, ◌++◌}
use Rattle.std.proofs.Common.{length, codes, refl, arith}
use Rattle.std.specs.List.{flat_map}
use Rattle.std.specs.Int.{bytes_high_first}
use Rattle.std.proofs.lemmas.List.{length-append}
use Rattle.bufr_sections.specs.declared.layout.Layout.{Layout}
use Rattle.bufr_sections.specs.declared.layout.Layout.TheVariants.{Edition4}
use Rattle.bufr_sections.specs.Spelt.{bare}
use Rattle.bufr_sections.specs.Sections.{Envelope, Ignored, spelling, sections, enclosed}
use Rattle.bufr_sections.specs.Sections.{is_present}
use Rattle.bufr_sections.specs.Sections.{nothing_ignored, section1, section2, section3}
use Rattle.bufr_sections.specs.Sections.{section4}

pub length_of_descriptors : (ds : List ℕ)
    → length (flat_map (bytes_high_first 2) ds) ≡ 2 * length ds
length_of_descriptors [] = refl
length_of_descriptors (d ∷ ds) = let more = length_of_descriptors ds in omega arith

pub length_of_enclosed : (layout : Layout) (middle : List ℕ)
    → length (enclosed layout middle) ≡ 12 + length middle
length_of_enclosed layout middle = let both = length-append middle (codes "7777") in omega arith

length_of_section3 : (e : Envelope)
    → length (section3 e nothing_ignored) ≡ 7 + 2 * length e.descriptors
length_of_section3 e =
    let pairs = length_of_descriptors e.descriptors in
    let both = length-append (flat_map (bytes_high_first 2) e.descriptors) [] in
    omega arith

pub four_parts : (a b c d : List ℕ)
    → length (a ++ b ++ c ++ d) ≡ length a + length b + length c + length d
four_parts a b c d = simp length-append

pub length_of_sections : (e : Envelope)
    → length (sections Edition4 e nothing_ignored) ≡ 33 + length e.head.local
    + length (section2 e.section2 0) + 2 * length e.descriptors + length e.contents
unfolding sections
length_of_sections e =
    let parts =
    four_parts (section1 Edition4 e.head (is_present e.section2) nothing_ignored)
    (section2 e.section2 0) (section3 e nothing_ignored) (section4 e.contents 0) in
    let third = length_of_section3 e in
    omega arith

pub length_of_spelling : (e : Envelope)
    → length (spelling Edition4 e nothing_ignored) ≡ 45 + length e.head.local
    + length (section2 e.section2 0) + 2 * length e.descriptors + length e.contents
unfolding spelling
length_of_spelling e =
    let all =
    length_of_sections e in let whole =
    length_of_enclosed Edition4 (sections Edition4 e nothing_ignored) in omega arith

length_of_section2 : (local : Option (List ℕ)) (i : ℕ)
    → length (section2 local i) ≡ length (section2 local 0)
length_of_section2 None i = refl
length_of_section2 (Some local) i = refl

-- what readers ignore only adds octets
spelling_is_long : (e : Envelope) (i : Ignored)
    → 45 + length e.head.local + length (section2 e.section2 0) + 2 * length e.descriptors
    + length e.contents ≤ length (spelling Edition4 e i)
unfolding spelling sections
spelling_is_long e i =
    let parts =
    four_parts (section1 Edition4 e.head (is_present e.section2) i)
    (section2 e.section2 i.octet2) (section3 e i) (section4 e.contents i.octet4) in
    let second = length_of_section2 e.section2 i.octet2 in
    let pairs = length_of_descriptors e.descriptors in
    let third = length-append (flat_map (bytes_high_first 2) e.descriptors) i.odd in
    let whole =
    length_of_enclosed Edition4
    (section1 Edition4 e.head (is_present e.section2) i ++ section2 e.section2 i.octet2
    ++ section3 e i ++ section4 e.contents i.octet4) in
    omega arith

pub bare_is_shortest : (e small : Envelope) (i : Ignored)
    → length small.head.local ≤ length e.head.local
    → length (section2 small.section2 0) ≤ length (section2 e.section2 0)
    → length small.descriptors ≤ length e.descriptors → length small.contents ≤ length e.contents
    → length (bare small) ≤ length (spelling Edition4 e i)
bare_is_shortest e small i fewer1 fewer2 fewer3 fewer4 =
    let any = spelling_is_long e i in
    let least = length_of_spelling small in
    omega arith
