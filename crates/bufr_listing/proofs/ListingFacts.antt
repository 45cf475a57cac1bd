-- The parts of a listing join to the whole: for its writers and for the laws on its parts.
use Rattle.std.proofs.Common.{◌≡◌, ℕ, List, [], ◌∷◌, ◌++◌, map, codes, refl, sym, ap}
use Rattle.std.proofs.Common.{◌∙◌, append_assoc}
use Rattle.std.specs.List.{flat_map}
use Rattle.std.proofs.lemmas.Grind.{flat_map-append}
use Rattle.std.proofs.lemmas.List.{append-nil}
use Rattle.bufr_fields.specs.declared.field.Field.{Field}
use Rattle.bufr_fields.specs.declared.field.Subset.{Subset}
use Rattle.bufr_sections.specs.declared.message.Message.{Message}
use Rattle.std.specs.Prelude.{Option, Some, None}
use Rattle.bufr_listing.specs.Listings.{words, line, joined, octets_line}
use Rattle.bufr_listing.specs.OctetLines.{octets_text}
use Rattle.bufr_listing.specs.Listings.{section1_line, time_line}
use Rattle.bufr_listing.specs.Listings.{local_lines, section2_lines, flags_line, descriptors_line}
use Rattle.bufr_listing.specs.Listings.{heading_lines, field_line}
use Rattle.bufr_listing.specs.Listings.{subset_line, subset_lines, end_line, lines_of, listing}

joined_append : (xs ys : List (List ℕ)) → joined (xs ++ ys) ≡ joined xs ++ joined ys
joined_append [] ys = refl
joined_append (x ∷ xs) ys = ap (λ zs. line x ++ zs) (joined_append xs ys)
    ∙ sym (append_assoc (line x) (joined xs) (joined ys))

-- ---- the lines before the first subset

pub local_text : (local : List ℕ) → octets_text (codes "local1") [] (Some local)
    ≡ joined (local_lines local)
local_text [] = refl
local_text (x ∷ xs) = sym (append-nil (line (octets_line (codes "local1") (x ∷ xs))))

pub section2_text : (octets : Option (List ℕ))
    → octets_text (codes "section2") (codes "section2\n") octets ≡ joined (section2_lines octets)
section2_text None = refl
section2_text (Some []) = refl
section2_text (Some (x ∷ xs)) = sym (append-nil (line (octets_line (codes "section2") (x ∷ xs))))

spaced_joined : (f : ℕ → List ℕ) (ns : List ℕ)
    → flat_map (λ n. 32 ∷ f n) ns ≡ flat_map (λ w. 32 ∷ w) (map f ns)
spaced_joined f [] = refl
spaced_joined f (n ∷ ns) = ap (λ zs. (32 ∷ f n) ++ zs) (spaced_joined f ns)

-- a text, then the first word and the numbers of a line
pub words_behind : (f : ℕ → List ℕ) (t title ns : List ℕ)
    → t ++ title ++ flat_map (λ n. 32 ∷ f n) ns ++ 10 ∷ []
    ≡ t ++ line (words title (map f ns))
words_behind f t title ns =
    ap (λ zs. zs ++ 10 ∷ [])
    (append_assoc t title (flat_map (λ n. 32 ∷ f n) ns)
    ∙ ap (λ zs. t ++ (title ++ zs)) (spaced_joined f ns))
    ∙ append_assoc t (words title (map f ns)) (10 ∷ [])

seven_behind : (t a b c d e f g : List ℕ)
    → t ++ a ++ b ++ c ++ d ++ e ++ f ++ g ≡ t ++ (a ++ (b ++ (c ++ (d ++ e ++ (f ++ g)))))
seven_behind t a b c d e f g =
    append_assoc (t ++ a ++ b ++ c ++ d ++ e) f g
    ∙ append_assoc (t ++ a ++ b ++ c ++ d) e (f ++ g)
    ∙ append_assoc (t ++ a ++ b ++ c) d (e ++ (f ++ g))
    ∙ ap (λ zs. t ++ a ++ b ++ c ++ zs) (sym (append_assoc d e (f ++ g)))
    ∙ append_assoc (t ++ a ++ b) c (d ++ e ++ (f ++ g))
    ∙ append_assoc (t ++ a) b (c ++ (d ++ e ++ (f ++ g)))
    ∙ append_assoc t a (b ++ (c ++ (d ++ e ++ (f ++ g))))

-- a text, then the lines before the first subset in turn
heading_behind : (t : List ℕ) (m : Message)
    → t ++ codes "message\n" ++ line (section1_line m.head) ++ line (time_line m.head)
    ++ joined (local_lines m.head.local) ++ joined (section2_lines m.section2)
    ++ line (flags_line m.observed m.compressed) ++ line (descriptors_line m.descriptors)
    ≡ t ++ joined (heading_lines m)
unfolding heading_lines
heading_behind t m =
    let local = local_lines m.head.local in
    let two = section2_lines m.section2 in
    let flags = flags_line m.observed m.compressed in
    let last = descriptors_line m.descriptors in
    let behind : joined (local ++ two ++ flags ∷ last ∷ [])
    ≡ joined local ++ joined two ++ (line flags ++ line last) =
    joined_append (local ++ two) (flags ∷ last ∷ [])
    ∙ (λ i. joined_append local two i ++ (line flags ++ append-nil (line last) i)) in
    seven_behind t (codes "message\n") (line (section1_line m.head)) (line (time_line m.head))
    (joined local) (joined two) (line flags) (line last)
    ∙ ap (λ zs. t ++ (codes "message\n" ++ (line (section1_line m.head)
    ++ (line (time_line m.head) ++ zs)))) (sym behind)

pub heading_written : (m : Message) (t a b c d e f g : List ℕ) → a ≡ t ++ codes "message\n"
    → b ≡ a ++ line (section1_line m.head) → c ≡ b ++ line (time_line m.head)
    → d ≡ c ++ joined (local_lines m.head.local) → e ≡ d ++ joined (section2_lines m.section2)
    → f ≡ e ++ line (flags_line m.observed m.compressed)
    → g ≡ f ++ line (descriptors_line m.descriptors) → g ≡ t ++ joined (heading_lines m)
heading_written m t a b c d e f g first numbers time local two flags last =
    last
    ∙ ap (λ zs. zs ++ line (descriptors_line m.descriptors)) (flags
    ∙ ap (λ zs. zs ++ line (flags_line m.observed m.compressed)) (two
    ∙ ap (λ zs. zs ++ joined (section2_lines m.section2)) (local
    ∙ ap (λ zs. zs ++ joined (local_lines m.head.local)) (time
    ∙ ap (λ zs. zs ++ line (time_line m.head)) (numbers
    ∙ ap (λ zs. zs ++ line (section1_line m.head)) first)))))
    ∙ heading_behind t m

-- ---- the lines of subsets

fields_joined : (fields : List Field) → flat_map (λ f. line (field_line f)) fields
    ≡ joined (map field_line fields)
fields_joined [] = refl
fields_joined (f ∷ fields) = ap (λ zs. line (field_line f) ++ zs) (fields_joined fields)

-- a text, then the lines of a subset in turn
pub subset_behind : (t : List ℕ) (s : Subset)
    → t ++ codes "subset\n" ++ flat_map (λ f. line (field_line f)) s.fields
    ≡ t ++ joined (subset_lines s)
subset_behind t s = append_assoc t (codes "subset\n") (flat_map (λ f. line (field_line f)) s.fields)
    ∙ ap (λ zs. t ++ (codes "subset\n" ++ zs)) (fields_joined s.fields)

-- the lines of a subset, split at a field
pub subset_in_lines : (before left : List Field)
    → joined (subset_lines (record { fields = before ++ left }))
    ≡ line subset_line ++ flat_map (λ f. line (field_line f)) before
    ++ flat_map (λ f. line (field_line f)) left
subset_in_lines before left =
    ap (λ zs. line subset_line ++ zs)
    (sym (fields_joined (before ++ left)) ∙ flat_map-append (λ f. line (field_line f)) before left)
    ∙ sym (append_assoc (line subset_line) (flat_map (λ f. line (field_line f)) before)
    (flat_map (λ f. line (field_line f)) left))

subsets_joined : (subsets : List Subset) → joined (flat_map subset_lines subsets)
    ≡ flat_map (λ s. joined (subset_lines s)) subsets
subsets_joined [] = refl
subsets_joined (s ∷ subsets) = joined_append (subset_lines s) (flat_map subset_lines subsets)
    ∙ ap (λ zs. joined (subset_lines s) ++ zs) (subsets_joined subsets)

-- ---- listings

-- a listing is its parts, joined
pub listing_in_parts : (m : Message) → listing m
    ≡ joined (heading_lines m) ++ flat_map (λ s. joined (subset_lines s)) m.subsets
    ++ line end_line
unfolding listing lines_of
listing_in_parts m =
    let heading = heading_lines m in
    let subsets = flat_map subset_lines m.subsets in
    joined_append (heading ++ subsets) (end_line ∷ [])
    ∙ (λ i. joined_append heading subsets i ++ line end_line)
    ∙ (λ i. (joined heading ++ subsets_joined m.subsets i) ++ line end_line)
