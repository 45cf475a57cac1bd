-- Reading a line returns what it spells: numbers, octets, flags, descriptors. For the laws of
-- listings.
use Rattle.std.proofs.Common.{◌≡◌, ℕ, zero, suc, ◌+◌, ◌/◌, ◌^◌, ◌<◌, ◌≤◌, Bool, true, false, List}
use Rattle.std.proofs.Common.{[], ◌∷◌, ◌++◌, length, map, get_or, drop, codes, unwrap_or, refl, sym}
use Rattle.std.proofs.Common.{ap, ◌∙◌, subst, arith}
use Rattle.std.specs.Prelude.{◌==◌, ◌&&◌, not, All, decimal, Option, Some, None, Result, Ok, Err}
use Rattle.std.specs.Prelude.{nat_lt, if◌then◌else◌}
use Rattle.std.specs.Char.{is_ascii_digit}
use Rattle.std.specs.List.{flat_map, list_all, AllByRecursion}
use Rattle.std.specs.Str.{bytes_eq}
use Rattle.std.specs.Str.Parse.{digits_value}
use Rattle.std.proofs.lemmas.Bool.{and_parts, and_from, not-true, ltb-true, cond-true}
use Rattle.std.proofs.lemmas.Fmt.{decimal_is_IsNumeral_wide}
use Rattle.std.proofs.lemmas.List.{append-nil}
use Rattle.std.proofs.lemmas.List.Elements.{All-from_recursion, recursion_from_All}
use Rattle.std.proofs.lemmas.List.Splits.{slice_split_none, slice_split_at}
use Rattle.hex.specs.declared.error.FromHexError.{FromHexError}
use Rattle.hex.specs.Hex.{IsBytes, encode_lower, decode_of}
use Rattle.hex.proofs.HexLemmas.{decode_of-encode_lower, decode_of-ok}
use Rattle.bufr_tables.specs.Descriptors.{of_text, six_digits, digit, f_of, x_of, y_of}
use Rattle.bufr_tables.specs.Entries.{Entries}
use Rattle.bufr_expand.specs.declared.node.TemplateFault.{TemplateFault}
use Rattle.bufr_expand.specs.Templates.{template}
use Rattle.bufr_expand.specs.Trees.{Tree}
use Rattle.bufr_fields.specs.DecimalTextLaws.{AreDigits, decimal_digits}
use Rattle.bufr_listing.specs.Listings.{descriptors_line}
use Rattle.bufr_listing.specs.Listings.{numbers_line, octets_line, section2_line, flags_line}
use Rattle.bufr_listing_reader.specs.Limits.{two_octets}
use Rattle.bufr_listing.specs.declared.fault.ListingFault.{ListingFault}
use Rattle.bufr_listing.specs.declared.fault.ListingFault.TheVariants.{BadLine}
use Rattle.bufr_sections.specs.Sections.{AreOctets, IsOctet}
use Rattle.bufr_base.specs.AnswerLaws.{ok_is, passed_ok}
use Rattle.bufr_listing.specs.Listings.{words}
use Rattle.bufr_listing_reader.specs.Lines.{words_of}
use Rattle.bufr_listing_reader.specs.Reading.{are_below, numbers_in, read_numbers, octets_by, octets_in}
use Rattle.bufr_listing_reader.specs.Reading.{read_octets, read_local, read_section2, Flags, read_flags}
use Rattle.bufr_listing_reader.specs.Reading.{descriptors_in, Described, described, read_descriptors}
use Rattle.bufr_listing_reader.proofs.LowerLaws.{DescriptorTexts}
use Rattle.bufr_listing_reader.proofs.FieldFacts.{bytes_same, same_bytes, if_answered}

-- ---- words

-- the word has no space
abbrev pub IsWord : List ℕ → Type 0
IsWord w = AllByRecursion (λ c. (c == 32) ≡ false) w

pub literal_word : (w : List ℕ) → list_all (λ c. not (c == 32)) w ≡ true → IsWord w
literal_word [] h = tt
literal_word (c ∷ cs) h =
    let p = and_parts (not (c == 32)) (list_all (λ c. not (c == 32)) cs) h in
    (not-true (c == 32) p.0, literal_word cs p.1)

pub one_word : (w : List ℕ) → IsWord w → words_of w ≡ w ∷ []
one_word w h = slice_split_none (λ c. c == 32) w (All-from_recursion (λ c. (c == 32) ≡ false) w h)

pub word_then : (w rest : List ℕ) → IsWord w → words_of (w ++ 32 ∷ rest) ≡ w ∷ words_of rest
word_then w rest h =
    slice_split_at (λ c. c == 32) w 32 rest (All-from_recursion (λ c. (c == 32) ≡ false) w h) refl

-- the words of a line made of words are these
pub words_back : (w : List ℕ) (ws : List (List ℕ)) → IsWord w → AllByRecursion (λ v. IsWord v) ws
    → words_of (words w ws) ≡ w ∷ ws
words_back w [] h hs = ap words_of (append-nil w) ∙ one_word w h
words_back w (v ∷ ws) h hs =
    word_then w (v ++ flat_map (λ u. 32 ∷ u) ws) h ∙ ap (λ us. w ∷ us) (words_back v ws hs.0 hs.1)

-- ---- numbers

digit_no_space : (c : ℕ) → is_ascii_digit c ≡ true → (c == 32) ≡ false
digit_no_space c is = grind arith

digits_word : (xs : List ℕ) → AreDigits xs → IsWord xs
digits_word [] h = tt
digits_word (c ∷ cs) h = (digit_no_space c h.0, digits_word cs h.1)

-- decimals can print each
abbrev pub AreShort : List ℕ → Type 0
AreShort ns = AllByRecursion (λ n. n < 10 ^ 64) ns

pub decimal_words : (ns : List ℕ) → AreShort ns → AllByRecursion (λ v. IsWord v) (map decimal ns)
decimal_words [] h = tt
decimal_words (n ∷ ns) h = (digits_word (decimal n) (decimal_digits n h.0), decimal_words ns h.1)

pub values_back : (ns : List ℕ) → AreShort ns → map (digits_value 10) (map decimal ns) ≡ ns
values_back [] h = refl
values_back (n ∷ ns) h = let e = (decimal_is_IsNumeral_wide n h.0).1 in
    λ i. e i ∷ values_back ns h.1 i

pub below_short : (limits ns : List ℕ) → AllByRecursion (λ l. l ≤ two_octets) limits
    → are_below limits ns ≡ true → AreShort ns
unfolding are_below
below_short [] [] most h = tt
below_short [] (n ∷ ns) most h = absurd cc
below_short (l ∷ ls) [] most h = absurd cc
below_short (l ∷ ls) (n ∷ ns) most h =
    let p = and_parts (nat_lt n l) (are_below ls ns) h in
    let below = ltb-true n l p.0 in
    (omega (arith, below, most.0), below_short ls ns most.1 p.1)

pub numbers_take : (title limits : List ℕ) (n : ℕ) (text ns : List ℕ)
    → read_numbers title limits n text ≡ Ok ns → (text ≡ numbers_line title ns)
    × (are_below limits ns ≡ true)
numbers_take title limits n text ns h =
    let p = passed_ok (are_below limits (numbers_in text) && bytes_eq
    (numbers_line title (numbers_in text)) text) (numbers_in text) _ ns h in
    let q = and_parts (are_below limits (numbers_in text))
    (bytes_eq (numbers_line title (numbers_in text)) text) p.0 in (
      sym (bytes_same (numbers_line title (numbers_in text)) text q.1)
          ∙ ap (numbers_line title) p.1,
      subst (λ ms. are_below limits ms ≡ true) p.1 q.0,
    )

pub numbers_back : (title limits : List ℕ) (n : ℕ) (ns : List ℕ) → IsWord title
    → AllByRecursion (λ l. l ≤ two_octets) limits → are_below limits ns ≡ true
    → read_numbers title limits n (numbers_line title ns) ≡ Ok ns
numbers_back title limits n ns word most below =
    let short = below_short limits ns most below in
    let back : numbers_in (numbers_line title ns) ≡ ns =
    ap (λ us. map (digits_value 10) (drop 1 us))
    (words_back title (map decimal ns) word (decimal_words ns short)) ∙ values_back ns short in
    cond-true _ (Ok (numbers_in (numbers_line title ns))) _
    (and_from _ _ (subst (λ ms. are_below limits ms ≡ true) (sym back) below)
    (same_bytes (numbers_line title (numbers_in (numbers_line title ns))) (numbers_line title ns)
    (ap (numbers_line title) back))) ∙ ap Ok back

-- ---- octets

bytes_from : (xs : List ℕ) → AllByRecursion (λ x. x < 256) xs → IsBytes xs
bytes_from [] h i = omega arith
bytes_from (x ∷ xs) h zero = h.0
bytes_from (x ∷ xs) h (suc i) = bytes_from xs h.1 i

octets_from : (xs : List ℕ) → IsBytes xs → AllByRecursion (λ x. x < 256) xs
octets_from [] h = tt
octets_from (x ∷ xs) h = (h 0, octets_from xs (λ i. h (suc i)))

decoded_octets : (digits : List ℕ) (r : Result (List ℕ) FromHexError) → decode_of digits ≡ r
    → AllByRecursion (λ x. x < 256) (octets_by r)
decoded_octets digits (Ok os) h = octets_from os (decode_of-ok digits os h).3
decoded_octets digits (Err e) h = tt

pub not_empty : (xs : List ℕ) → not (length xs == 0) ≡ true → 0 < length xs
not_empty [] h = absurd cc
not_empty (x ∷ xs) h = omega arith

some_not_empty : (n : ℕ) → not (suc n == 0) ≡ true
some_not_empty n = grind arith

-- octets read from a line, at least one
pub record OctetsTaken (title text os : List ℕ) : Type 0 where
  pub line : text ≡ octets_line title os
  pub some : 0 < length os
  pub octets : AreOctets os

pub octets_take : (title : List ℕ) (has_count : Bool) (n : ℕ) (text os : List ℕ)
    → read_octets title has_count n text ≡ Ok os → OctetsTaken title text os
octets_take title has_count n text os h =
    let own = octets_in (drop (length title + 1) text) in
    let p = passed_ok (not (length own == 0) && bytes_eq (octets_line title own) text) own _ os h in
    let q = and_parts (not (length own == 0)) (bytes_eq (octets_line title own) text) p.0 in
    record {
      line = sym (bytes_same (octets_line title own) text q.1) ∙ ap (octets_line title) p.1;
      some = subst (λ (xs : List ℕ). 0 < length xs) p.1 (not_empty own q.0);
      octets =
          subst AreOctets p.1
          (All-from_recursion IsOctet own (decoded_octets (drop (length title + 1) text) _ refl));
    }

pub octets_back : (title : List ℕ) (has_count : Bool) (n x : ℕ) (xs : List ℕ) → AreOctets (x ∷ xs)
    → drop (length title + 1) (octets_line title (x ∷ xs)) ≡ encode_lower (x ∷ xs) ++ []
    → read_octets title has_count n (octets_line title (x ∷ xs)) ≡ Ok (x ∷ xs)
octets_back title has_count n x xs octets digits =
    let back : octets_in (drop (length title + 1) (octets_line title (x ∷ xs))) ≡ x ∷ xs =
    ap octets_in (digits ∙ append-nil (encode_lower (x ∷ xs)))
    ∙ ap octets_by
    (decode_of-encode_lower (x ∷ xs)
    (bytes_from (x ∷ xs) (recursion_from_All IsOctet (x ∷ xs) octets))) in
    let own = octets_in (drop (length title + 1) (octets_line title (x ∷ xs))) in
    cond-true _ (Ok own) _
    (and_from _ _ (subst (λ (ys : List ℕ). not (length ys == 0) ≡ true) (sym back)
    (some_not_empty (length xs))) (same_bytes (octets_line title own) (octets_line title (x ∷ xs))
    (ap (octets_line title) back))) ∙ ap Ok back

pub local_back : (n x : ℕ) (xs : List ℕ) → AreOctets (x ∷ xs)
    → read_local n (octets_line (codes "local1") (x ∷ xs)) ≡ Ok (x ∷ xs)
local_back n x xs octets = octets_back (codes "local1") _ n x xs octets refl

section2_some : (b has_count : Bool) (n : ℕ) (text os : List ℕ) → bytes_eq text (codes "section2")
    ≡ b → (if b then Ok [] else read_octets (codes "section2") has_count n text) ≡ Ok os
    → (text ≡ section2_line os) × AreOctets os
section2_some true has_count n text os is h =
    let none : [] ≡ os = ok_is [] os h in
    subst (λ (ys : List ℕ). (text ≡ section2_line ys) × AreOctets ys) none
    (bytes_same text (codes "section2") is, All-from_recursion IsOctet [] tt)
section2_some false has_count n text [] is h =
    let p = octets_take (codes "section2") has_count n text [] h in let some = p.some in
    absurd (omega (arith, some))
section2_some false has_count n text (x ∷ xs) is h =
    let p = octets_take (codes "section2") has_count n text (x ∷ xs) h in (p.line, p.octets)

pub section2_take : (n : ℕ) (text os : List ℕ) → read_section2 n text ≡ Ok os
    → (text ≡ section2_line os) × AreOctets os
section2_take n text os h = section2_some (bytes_eq text (codes "section2")) _ n text os refl h

pub section2_back : (n : ℕ) (os : List ℕ) → AreOctets os → read_section2 n (section2_line os)
    ≡ Ok os
section2_back n [] octets = refl
section2_back n (x ∷ xs) octets = octets_back (codes "section2") _ n x xs octets refl

-- ---- flags

if_four : (a b c d : Bool) (text : List ℕ) (fault : ListingFault) (f : Flags)
    → bytes_eq text (flags_line false false) ≡ a → bytes_eq text (flags_line true false) ≡ b
    → bytes_eq text (flags_line false true) ≡ c → bytes_eq text (flags_line true true) ≡ d
    → (if a then Ok (record { observed = false; compressed = false }) else if b then Ok
    (record { observed = true; compressed = false }) else if c then Ok
    (record { observed = false; compressed = true }) else if d then Ok
    (record { observed = true; compressed = true }) else Err fault) ≡ Ok f
    → text ≡ flags_line f.observed f.compressed
if_four true b c d text fault f p q r s h =
    subst (λ (f : Flags). text ≡ flags_line f.observed f.compressed) (ok_is _ _ h)
    (bytes_same text (flags_line false false) p)
if_four false true c d text fault f p q r s h =
    subst (λ (f : Flags). text ≡ flags_line f.observed f.compressed) (ok_is _ _ h)
    (bytes_same text (flags_line true false) q)
if_four false false true d text fault f p q r s h =
    subst (λ (f : Flags). text ≡ flags_line f.observed f.compressed) (ok_is _ _ h)
    (bytes_same text (flags_line false true) r)
if_four false false false true text fault f p q r s h =
    subst (λ (f : Flags). text ≡ flags_line f.observed f.compressed) (ok_is _ _ h)
    (bytes_same text (flags_line true true) s)
if_four false false false false text fault f p q r s h = absurd cc

pub flags_take : (n : ℕ) (text : List ℕ) (f : Flags) → read_flags n text ≡ Ok f
    → text ≡ flags_line f.observed f.compressed
flags_take n text f h =
    if_four (bytes_eq text (flags_line false false)) (bytes_eq text (flags_line true false))
    (bytes_eq text (flags_line false true)) (bytes_eq text (flags_line true true)) text _ f refl
    refl refl refl h

pub flags_back : (n : ℕ) (observed compressed : Bool)
    → read_flags n (flags_line observed compressed)
    ≡ Ok (record { observed = observed; compressed = compressed })
flags_back n false false = refl
flags_back n true false = refl
flags_back n false true = refl
flags_back n true true = refl

-- ---- descriptors

digit_word : (n : ℕ) → (digit n == 32) ≡ false
digit_word n = grind arith

pub six_word : (d : ℕ) → IsWord (six_digits d)
six_word d = (
  digit_word (f_of d),
  (
    digit_word (x_of d / 10),
    (
      digit_word (x_of d),
      (digit_word (y_of d / 100), (digit_word (y_of d / 10), (digit_word (y_of d), tt))),
    ),
  ),
)

pub six_words : (ds : List ℕ) → AllByRecursion (λ v. IsWord v) (map six_digits ds)
six_words [] = tt
six_words (d ∷ ds) = (six_word d, six_words ds)

of_texts_back : DescriptorTexts → (ds : List ℕ) → AllByRecursion (λ d. d < 2 ^ 16) ds
    → map (λ w. unwrap_or (of_text w) 0) (map six_digits ds) ≡ ds
of_texts_back texts [] h = refl
of_texts_back texts (d ∷ ds) h = let e =
    ap (λ (o : Option ℕ). unwrap_or o 0) ((texts (six_digits d) d).1 (h.0, refl)) in
    λ i. e i ∷ of_texts_back texts ds h.1 i

descriptors_back_in : DescriptorTexts → (ds : List ℕ) → AllByRecursion (λ d. d < 2 ^ 16) ds
    → descriptors_in (descriptors_line ds) ≡ ds
descriptors_back_in texts ds h =
    ap (λ us. map (λ w. unwrap_or (of_text w) 0) (drop 1 us))
    (words_back (codes "descriptors") (map six_digits ds)
    (literal_word (codes "descriptors") refl) (six_words ds))
    ∙ of_texts_back texts ds h

small_by : DescriptorTexts → (w : List ℕ) (o : Option ℕ) → of_text w ≡ o → unwrap_or o 0 < 2 ^ 16
small_by texts w None h = omega arith
small_by texts w (Some d) h = ((texts w d).0 h).0

pub descriptors_small : DescriptorTexts → (ws : List (List ℕ)) → AllByRecursion (λ d. d < 2 ^ 16)
    (map (λ w. unwrap_or (of_text w) 0) ws)
descriptors_small texts [] = tt
descriptors_small texts (w ∷ ws) = (small_by texts w (of_text w) refl, descriptors_small texts ws)

-- descriptors read from a line, at least one, with a template
pub record DescriptorsTaken (tables : Entries) (text : List ℕ) (x : Described) : Type 0 where
  pub line : text ≡ descriptors_line x.descriptors
  pub some : 0 < length x.descriptors
  pub small : All (λ d. d < 2 ^ 16) x.descriptors
  pub has_template : template tables x.descriptors ≡ Ok x.tree

described_ok : (tables : Entries) (n : ℕ) (text ds : List ℕ) (r : Result Tree TemplateFault)
    (x : Described) → text ≡ descriptors_line ds → 0 < length ds → All (λ d. d < 2 ^ 16) ds
    → template tables ds ≡ r → described n ds r ≡ Ok x → DescriptorsTaken tables text x
described_ok tables n text ds (Ok tree) x line some small is h =
    subst (λ x. DescriptorsTaken tables text x) (ok_is _ _ h)
    (record { line = line; some = some; small = small; has_template = is })
described_ok tables n text ds (Err fault) x line some small is h = absurd cc

pub descriptors_take : DescriptorTexts → (tables : Entries) (n : ℕ) (text : List ℕ)
    (x : Described) → read_descriptors tables n text ≡ Ok x → DescriptorsTaken tables text x
descriptors_take texts tables n text x h =
    let ds = descriptors_in text in
    let p = if_answered (not (length ds == 0) && bytes_eq (descriptors_line ds) text)
    (described n ds (template tables ds)) (BadLine n) x h in
    let q = and_parts (not (length ds == 0)) (bytes_eq (descriptors_line ds) text) p.0 in
    described_ok tables n text ds (template tables ds) x
    (sym (bytes_same (descriptors_line ds) text q.1)) (not_empty ds q.0)
    (All-from_recursion (λ d. d < 2 ^ 16) ds (descriptors_small texts (drop 1 (words_of text))))
    refl p.1

not_empty_from : (xs : List ℕ) → 0 < length xs → not (length xs == 0) ≡ true
not_empty_from [] h = absurd (omega arith)
not_empty_from (x ∷ xs) h = some_not_empty (length xs)

pub descriptors_pass : DescriptorTexts → (ds : List ℕ) → 0 < length ds → All (λ d. d < 2 ^ 16) ds
    → (not (length (descriptors_in (descriptors_line ds)) == 0) && bytes_eq
    (descriptors_line (descriptors_in (descriptors_line ds))) (descriptors_line ds)) ≡ true
descriptors_pass texts ds some small =
    let back = descriptors_back_in texts ds (recursion_from_All (λ d. d < 2 ^ 16) ds small) in
    let own = descriptors_in (descriptors_line ds) in
    and_from _ _ (subst (λ (ys : List ℕ). not (length ys == 0) ≡ true) (sym back)
    (not_empty_from ds some)) (same_bytes (descriptors_line own) (descriptors_line ds)
    (ap descriptors_line back))

pub descriptors_read : DescriptorTexts → (tables : Entries) (n : ℕ) (ds : List ℕ) → 0 < length ds
    → All (λ d. d < 2 ^ 16) ds
    → read_descriptors tables n (descriptors_line ds) ≡ described n ds (template tables ds)
descriptors_read texts tables n ds some small =
    let back = descriptors_back_in texts ds (recursion_from_All (λ d. d < 2 ^ 16) ds small) in
    let own = descriptors_in (descriptors_line ds) in
    cond-true _ (described n own (template tables own)) (Err (BadLine n))
    (descriptors_pass texts ds some small)
    ∙ ap (λ ys. described n ys (template tables ys)) back

pub descriptors_back : DescriptorTexts → (tables : Entries) (n : ℕ) (ds : List ℕ) (tree : Tree)
    → 0 < length ds → All (λ d. d < 2 ^ 16) ds → template tables ds ≡ Ok tree
    → read_descriptors tables n (descriptors_line ds)
    ≡ Ok (record { descriptors = ds; tree = tree })
descriptors_back texts tables n ds tree some small has_template =
    descriptors_read texts tables n ds some small ∙ ap (described n ds) has_template

-- ---- numbers of section 1

pub eight_by_place : (t : List ℕ) → length t ≡ 8
    → get_or t 0 0 ∷ get_or t 1 0 ∷ get_or t 2 0 ∷ get_or t 3 0 ∷ get_or t 4 0 ∷ get_or t 5 0
    ∷ get_or t 6 0 ∷ get_or t 7 0 ∷ [] ≡ t
eight_by_place [] h = absurd (omega arith)
eight_by_place (a ∷ []) h = absurd (omega arith)
eight_by_place (a ∷ b ∷ []) h = absurd (omega arith)
eight_by_place (a ∷ b ∷ c ∷ []) h = absurd (omega arith)
eight_by_place (a ∷ b ∷ c ∷ d ∷ []) h = absurd (omega arith)
eight_by_place (a ∷ b ∷ c ∷ d ∷ e ∷ []) h = absurd (omega arith)
eight_by_place (a ∷ b ∷ c ∷ d ∷ e ∷ f ∷ []) h = absurd (omega arith)
eight_by_place (a ∷ b ∷ c ∷ d ∷ e ∷ f ∷ g ∷ []) h = absurd (omega arith)
eight_by_place (a ∷ b ∷ c ∷ d ∷ e ∷ f ∷ g ∷ i ∷ []) h = refl
eight_by_place (a ∷ b ∷ c ∷ d ∷ e ∷ f ∷ g ∷ i ∷ j ∷ rest) h = absurd (omega arith)

pub below_length : (limits ns : List ℕ) → are_below limits ns ≡ true → length ns ≡ length limits
unfolding are_below
below_length [] [] h = refl
below_length [] (n ∷ ns) h = absurd cc
below_length (l ∷ ls) [] h = absurd cc
below_length (l ∷ ls) (n ∷ ns) h =
    ap suc (below_length ls ns (and_parts (nat_lt n l) (are_below ls ns) h).1)

pub below_at : (limits ns : List ℕ) (i : ℕ) → are_below limits ns ≡ true → i < length limits
    → get_or ns i 0 < get_or limits i 0
unfolding are_below
below_at [] [] i h few = absurd (omega arith)
below_at [] (n ∷ ns) i h few = absurd cc
below_at (l ∷ ls) [] i h few = absurd cc
below_at (l ∷ ls) (n ∷ ns) zero h few = ltb-true n l (and_parts (nat_lt n l) (are_below ls ns) h).0
below_at (l ∷ ls) (n ∷ ns) (suc i) h few =
    below_at ls ns i (and_parts (nat_lt n l) (are_below ls ns) h).1 (omega arith)
