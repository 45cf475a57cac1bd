-- A line as writers print it has the same words, apart from the case of hexadecimal digits: for the
-- readers of lines.
use Rattle.std.proofs.Common.{◌≡◌, ℕ, true, false, List, [], ◌∷◌, ◌++◌, length, map}
use Rattle.std.proofs.Common.{get_or, codes, refl, sym, ap, ◌∙◌, subst, arith, inl, inr}
use Rattle.std.proofs.lemmas.Bool.{cases_Bool, or_cases, false≢true}
use Rattle.std.specs.Prelude.{◌==◌, ◌||◌}
use Rattle.std.specs.List.{onto_first, join_with_byte}
use Rattle.std.specs.Str.{bytes_eq}
use Rattle.std.proofs.lemmas.Bool.Decides.{nat_tests}
use Rattle.std.proofs.lemmas.List.{append-nil, length-map}
use Rattle.std.proofs.lemmas.List.Splits.{join_with_byte-slice_split, slice_split-cons_yes}
use Rattle.std.proofs.lemmas.List.Splits.{slice_split-cons_no}
use Rattle.bufr_listing.specs.Listings.{words}
use Rattle.bufr_listing_reader.specs.Lines.{words_of, first_word, lower_digit, has_octets, as_printed}
use Rattle.bufr_listing_reader.proofs.FieldFacts.{bytes_same, other_bytes}

-- ---- words in lower case

lower_space : (c : ℕ) → (lower_digit c == 32) ≡ (c == 32)
lower_space c = grind (arith, nat_tests)

onto_lower : (c : ℕ) (parts : List (List ℕ)) → onto_first (lower_digit c)
    (map (λ w. map lower_digit w) parts) ≡ map (λ w. map lower_digit w) (onto_first c parts)
onto_lower c [] = refl
onto_lower c (part ∷ parts) = refl

pub words_lower : (text : List ℕ) → words_of (map lower_digit text) ≡ map (λ w. map lower_digit w)
    (words_of text)
words_lower [] = refl
words_lower (c ∷ text) =
    elim (cases_Bool (c == 32)) [
      | inl e ↦
          let lower = lower_space c ∙ e in
          slice_split-cons_yes (λ c. c == 32) (lower_digit c) (map lower_digit text) lower
          ∙ ap (λ ws. [] ∷ ws) (words_lower text)
          ∙ sym (ap (λ ws. map (λ w. map lower_digit w) ws)
          (slice_split-cons_yes (λ c. c == 32) c text e))
      | inr e ↦
          let lower = lower_space c ∙ e in
          slice_split-cons_no (λ c. c == 32) (lower_digit c) (map lower_digit text) lower
          ∙ ap (onto_first (lower_digit c)) (words_lower text)
          ∙ onto_lower c (words_of text)
          ∙ sym (ap (λ ws. map (λ w. map lower_digit w) ws)
          (slice_split-cons_no (λ c. c == 32) c text e))
    ]

first_of_map : (ws : List (List ℕ)) → get_or (map (λ w. map lower_digit w) ws) 0 []
    ≡ map lower_digit (get_or ws 0 [])
first_of_map [] = refl
first_of_map (w ∷ ws) = refl

-- ---- lines as writers print them

pub own_printed : (text : List ℕ) → has_octets text ≡ false → as_printed text ≡ text
own_printed text e = rw e refl

pub lower_printed : (text : List ℕ) → has_octets text ≡ true → as_printed text
    ≡ map lower_digit text
lower_printed text e = rw e refl

octets_word : (text : List ℕ) → has_octets text ≡ true → map lower_digit (first_word text)
    ≡ first_word text
octets_word text e =
    elim (or_cases (bytes_eq (first_word text) (codes "local1"))
    (bytes_eq (first_word text) (codes "section2")) e) [
      | inl is ↦ let same = bytes_same (first_word text) (codes "local1") is in
          subst (λ w. map lower_digit w ≡ w) (sym same) refl
      | inr is ↦ let same = bytes_same (first_word text) (codes "section2") is in
          subst (λ w. map lower_digit w ≡ w) (sym same) refl
    ]

pub first_printed : (text : List ℕ) → first_word (as_printed text) ≡ first_word text
first_printed text =
    elim (cases_Bool (has_octets text)) [
      | inl e ↦ ap first_word (lower_printed text e) ∙ ap (λ ws. get_or ws 0 [])
          (words_lower text) ∙ first_of_map (words_of text) ∙ octets_word text e
      | inr e ↦ ap first_word (own_printed text e)
    ]

pub count_printed : (text : List ℕ) → length (words_of (as_printed text)) ≡ length (words_of text)
count_printed text =
    elim (cases_Bool (has_octets text)) [
      | inl e ↦ ap (λ t. length (words_of t)) (lower_printed text e)
          ∙ ap length (words_lower text) ∙ length-map (words_of text) (λ w. map lower_digit w)
      | inr e ↦ ap (λ t. length (words_of t)) (own_printed text e)
    ]

pub octets_printed : (text : List ℕ) → has_octets (as_printed text) ≡ has_octets text
octets_printed text = ap (λ w. bytes_eq w (codes "local1") || bytes_eq w (codes "section2"))
    (first_printed text)

pub same_test : (text other : List ℕ) → has_octets other ≡ false
    → bytes_eq (as_printed text) other ≡ bytes_eq text other
same_test text other plain =
    elim (cases_Bool (has_octets text)) [
      | inl e ↦
          other_bytes (as_printed text) other
          (λ same. false≢true (sym plain ∙ ap has_octets (sym same) ∙ octets_printed text ∙ e))
          ∙ sym (other_bytes text other
          (λ same. false≢true (sym plain ∙ ap has_octets (sym same) ∙ e)))
      | inr e ↦ ap (λ t. bytes_eq t other) (own_printed text e)
    ]

-- ---- words joined

joined_words : (w : List ℕ) (ws : List (List ℕ)) → join_with_byte 32 (w ∷ ws) ≡ words w ws
joined_words w [] = sym (append-nil w)
joined_words w (v ∷ ws) = ap (λ rest. w ++ 32 ∷ rest) (joined_words v ws)

-- a line is its words with one space between two
pub line_of_words : (text w : List ℕ) (ws : List (List ℕ)) → words_of text ≡ w ∷ ws
    → text ≡ words w ws
line_of_words text w ws e = sym (join_with_byte-slice_split 32 text) ∙ ap (join_with_byte 32) e
    ∙ joined_words w ws
