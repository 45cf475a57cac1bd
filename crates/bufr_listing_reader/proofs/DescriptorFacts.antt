-- The descriptors of words are those of the line: for `descriptors_of`.
use Rattle.std.proofs.Common.{◌≡◌, ℕ, ◌<◌, true, false, List, [], ◌∷◌, length, map, get_or}
use Rattle.std.proofs.Common.{drop, codes, unwrap_or, refl, sym, ap, ◌∙◌, subst, ◌^◌}
use Rattle.std.specs.Prelude.{◌==◌, ◌&&◌, not, Option, Some, None, Err}
use Rattle.std.specs.List.{AllByRecursion}
use Rattle.std.specs.Str.{bytes_eq}
use Rattle.std.proofs.lemmas.Bool.{and_parts, and_from, cond-true, false≢true}
use Rattle.std.proofs.lemmas.Option.{none-some, same_Some}
use Rattle.bufr_tables.specs.Descriptors.{of_text, six_digits}
use Rattle.bufr_tables.specs.Entries.{Entries}
use Rattle.bufr_expand.specs.Templates.{template}
use Rattle.bufr_listing.specs.declared.fault.ListingFault.TheVariants.{BadLine}
use Rattle.bufr_listing.specs.Listings.{words, descriptors_line}
use Rattle.bufr_listing_reader.specs.Lines.{words_of, first_word, as_printed}
use Rattle.bufr_listing_reader.specs.Words.{onto, descriptors_of}
use Rattle.bufr_listing_reader.specs.Reading.{descriptors_in, described, read_descriptors}
use Rattle.bufr_listing_reader.proofs.FieldFacts.{bytes_same, same_bytes, refused}
use Rattle.bufr_listing_reader.proofs.LowerLaws.{DescriptorTexts}
use Rattle.bufr_listing_reader.proofs.LineFacts.{IsWord, literal_word, words_back, six_words}
use Rattle.bufr_listing_reader.proofs.LineFacts.{descriptors_small}
use Rattle.bufr_listing_reader.proofs.CallFacts.{title_octets}
use Rattle.bufr_listing_reader.proofs.PrintedFacts.{own_printed, first_printed, line_of_words}
use Rattle.bufr_listing_reader.proofs.NumberFacts.{onto_taken, first_of_words}

-- the words are the digits of the descriptors
pub record DescriptorsFound (ws : List (List ℕ)) (ds : List ℕ) : Type 0 where
  pub texts : map six_digits ds ≡ ws
  pub values : map (λ w. unwrap_or (of_text w) 0) ws ≡ ds

pub descriptors_found : DescriptorTexts → (ws : List (List ℕ)) (ds : List ℕ) → descriptors_of ws
    ≡ Some ds → DescriptorsFound ws ds
unfolding descriptors_of
descriptors_found law [] ds h =
    subst (λ xs. DescriptorsFound [] xs) (same_Some [] ds h)
    (record { texts = refl; values = refl })
descriptors_found law (w ∷ ws) ds h =
    let p = onto_taken (of_text w) (descriptors_of ws) ds h in
    let own = (law w p.0).0 p.2 in
    let text = sym own.1 in
    let others = descriptors_found law ws p.1 p.3 in
    let value = ap (λ (o : Option ℕ). unwrap_or o 0) p.2 in
    subst (λ xs. DescriptorsFound (w ∷ ws) xs) p.4
    (record { texts = λ i. text i ∷ others.texts i; values = λ i. value i ∷ others.values i })

descriptors_again : DescriptorTexts → (ds : List ℕ) → AllByRecursion (λ d. d < 2 ^ 16) ds
    → descriptors_of (map six_digits ds) ≡ Some ds
unfolding descriptors_of
descriptors_again law [] h = refl
descriptors_again law (d ∷ ds) h =
    let own = (law (six_digits d) d).1 (h.0, refl) in
    let more = descriptors_again law ds h.1 in
    λ i. onto (own i) (more i)

-- ---- the line of the descriptors

title_word : IsWord (codes "descriptors")
title_word = literal_word (codes "descriptors") refl

pub untitled_descriptors : (tables : Entries) (n : ℕ) (text : List ℕ) → bytes_eq (first_word text)
    (codes "descriptors") ≡ false → read_descriptors tables n (as_printed text) ≡ Err (BadLine n)
untitled_descriptors tables n text other =
    let t = as_printed text in
    let ds = descriptors_in t in
    let first : bytes_eq (first_word t) (codes "descriptors") ≡ false =
    ap (λ w. bytes_eq w (codes "descriptors")) (first_printed text) ∙ other in
    refused (not (length ds == 0) && bytes_eq (descriptors_line ds) t)
    (described n ds (template tables ds)) (BadLine n) (λ e.
    let line =
    bytes_same (descriptors_line ds) t
    (and_parts (not (length ds == 0)) (bytes_eq (descriptors_line ds) t) e).1 in
    false≢true (sym first ∙ same_bytes (first_word t) (codes "descriptors")
    (ap first_word (sym line) ∙ first_of_words (codes "descriptors")
    (map six_digits ds) title_word)))

plain_line : (text : List ℕ) (ws : List (List ℕ)) → words_of text ≡ codes "descriptors" ∷ ws
    → as_printed text ≡ text
plain_line text ws e =
    own_printed text (title_octets text (codes "descriptors") false
    (ap (λ us. get_or us 0 []) e) refl)

pub descriptors_are_not : DescriptorTexts → (tables : Entries) (n : ℕ) (text : List ℕ)
    (ws : List (List ℕ)) → words_of text ≡ codes "descriptors" ∷ ws → descriptors_of ws ≡ None
    → read_descriptors tables n (as_printed text) ≡ Err (BadLine n)
descriptors_are_not law tables n text ws e h =
    let ds = descriptors_in text in
    ap (read_descriptors tables n) (plain_line text ws e)
    ∙ refused (not (length ds == 0) && bytes_eq (descriptors_line ds) text)
    (described n ds (template tables ds)) (BadLine n) (λ holds.
    let line =
    bytes_same (descriptors_line ds) text
    (and_parts (not (length ds == 0)) (bytes_eq (descriptors_line ds) text) holds).1 in
    let back : words_of text ≡ codes "descriptors" ∷ map six_digits ds =
    ap words_of (sym line) ∙ words_back (codes "descriptors") (map six_digits ds) title_word
    (six_words ds) in
    let same : ws ≡ map six_digits ds = ap (λ (us : List (List ℕ)). drop 1 us) (sym e ∙ back) in
    none-some ds (sym h ∙ ap descriptors_of same
    ∙ descriptors_again law ds (descriptors_small law (drop 1 (words_of text)))))

values_are : DescriptorTexts → (text : List ℕ) (ws : List (List ℕ)) (ds : List ℕ)
    → words_of text ≡ codes "descriptors" ∷ ws → descriptors_of ws ≡ Some ds → descriptors_in text
    ≡ ds
values_are law text ws ds e h =
    ap (λ (us : List (List ℕ)). map (λ w. unwrap_or (of_text w) 0) (drop 1 us)) e
    ∙ (descriptors_found law ws ds h).values

pub no_descriptor : DescriptorTexts → (tables : Entries) (n : ℕ) (text : List ℕ)
    (ws : List (List ℕ)) (ds : List ℕ) → words_of text ≡ codes "descriptors" ∷ ws
    → descriptors_of ws ≡ Some ds → (length ds == 0) ≡ true
    → read_descriptors tables n (as_printed text) ≡ Err (BadLine n)
no_descriptor law tables n text ws ds e h none =
    let own = descriptors_in text in
    let count : not (length own == 0) ≡ false =
    ap (λ (xs : List ℕ). not (length xs == 0)) (values_are law text ws ds e h) ∙ ap not none in
    ap (read_descriptors tables n) (plain_line text ws e)
    ∙ refused (not (length own == 0) && bytes_eq (descriptors_line own) text)
    (described n own (template tables own)) (BadLine n) (λ holds.
    false≢true
    (sym count
    ∙ (and_parts (not (length own == 0)) (bytes_eq (descriptors_line own) text) holds).0))

pub descriptors_are : DescriptorTexts → (tables : Entries) (n : ℕ) (text : List ℕ)
    (ws : List (List ℕ)) (ds : List ℕ) → words_of text ≡ codes "descriptors" ∷ ws
    → descriptors_of ws ≡ Some ds → (length ds == 0) ≡ false
    → read_descriptors tables n (as_printed text) ≡ described n ds (template tables ds)
descriptors_are law tables n text ws ds e h some =
    let own = descriptors_in text in
    let same : own ≡ ds = values_are law text ws ds e h in
    let line : text ≡ descriptors_line ds = line_of_words text (codes "descriptors") ws e
    ∙ ap (words (codes "descriptors")) (sym (descriptors_found law ws ds h).texts) in
    let count : not (length own == 0) ≡ true = ap (λ (xs : List ℕ). not (length xs == 0)) same
    ∙ ap not some in
    let spelled : bytes_eq (descriptors_line own) text ≡ true =
    same_bytes (descriptors_line own) text (ap descriptors_line same ∙ sym line) in
    ap (read_descriptors tables n) (plain_line text ws e)
    ∙ cond-true (not (length own == 0) && bytes_eq (descriptors_line own) text)
    (described n own (template tables own)) (Err (BadLine n)) (and_from _ _ count spelled)
    ∙ ap (λ ys. described n ys (template tables ys)) same
