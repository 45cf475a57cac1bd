-- The next line, and what reading makes of it: for the readers of lines.
use Rattle.std.proofs.Common.{◌≡◌, ℕ, Bool, true, false, List, [], ◌∷◌, length, get_or, drop, codes}
use Rattle.std.proofs.Common.{inl, inr, arith, Result, Ok, Err, refl, sym, ap, ◌∙◌, subst}
use Rattle.std.specs.Prelude.{◌==◌, ◌&&◌, ◌||◌, Some, None, nat_le, if◌then◌else◌}
use Rattle.std.specs.List.{onto_first}
use Rattle.std.proofs.lemmas.Bool.{cases_Bool, cond-false, false≢true}
use Rattle.std.proofs.lemmas.List.Splits.{slice_split-cons_yes, slice_split-cons_no}
use Rattle.std.specs.Str.{bytes_eq}
use Rattle.bufr_base.specs.Answers.{◌>>=◌, Fails}
use Rattle.bufr_base.specs.declared.failure.Failure.{Failure}
use Rattle.bufr_base.specs.declared.failure.Failure.TheVariants.{Fault, OutOfMemory}
use Rattle.bufr_base.specs.AnswerLaws.{ok_is}
use Rattle.bufr_listing.specs.declared.fault.ListingFault.{ListingFault}
use Rattle.bufr_listing.specs.declared.fault.ListingFault.TheVariants.{BadLine, BadValue}
use Rattle.bufr_listing.specs.Listings.{flags_line}
use Rattle.bufr_listing_reader.specs.Lines.{Line, words_of, first_word, has_octets, as_printed}
use Rattle.bufr_listing_reader.specs.declared.lines.TextLine.{TextLine}
use Rattle.bufr_listing_reader.specs.Cursors.{printed, next_of}
use Rattle.bufr_listing_reader.specs.Reading.{with_rest, read_line, read_if, read_word, read_octets}
use Rattle.bufr_listing_reader.specs.Reading.{read_section2, read_flags}
use Rattle.bufr_listing_reader.proofs.PrintedFacts.{same_test, first_printed, count_printed, line_of_words}
use Rattle.bufr_listing_reader.proofs.LineFacts.{IsWord, one_word}
use Rattle.bufr_listing_reader.proofs.WordFacts.{some_word}
use Rattle.bufr_listing_reader.proofs.FieldFacts.{same_bytes, other_bytes}

taken_is : (past : ℕ) (ls : List Line) (l : Line) (rest : List Line) → next_of past ls
    ≡ Ok (l, rest) → ls ≡ l ∷ rest
taken_is past [] l rest h = absurd cc
taken_is past (x ∷ xs) l rest h = let e : (x, xs) ≡ (l, rest) = ok_is (x, xs) (l, rest) h in
    ap (λ (p : Line × List Line). p.0 ∷ p.1) e

pub taken_ok : {A : Type 0} (read : ℕ → List ℕ → Result A ListingFault) (past : ℕ)
    (ls : List Line) (l : Line) (rest : List Line) (a : A)
    → next_of past ls ≡ Ok (l, rest) → read l.number l.text ≡ Ok a → read_line read past ls
    ≡ Ok (a, rest)
taken_ok read past ls l rest a h e = ap (read_line read past) (taken_is past ls l rest h)
    ∙ ap (λ r. r >>= with_rest rest) e

pub taken_err : {A : Type 0} (read : ℕ → List ℕ → Result A ListingFault) (past : ℕ)
    (ls : List Line) (l : Line) (rest : List Line) (e : Failure ListingFault)
    → next_of past ls ≡ Ok (l, rest) → Fails e (read l.number l.text)
    → Fails e (read_line read past ls)
taken_err read past ls l rest OutOfMemory h e = tt
taken_err read past ls l rest (Fault f) h e = ap (read_line read past) (taken_is past ls l rest h)
    ∙ ap (λ r. r >>= with_rest rest) e

-- ---- a line that is one word

pub word_is_not : (word : List ℕ) (n : ℕ) (text : List ℕ) → has_octets word ≡ false
    → bytes_eq text word ≡ false → read_word word n (as_printed text) ≡ Err (BadLine n)
word_is_not word n text plain e = rw (same_test text word plain, e) refl

-- ---- the line of the flags

plain_flags : (o c : Bool) → has_octets (flags_line o c) ≡ false
plain_flags false false = refl
plain_flags true false = refl
plain_flags false true = refl
plain_flags true true = refl

pub flags_are_not : (n : ℕ) (text : List ℕ) → bytes_eq text (flags_line false false) ≡ false
    → bytes_eq text (flags_line true false) ≡ false → bytes_eq text (flags_line false true)
    ≡ false → bytes_eq text (flags_line true true) ≡ false
    → read_flags n (as_printed text) ≡ Err
    (if bytes_eq (first_word text) (codes "flags") && nat_le (length (words_of text)) 3 then
    BadValue n else BadLine n)
flags_are_not n text a b c d =
    rw (
      same_test text (flags_line false false) (plain_flags false false) ∙ a,
      same_test text (flags_line true false) (plain_flags true false) ∙ b,
      same_test text (flags_line false true) (plain_flags false true) ∙ c,
      same_test text (flags_line true true) (plain_flags true true) ∙ d,
      first_printed text,
      count_printed text,
    ) refl

pub flags_are_others : (n : ℕ) (text : List ℕ) → bytes_eq text (flags_line false false) ≡ false
    → bytes_eq text (flags_line true false) ≡ false → bytes_eq text (flags_line false true)
    ≡ false → bytes_eq text (flags_line true true) ≡ false
    → (bytes_eq (first_word text) (codes "flags") && nat_le (length (words_of text)) 3) ≡ false
    → read_flags n (as_printed text) ≡ Err (BadLine n)
flags_are_others n text a b c d e =
    flags_are_not n text a b c d ∙ ap (λ b. Err (if b then BadValue n else BadLine n)) e

-- ---- the words of a line after its first

first_and_others : (us ws : List (List ℕ)) (title : List ℕ) → (us ≡ [] → ⊥)
    → get_or us 0 [] ≡ title → ws ≡ drop 1 us → us ≡ title ∷ ws
first_and_others [] ws title some first e = absurd (some refl)
first_and_others (u ∷ us) ws title some first e = λ i. first i ∷ sym e i

pub titled_words : (text title : List ℕ) (ws : List (List ℕ)) → first_word text ≡ title
    → ws ≡ drop 1 (words_of text) → words_of text ≡ title ∷ ws
titled_words text title ws first e =
    first_and_others (words_of text) ws title (λ none. some_word text none) first e

onto_word : (c : ℕ) (ws : List (List ℕ)) → (c == 32) ≡ false → IsWord (get_or ws 0 [])
    → IsWord (get_or (onto_first c ws) 0 [])
onto_word c [] e h = (e, tt)
onto_word c (w ∷ ws) e h = (e, h)

pub first_is_word : (text : List ℕ) → IsWord (first_word text)
first_is_word [] = tt
first_is_word (c ∷ text) =
    elim (cases_Bool (c == 32)) [
      | inl e ↦
          subst IsWord
          (sym (ap (λ us. get_or us 0 []) (slice_split-cons_yes (λ c. c == 32) c text e))) tt
      | inr e ↦
          subst IsWord
          (sym (ap (λ us. get_or us 0 []) (slice_split-cons_no (λ c. c == 32) c text e)))
          (onto_word c (words_of text) e (first_is_word text))
    ]

pub title_is_word : (text title : List ℕ) → first_word text ≡ title → IsWord title
title_is_word text title first = subst IsWord first (first_is_word text)

pub title_octets : (text title : List ℕ) (b : Bool) → first_word text ≡ title → has_octets title
    ≡ b → has_octets text ≡ b
title_octets text title b first octets =
    let own : first_word title ≡ title =
    ap (λ us. get_or us 0 []) (one_word title (title_is_word text title first)) in
    ap (λ w. bytes_eq w (codes "local1") || bytes_eq w (codes "section2")) (first ∙ sym own)
    ∙ octets

-- ---- a line that a message may lack

read_if_some : {A : Type 0} (title : List ℕ) (read : ℕ → List ℕ → Result A ListingFault)
    (l : TextLine) (rest : List Line) → bytes_eq (first_word l.text.now) title ≡ true
    → read_if title read (printed l ∷ rest)
    ≡ (read (printed l).number (printed l).text >>= λ a. with_rest rest (Some a))
read_if_some title read l rest is = rw (first_printed l.text.now, is) refl

pub found_ok : {A : Type 0} (title : List ℕ) (read : ℕ → List ℕ → Result A ListingFault)
    (ls : List Line) (l : TextLine) (rest after : List Line) (a : A)
    → ls ≡ printed l ∷ rest → after ≡ drop 1 ls → bytes_eq (first_word l.text.now) title ≡ true
    → read (printed l).number (printed l).text ≡ Ok a → read_if title read ls ≡ Ok (Some a, after)
found_ok title read ls l rest after a e behind is h =
    let same : rest ≡ after = ap (λ (xs : List Line). drop 1 xs) (sym e) ∙ sym behind in
    ap (read_if title read) e ∙ read_if_some title read l rest is
    ∙ ap (λ r. r >>= λ a. with_rest rest (Some a)) h ∙ ap (λ (xs : List Line). Ok (Some a, xs)) same

pub found_err : {A : Type 0} (title : List ℕ) (read : ℕ → List ℕ → Result A ListingFault)
    (ls : List Line) (l : TextLine) (rest : List Line) (e : Failure ListingFault)
    → ls ≡ printed l ∷ rest → bytes_eq (first_word l.text.now) title ≡ true
    → Fails e (read (printed l).number (printed l).text) → Fails e (read_if title read ls)
found_err title read ls l rest OutOfMemory e is h = tt
found_err title read ls l rest (Fault f) e is h =
    ap (read_if title read) e ∙ read_if_some title read l rest is
    ∙ ap (λ r. r >>= λ a. with_rest rest (Some a)) h

pub not_found : {A : Type 0} (title : List ℕ) (read : ℕ → List ℕ → Result A ListingFault)
    (ls : List Line) (l : TextLine) (rest : List Line)
    → ls ≡ printed l ∷ rest → bytes_eq (first_word l.text.now) title ≡ false
    → read_if title read ls ≡ Ok (None, ls)
not_found title read ls l rest e is =
    ap (read_if title read) e
    ∙ cond-false _ (read (printed l).number (printed l).text >>= λ a. with_rest rest (Some a))
    (with_rest (printed l ∷ rest) None) (ap (λ w. bytes_eq w title) (first_printed l.text.now) ∙ is)
    ∙ ap (λ (xs : List Line). Ok (None, xs)) (sym e)

pub none_found : {A : Type 0} (title : List ℕ) (read : ℕ → List ℕ → Result A ListingFault)
    (ls : List Line) → ls ≡ [] → read_if title read ls ≡ Ok (None, ls)
none_found title read ls e = ap (read_if title read) e ∙ ap (λ (xs : List Line). Ok (None, xs))
    (sym e)

-- ---- the line of section 2

none_more : (us : List (List ℕ)) → length us ≡ 1 → us ≡ get_or us 0 [] ∷ []
none_more [] h = absurd (omega arith)
none_more (u ∷ []) h = refl
none_more (u ∷ v ∷ us) h = absurd (omega arith)

-- only a line of that word alone prints so
pub printed_section2 : (text : List ℕ) → bytes_eq text (codes "section2") ≡ false
    → bytes_eq (as_printed text) (codes "section2") ≡ false
printed_section2 text other =
    other_bytes (as_printed text) (codes "section2") (λ same.
    let first : first_word text ≡ codes "section2" =
    sym (first_printed text) ∙ ap first_word same in
    let count : length (words_of text) ≡ 1 =
    sym (count_printed text) ∙ ap (λ t. length (words_of t)) same in
    let alone : words_of text ≡ codes "section2" ∷ [] =
    none_more (words_of text) count ∙ ap (λ w. w ∷ []) first in
    false≢true (sym other ∙ same_bytes text (codes "section2")
    (line_of_words text (codes "section2") [] alone)))

pub section2_octets : (n : ℕ) (text : List ℕ) → bytes_eq text (codes "section2") ≡ false
    → read_section2 n (as_printed text) ≡ read_octets (codes "section2")
    (length (words_of (as_printed text)) == 2) n (as_printed text)
section2_octets n text other = rw (printed_section2 text other) refl
