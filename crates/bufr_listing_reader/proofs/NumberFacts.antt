-- The numbers of words are those of the line: for `read_numbers`.
use Rattle.std.proofs.Common.{◌≡◌, ℕ, suc, ◌+◌, ◌≤◌, Bool, true, false, List, [], ◌∷◌, length}
use Rattle.std.proofs.Common.{map, get_or, drop, refl, sym, ap, ◌∙◌, subst, arith}
use Rattle.std.specs.Prelude.{◌==◌, decimal, Option, Some, None, IfSome, option_and_then, Ok}
use Rattle.std.specs.Prelude.{Err, ℤ, pos, negsuc, nat_lt, if◌then◌else◌}
use Rattle.std.specs.List.{AllByRecursion}
use Rattle.std.specs.Str.{bytes_eq}
use Rattle.std.proofs.lemmas.Bool.{and_parts, and_from, ltb-true, false≢true}
use Rattle.std.proofs.lemmas.Bool.Decides.{nat_tests}
use Rattle.std.proofs.lemmas.List.{append-nil}
use Rattle.std.proofs.lemmas.Option.{none-some}
use Rattle.bufr_fields.specs.declared.field.Decimal.{Decimal}
use Rattle.bufr_fields.specs.Values.{text_of}
use Rattle.bufr_fields.specs.DecimalTexts.{decimal_of}
use Rattle.bufr_fields.specs.DecimalTextLaws.{IsRead, decimal_found, decimal_only}
use Rattle.bufr_listing_reader.specs.Limits.{two_octets}
use Rattle.bufr_listing.specs.declared.fault.ListingFault.TheVariants.{BadLine, BadValue}
use Rattle.bufr_listing.specs.Listings.{words, numbers_line}
use Rattle.bufr_listing_reader.specs.Lines.{words_of, first_word, has_octets, as_printed}
use Rattle.bufr_listing_reader.specs.Words.{below, number_below, onto, numbers_of}
use Rattle.bufr_listing_reader.specs.Reading.{are_below, numbers_in, read_numbers}
use Rattle.bufr_listing_reader.proofs.FieldFacts.{bytes_same, same_bytes, refused}
use Rattle.bufr_listing_reader.proofs.LineFacts.{IsWord, word_then, one_word, words_back}
use Rattle.bufr_listing_reader.proofs.LineFacts.{decimal_words, below_short, numbers_back}
use Rattle.bufr_listing_reader.proofs.CallFacts.{title_octets}
use Rattle.bufr_listing_reader.proofs.PrintedFacts.{own_printed, first_printed, line_of_words}

-- ---- numbers below limits

below_by : (limit : ℕ) (w : List ℕ) (n : ℕ) (o : Option Decimal)
    → IfSome o (λ d. IsRead (pos 0) w d) → option_and_then (λ (d : Decimal). below limit d.units)
    o ≡ Some n → (decimal n ≡ w) × (nat_lt n limit ≡ true)
below_by limit w n None read h = absurd cc
below_by limit w n (Some d) read h = by_units d.units d.scale read.0 read.2 h
  where
    by_test : (b : Bool) (m : ℕ) → nat_lt m limit ≡ b → (if b then Some m else None) ≡ Some n
        → decimal m ≡ w → (decimal n ≡ w) × (nat_lt n limit ≡ true)
    by_test true m e h text =
        let same : m ≡ n = cc in
        subst (λ k. (decimal k ≡ w) × (nat_lt k limit ≡ true)) same (text, e)
    by_test false m e h text = absurd cc

    by_units : (units scale : ℤ) → scale ≡ pos 0
        → text_of (record { units = units; scale = scale }) ≡ w → below limit units ≡ Some n
        → (decimal n ≡ w) × (nat_lt n limit ≡ true)
    by_units (pos m) scale zero_scale text h =
        by_test (nat_lt m limit) m refl h
        (subst (λ s. text_of (record { units = pos m; scale = s }) ≡ w) zero_scale text)
    by_units (negsuc m) scale zero_scale text h = absurd cc

word_taken : (limit : ℕ) (w : List ℕ) (n : ℕ) → number_below limit w ≡ Some n → (decimal n ≡ w)
    × (nat_lt n limit ≡ true)
word_taken limit w n h = below_by limit w n (decimal_of (pos 0) w) (decimal_found (pos 0) w) h

word_back : (limit n : ℕ) → limit ≤ two_octets → nat_lt n limit ≡ true
    → number_below limit (decimal n)
    ≡ Some n
word_back limit n most h =
    let small = ltb-true n limit h in
    let d : Decimal = record { units = pos n; scale = pos 0 } in
    let read =
    decimal_only (pos 0) (decimal n) d
    (record { units = omega (arith, small, most); scale = refl }) refl refl in
    rw (read, h) refl

-- the words are the digits of numbers below the limits
pub record NumbersTaken (limits : List ℕ) (ws : List (List ℕ)) (ns : List ℕ) : Type 0 where
  pub texts : map decimal ns ≡ ws
  pub below : are_below limits ns ≡ true

pub onto_taken : {A : Type 0} (o : Option A) (xs : Option (List A)) (ys : List A)
    → onto o xs ≡ Some ys → (x : A) × (rest : List A) × (o ≡ Some x) × (xs ≡ Some rest)
    × (x ∷ rest ≡ ys)
onto_taken None xs ys h = absurd cc
onto_taken (Some x) None ys h = absurd cc
onto_taken (Some x) (Some rest) ys h = (x, rest, refl, refl, cc)

pub numbers_taken : (limits : List ℕ) (ws : List (List ℕ)) (ns : List ℕ) → numbers_of limits ws
    ≡ Some ns → NumbersTaken limits ws ns
unfolding numbers_of are_below
numbers_taken [] [] ns h = let none : [] ≡ ns = cc in
    subst (λ xs. NumbersTaken [] [] xs) none (record { texts = refl; below = refl })
numbers_taken [] (w ∷ ws) ns h = absurd cc
numbers_taken (limit ∷ limits) [] ns h = absurd cc
numbers_taken (limit ∷ limits) (w ∷ ws) ns h =
    let p = onto_taken (number_below limit w) (numbers_of limits ws) ns h in
    let first = word_taken limit w p.0 p.2 in
    let others = numbers_taken limits ws p.1 p.3 in
    subst (λ xs. NumbersTaken (limit ∷ limits) (w ∷ ws) xs) p.4
    (record { texts = λ i. first.0 i ∷ others.texts i; below = and_from _ _ first.1 others.below })

pub numbers_again : (limits ns : List ℕ) → AllByRecursion (λ l. l ≤ two_octets) limits
    → are_below limits ns ≡ true → numbers_of limits (map decimal ns) ≡ Some ns
unfolding numbers_of are_below
numbers_again [] [] most h = refl
numbers_again [] (n ∷ ns) most h = absurd cc
numbers_again (l ∷ ls) [] most h = absurd cc
numbers_again (l ∷ ls) (n ∷ ns) most h =
    let p = and_parts (nat_lt n l) (are_below ls ns) h in
    rw (word_back l n most.0 p.0, numbers_again ls ns most.1 p.1) refl

-- ---- lines of numbers

pub first_of_words : (title : List ℕ) (ws : List (List ℕ)) → IsWord title
    → first_word (words title ws) ≡ title
first_of_words title [] h = ap first_word (append-nil title) ∙ ap (λ us. get_or us 0 [])
    (one_word title h)
first_of_words title (v ∷ ws) h = ap (λ us. get_or us 0 []) (word_then title (words v ws) h)

pub untitled_numbers : (title limits : List ℕ) (n : ℕ) (text : List ℕ) → IsWord title
    → bytes_eq (first_word text) title ≡ false → read_numbers title limits n (as_printed text)
    ≡ Err (BadLine n)
untitled_numbers title limits n text word other =
    let t = as_printed text in
    let first : bytes_eq (first_word t) title ≡ false =
    ap (λ w. bytes_eq w title) (first_printed text) ∙ other in
    refused _ (Ok (numbers_in t)) _ (λ e.
    let line = bytes_same (numbers_line title (numbers_in t)) t (and_parts _ _ e).1 in
    false≢true (sym first ∙ same_bytes (first_word t) title (ap first_word (sym line)
    ∙ first_of_words title (map decimal (numbers_in t)) word)))
    ∙ rw first refl

pub numbers_are : (title limits : List ℕ) (n : ℕ) (text : List ℕ) (ws : List (List ℕ))
    (ns : List ℕ) → IsWord title → AllByRecursion (λ l. l ≤ two_octets) limits → has_octets title
    ≡ false
    → words_of text ≡ title ∷ ws → numbers_of limits ws ≡ Some ns → read_numbers title limits n
    (as_printed text) ≡ Ok ns
numbers_are title limits n text ws ns word most plain e h =
    let taken = numbers_taken limits ws ns h in
    let first : first_word text ≡ title = ap (λ us. get_or us 0 []) e in
    let octets : has_octets text ≡ false = title_octets text title false first plain in
    let line : text ≡ numbers_line title ns =
    line_of_words text title ws e ∙ ap (words title) (sym taken.texts) in
    ap (read_numbers title limits n) (own_printed text octets ∙ line)
    ∙ numbers_back title limits n ns word most taken.below

pub numbers_are_not : (title limits : List ℕ) (n : ℕ) (text : List ℕ) (ws : List (List ℕ))
    → IsWord title → AllByRecursion (λ l. l ≤ two_octets) limits → has_octets title ≡ false
    → words_of text ≡ title ∷ ws → numbers_of limits ws ≡ None → read_numbers title limits n
    (as_printed text) ≡ Err (if length ws == length limits then BadValue n else BadLine n)
numbers_are_not title limits n text ws word most plain e h =
    let first : first_word text ≡ title = ap (λ us. get_or us 0 []) e in
    let octets : has_octets text ≡ false = title_octets text title false first plain in
    let count : (length (words_of text) == length limits + 1) ≡ (length ws == length limits) =
    ap (λ us. length us == length limits + 1) e ∙ one_more (length ws) (length limits) in
    ap (read_numbers title limits n) (own_printed text octets)
    ∙ refused _ (Ok (numbers_in text)) _ (λ holds.
    let q = and_parts (are_below limits (numbers_in text)) _ holds in
    let line = bytes_same (numbers_line title (numbers_in text)) text q.1 in
    let short = below_short limits (numbers_in text) most q.0 in
    let back : words_of text ≡ title ∷ map decimal (numbers_in text) =
    ap words_of (sym line) ∙ words_back title (map decimal (numbers_in text)) word
    (decimal_words (numbers_in text) short) in
    let same : ws ≡ map decimal (numbers_in text) = ap (drop 1) (sym e ∙ back) in
    none-some (numbers_in text) (sym h ∙ ap (numbers_of limits) same
    ∙ numbers_again limits (numbers_in text) most q.0))
    ∙ rw (same_bytes (first_word text) title first, count) refl
  where
    one_more : (a b : ℕ) → (suc a == b + 1) ≡ (a == b)
    one_more a b = grind (arith, nat_tests)
