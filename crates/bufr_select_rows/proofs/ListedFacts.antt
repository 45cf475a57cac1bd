-- The laws of listings, octet by octet: what a cell shows of a spelling is how a row shows the octet.
use Rattle.std.proofs.Common.{◌≡◌, ℕ, zero, suc, ◌-◌, ◌/◌, ◌%◌, ◌==◌, ◌&&◌, ◌||◌, Bool, true, false}
use Rattle.std.proofs.Common.{List, [], ◌∷◌, ◌++◌, take, drop, get_or, length, map, codes, refl, sym, ap}
use Rattle.std.proofs.Common.{◌∙◌, arith, ◌<◌, length-append, Option, Some, None, filter, replicate}
use Rattle.std.specs.Prelude.{decimal, if◌then◌else◌, slice_index, ℤ, pos, negsuc}
use Rattle.std.specs.Char.{is_ascii_digit}
use Rattle.std.specs.Fmt.{digits, digits_onto, digit_glyph}
use Rattle.std.specs.List.{flat_map, list_all}
use Rattle.std.specs.Str.{bytes_eq}
use Rattle.std.proofs.lemmas.Bool.{eqb-true}
use Rattle.std.proofs.lemmas.Bool.Decides.{nat_tests}
use Rattle.std.proofs.lemmas.List.{take_at}
use Rattle.std.proofs.lemmas.Slice.Eq.{bytes_eq-Decides}
use Rattle.hex.specs.Hex.{encode_lower, encode_with, lower_digits}
use Rattle.bufr_tables.specs.Descriptors.{IsDescriptor, of_text, six_digits}
use Rattle.bufr_tables.specs.DescriptorLaws.{of_text-six_digits}
use Rattle.bufr_fields.specs.DecimalTextLaws.{AreDigits}
use Rattle.bufr_fields.specs.Values.{digits_by, is_missing, text_of, value}
use Rattle.bufr_fields.specs.declared.field.Decimal.{Decimal}
use Rattle.bufr_fields.specs.declared.field.Field.{Field}
use Rattle.bufr_fields.specs.declared.field.Raw.{Raw}
use Rattle.bufr_fields.specs.declared.field.Raw.TheVariants.{Number, Text}
use Rattle.bufr_listing.specs.Listings.{field_line, number_word, quoted, quoted_octet, raw_word}
use Rattle.bufr_listing.specs.Listings.{is_literal}
use Rattle.bufr_select_rows.specs.ListedCells.{FactsAreListed, LinesHaveDescriptors, ValuesAreListed}
use Rattle.bufr_select_rows.specs.ListedCells.{between_quotes, cell_of_word, digits_in, spellings}
use Rattle.bufr_select_rows.specs.ListedCells.{spells_padding, with_bare_quote, without_padding}
use Rattle.bufr_select_rows.specs.Rows.{Origin, fields_with, told_number}
use Rattle.bufr_select_rows.specs.Values.{is_padding, is_shown_as_itself, shown_octet, shown_raw}
use Rattle.bufr_select_rows.specs.Values.{shown_text, trimmed}

-- ---- digits of octets

-- a number is no zero if it follows another
no_zero : (n k : ℕ) → k < 16 → (suc (suc (suc (suc (suc (suc (suc (suc (suc (suc (suc (suc (suc (suc
    (suc (suc n))))))))))))))) == k) ≡ false
no_zero n k small = grind (arith, nat_tests)

-- the digit `0` is that of zero alone
zero_digit : (n : ℕ) → (slice_index lower_digits n == 48) ≡ (n == 0)
zero_digit zero = refl
zero_digit (suc zero) = refl
zero_digit (suc (suc zero)) = refl
zero_digit (suc (suc (suc zero))) = refl
zero_digit (suc (suc (suc (suc zero)))) = refl
zero_digit (suc (suc (suc (suc (suc zero))))) = refl
zero_digit (suc (suc (suc (suc (suc (suc zero)))))) = refl
zero_digit (suc (suc (suc (suc (suc (suc (suc zero))))))) = refl
zero_digit (suc (suc (suc (suc (suc (suc (suc (suc zero)))))))) = refl
zero_digit (suc (suc (suc (suc (suc (suc (suc (suc (suc zero))))))))) = refl
zero_digit (suc (suc (suc (suc (suc (suc (suc (suc (suc (suc zero)))))))))) = refl
zero_digit (suc (suc (suc (suc (suc (suc (suc (suc (suc (suc (suc zero))))))))))) = refl
zero_digit (suc (suc (suc (suc (suc (suc (suc (suc (suc (suc (suc (suc zero)))))))))))) = refl
zero_digit (suc (suc (suc (suc (suc (suc (suc (suc (suc (suc (suc (suc (suc zero))))))))))))) = refl
zero_digit (suc (suc (suc (suc (suc (suc (suc (suc (suc (suc (suc (suc (suc (suc zero)))))))))))))) =
    refl
zero_digit (suc (suc (suc (suc (suc (suc (suc (suc (suc (suc (suc (suc (suc (suc (suc
    zero))))))))))))))) = refl
zero_digit (suc (suc (suc (suc (suc (suc (suc (suc (suc (suc (suc (suc (suc (suc (suc (suc
    n)))))))))))))))) = sym (no_zero n 0 (omega arith))

-- the digit `2` is that of two alone
two_digit : (n : ℕ) → (slice_index lower_digits n == 50) ≡ (n == 2)
two_digit zero = refl
two_digit (suc zero) = refl
two_digit (suc (suc zero)) = refl
two_digit (suc (suc (suc zero))) = refl
two_digit (suc (suc (suc (suc zero)))) = refl
two_digit (suc (suc (suc (suc (suc zero))))) = refl
two_digit (suc (suc (suc (suc (suc (suc zero)))))) = refl
two_digit (suc (suc (suc (suc (suc (suc (suc zero))))))) = refl
two_digit (suc (suc (suc (suc (suc (suc (suc (suc zero)))))))) = refl
two_digit (suc (suc (suc (suc (suc (suc (suc (suc (suc zero))))))))) = refl
two_digit (suc (suc (suc (suc (suc (suc (suc (suc (suc (suc zero)))))))))) = refl
two_digit (suc (suc (suc (suc (suc (suc (suc (suc (suc (suc (suc zero))))))))))) = refl
two_digit (suc (suc (suc (suc (suc (suc (suc (suc (suc (suc (suc (suc zero)))))))))))) = refl
two_digit (suc (suc (suc (suc (suc (suc (suc (suc (suc (suc (suc (suc (suc zero))))))))))))) = refl
two_digit (suc (suc (suc (suc (suc (suc (suc (suc (suc (suc (suc (suc (suc (suc zero)))))))))))))) =
    refl
two_digit (suc (suc (suc (suc (suc (suc (suc (suc (suc (suc (suc (suc (suc (suc (suc
    zero))))))))))))))) = refl
two_digit (suc (suc (suc (suc (suc (suc (suc (suc (suc (suc (suc (suc (suc (suc (suc (suc
    n)))))))))))))))) = sym (no_zero n 2 (omega arith))

-- ---- the spelling of an octet

-- an octet that is spelt as itself is no backslash, and is shown as itself
no_backslash : (c : ℕ) → is_literal c ≡ true → (c == 92) ≡ false
no_backslash c is = grind (arith, nat_tests)

shown_itself : (c : ℕ) → is_literal c ≡ true → is_shown_as_itself c ≡ true
shown_itself c is = grind (arith, nat_tests)

-- another one is shown as itself if it is a quote
shown_quote : (c : ℕ) → is_literal c ≡ false → is_shown_as_itself c ≡ (c == 34)
shown_quote c other = grind (arith, nat_tests)

-- the spelling of an octet by a test
abbrev spelt : Bool → ℕ → List ℕ
spelt is c = if is then c ∷ [] else 92 ∷ encode_lower (c ∷ [])

-- one character
character_first : (c : ℕ) (text : List ℕ) → (c == 92) ≡ false
    → spellings (c ∷ text) ≡ (c ∷ []) ∷ spellings text
character_first c [] other = refl
character_first c (a ∷ []) other = refl
character_first c (a ∷ b ∷ text) other = rw other refl

-- either
spelling_first : (is : Bool) (c : ℕ) (text : List ℕ) → is_literal c ≡ is
    → spellings (spelt is c ++ text) ≡ spelt is c ∷ spellings text
unfolding encode_with
spelling_first true c text is = character_first c text (no_backslash c is)
spelling_first false c text is = refl

-- the spellings of octets
spellings_of : (octets : List ℕ)
    → spellings (flat_map quoted_octet octets) ≡ map quoted_octet octets
spellings_of [] = refl
spellings_of (c ∷ octets) =
    spelling_first (is_literal c) c (flat_map quoted_octet octets) refl
    ∙ ap (λ ss. quoted_octet c ∷ ss) (spellings_of octets)

-- ---- padding

-- octets that pad a text, by their characters
itself_pads : (c : ℕ) → is_literal c ≡ true
    → ((c == 32) && true || (c == 92) && false) ≡ is_padding c
itself_pads c is = grind (arith, nat_tests)

digits_pad : (c : ℕ) → is_literal c ≡ false
    → ((c / 16 == 0) && ((c % 16 == 0) && true)) ≡ is_padding c
digits_pad c other = grind (arith, nat_tests)

spelling_pads : (is : Bool) (c : ℕ) → is_literal c ≡ is
    → spells_padding (spelt is c) ≡ is_padding c
unfolding encode_with
spelling_pads true c is = itself_pads c is
spelling_pads false c is = rw (zero_digit (c / 16), zero_digit (c % 16)) (digits_pad c is)

-- all octets of a text
all_pad : (octets : List ℕ)
    → list_all spells_padding (map quoted_octet octets) ≡ list_all is_padding octets
all_pad [] = refl
all_pad (c ∷ octets) =
    ap (λ b. b && list_all spells_padding (map quoted_octet octets))
    (spelling_pads (is_literal c) c refl)
    ∙ ap (λ b. is_padding c && b) (all_pad octets)

-- so the padding at the end of a text is cut off with its spellings
cut_if : (is : Bool) (c : ℕ) (octets : List ℕ)
    → without_padding (map quoted_octet octets) ≡ map quoted_octet (trimmed octets)
    → (if is then [] else quoted_octet c ∷ without_padding (map quoted_octet octets))
    ≡ map quoted_octet (if is then [] else c ∷ trimmed octets)
cut_if true c octets rest = refl
cut_if false c octets rest = ap (λ ss. quoted_octet c ∷ ss) rest

padding_cut : (octets : List ℕ)
    → without_padding (map quoted_octet octets) ≡ map quoted_octet (trimmed octets)
unfolding trimmed
padding_cut [] = refl
padding_cut (c ∷ octets) =
    ap (λ b. if b then [] else quoted_octet c ∷ without_padding (map quoted_octet octets))
    (all_pad (c ∷ octets))
    ∙ cut_if (list_all is_padding (c ∷ octets)) c octets (padding_cut octets)

-- ---- quotes

-- the digits of a quote are its alone
digits_quote : (c : ℕ) → ((c / 16 == 2) && ((c % 16 == 2) && true)) ≡ (c == 34)
digits_quote c = grind (arith, nat_tests)

-- a quote, or else other octets
quote_if : (is : Bool) (c : ℕ) (spelling : List ℕ) → (c == 34) ≡ is
    → (if is then 34 ∷ [] else spelling) ≡ (if is then c ∷ [] else spelling)
quote_if true c spelling is = ap (λ x. x ∷ []) (sym (eqb-true c 34 is))
quote_if false c spelling is = refl

bare_spelling : (is : Bool) (c : ℕ) → is_literal c ≡ is
    → with_bare_quote (spelt is c) ≡ shown_octet c
unfolding encode_with
bare_spelling true c is = rw (shown_itself c is, no_backslash c is) refl
bare_spelling false c is =
    rw (shown_quote c is, two_digit (c / 16), two_digit (c % 16), digits_quote c)
    (quote_if (c == 34) c (92 ∷ encode_lower (c ∷ [])) refl)

-- the octets of a text
bare_text : (octets : List ℕ)
    → flat_map with_bare_quote (map quoted_octet octets) ≡ shown_text octets
bare_text [] = refl
bare_text (c ∷ octets) =
    (λ i. bare_spelling (is_literal c) c refl i ++ bare_text octets i)

-- ---- texts

-- what is between the quotes of a text
quotes_out : (text : List ℕ) → between_quotes (34 ∷ text ++ 34 ∷ []) ≡ text
quotes_out text = take_at text (34 ∷ []) _ (omega (arith, length-append text (34 ∷ [])))

text_listed : (octets : List ℕ) → shown_text (trimmed octets) ≡ cell_of_word (quoted octets)
text_listed octets =
    sym (
    ap (λ t. flat_map with_bare_quote (without_padding (spellings t)))
    (quotes_out (flat_map quoted_octet octets))
    ∙ ap (λ ss. flat_map with_bare_quote (without_padding ss)) (spellings_of octets)
    ∙ ap (flat_map with_bare_quote) (padding_cut octets)
    ∙ bare_text (trimmed octets)
    )

-- ---- numbers

-- the last digit of a number
last_digit : (n : ℕ) → is_ascii_digit (digit_glyph false (n % 10)) ≡ true
last_digit n = grind (arith, nat_tests)

-- the last digit, and the others if there are any
digits_if : (is : Bool) (k n : ℕ) (after : List ℕ) → AreDigits after
    → AreDigits (digits_onto k 10 false (n / 10) (digit_glyph false (n % 10) ∷ after))
    → AreDigits (if is then digit_glyph false (n % 10) ∷ after
    else digits_onto k 10 false (n / 10) (digit_glyph false (n % 10) ∷ after))
digits_if true k n after all others = (last_digit n, all)
digits_if false k n after all others = others

-- digits of a number and those after them
digits_before : (k n : ℕ) (after : List ℕ) → AreDigits after
    → AreDigits (digits_onto k 10 false n after)
digits_before zero n after all = all
digits_before (suc k) n after all =
    digits_if (n / 10 == 0) k n after all
    (digits_before k (n / 10) (digit_glyph false (n % 10) ∷ after) (last_digit n, all))

pub decimal_digits : (n : ℕ) → AreDigits (decimal n)
unfolding digits
decimal_digits n = digits_before 64 n [] tt

-- the digits before a place
pub front_digits : (k : ℕ) (xs : List ℕ) → AreDigits xs → AreDigits (take k xs)
front_digits zero xs all = tt
front_digits (suc k) [] all = tt
front_digits (suc k) (c ∷ xs) all = (all.0, front_digits k xs all.1)

-- zeros before digits
pub zeros_before : (k : ℕ) (xs : List ℕ) → AreDigits xs → AreDigits (replicate k 48 ++ xs)
zeros_before zero xs all = all
zeros_before (suc k) xs all = (refl, zeros_before k xs all)

-- a word begins with no quote and no `m`
record BeginsOther (xs : List ℕ) : Type 0 where
  quote : (get_or xs 0 0 == 34) ≡ false
  letter : (get_or xs 0 0 == 109) ≡ false

no_quote : (c : ℕ) → is_ascii_digit c ≡ true → (c == 34) ≡ false
no_quote c is = grind (arith, nat_tests)

no_letter : (c : ℕ) → is_ascii_digit c ≡ true → (c == 109) ≡ false
no_letter c is = grind (arith, nat_tests)

-- digits and what is after them
digits_first : (xs ys : List ℕ) → AreDigits xs → BeginsOther ys → BeginsOther (xs ++ ys)
digits_first [] ys all other = other
digits_first (c ∷ xs) ys all other =
    record { quote = no_quote c all.0; letter = no_letter c all.0 }

digits_alone : (xs : List ℕ) → AreDigits xs → BeginsOther xs
digits_alone [] all = record { quote = refl; letter = refl }
digits_alone (c ∷ xs) all = record { quote = no_quote c all.0; letter = no_letter c all.0 }

-- the digits of a number at a negative scale
zeros_after : (is : Bool) (s n : ℕ)
    → BeginsOther (if is then decimal 0 else decimal n ++ replicate (suc s) 48)
zeros_after true s n = digits_alone (decimal 0) (decimal_digits 0)
zeros_after false s n =
    digits_first (decimal n) (replicate (suc s) 48) (decimal_digits n)
    (record { quote = refl; letter = refl })

-- or at any
scale_first : (scale : ℤ) (n : ℕ) → BeginsOther (digits_by scale n)
scale_first (pos zero) n = digits_alone (decimal n) (decimal_digits n)
scale_first (pos (suc s)) n =
    let ds = replicate (suc (suc s) - length (decimal n)) 48 ++ decimal n in
    digits_first (take (length ds - suc s) ds) (46 ∷ drop (length ds - suc s) ds)
    (front_digits (length ds - suc s) ds
    (zeros_before (suc (suc s) - length (decimal n)) (decimal n) (decimal_digits n)))
    (record { quote = refl; letter = refl })
scale_first (negsuc s) n = zeros_after (n == 0) s n

number_first : (units scale : ℤ) → BeginsOther (text_of (record { units = units; scale = scale }))
number_first (pos n) scale = scale_first scale n
number_first (negsuc n) scale = record { quote = refl; letter = refl }

-- such a word is not `missing`
not_missing : (xs : List ℕ) → (get_or xs 0 0 == 109) ≡ false
    → bytes_eq xs (codes "missing") ≡ false
not_missing [] other = refl
not_missing (c ∷ xs) other = rw other refl

-- so a cell shows it
other_listed : (word : List ℕ) → BeginsOther word → word ≡ cell_of_word word
other_listed word other = rw (not_missing word other.letter, other.quote) refl

number_listed : (said : Option Decimal) → number_word said ≡ cell_of_word (number_word said)
number_listed None = refl
number_listed (Some d) = other_listed (text_of d) (number_first d.units d.scale)

-- ---- fields

raw_listed : (is : Bool) (f : Field) (raw : Raw)
    → (if is then [] else shown_raw f raw) ≡ cell_of_word (if is then codes "missing" else raw_word f raw)
raw_listed true f raw = refl
raw_listed false f (Number n) = number_listed (value f)
raw_listed false f (Text octets) = text_listed octets

pub value_listed : ValuesAreListed
value_listed f = raw_listed (is_missing f) f f.raw

-- ---- descriptors

-- tests that pass together
same_tests : (a b : Bool) → (a ≡ true → b ≡ true) → (b ≡ true → a ≡ true) → a ≡ b
same_tests true true to back = refl
same_tests true false to back = sym (to refl)
same_tests false true to back = back refl
same_tests false false to back = refl

abbrev some_of : Option ℕ → ℕ
some_of None = 0
some_of (Some d) = d

-- descriptors with the same digits are one
pub one_descriptor : (d e : ℕ) → IsDescriptor d → IsDescriptor e → six_digits d ≡ six_digits e → d ≡ e
one_descriptor d e can_d can_e same =
    ap some_of (sym (of_text-six_digits d can_d) ∙ ap of_text same ∙ of_text-six_digits e can_e)

digits_tell : (d e : ℕ) → IsDescriptor d → IsDescriptor e
    → (d == e) ≡ bytes_eq (six_digits d) (six_digits e)
digits_tell d e can_d can_e =
    same_tests (d == e) (bytes_eq (six_digits d) (six_digits e))
    (λ is. (bytes_eq-Decides (six_digits d) (six_digits e)).1 (ap six_digits (eqb-true d e is)))
    (λ is. same_number d e (one_descriptor d e can_d can_e
    ((bytes_eq-Decides (six_digits d) (six_digits e)).0 is)))
  where
    same_number : (x y : ℕ) → x ≡ y → (x == y) ≡ true
    same_number x y e = grind (arith, nat_tests)

-- the line of one field more
line_if : (is : Bool) (f : Field) (fields : List Field) (lines : List (List ℕ))
    → map field_line fields ≡ lines
    → map field_line (if is then f ∷ fields else fields)
    ≡ (if is then field_line f ∷ lines else lines)
line_if true f fields lines rest = ap (λ ls. field_line f ∷ ls) rest
line_if false f fields lines rest = rest

pub lines_with : LinesHaveDescriptors
lines_with d [] can all = refl
lines_with d (f ∷ fields) can all =
    let begins : List ℕ → Bool = λ text. bytes_eq (digits_in text) (six_digits d) in
    let rest = filter begins (map field_line fields) in
    line_if (f.fxy == d) f (fields_with d fields) rest (lines_with d fields can all.1)
    ∙ ap (λ b. if b then field_line f ∷ rest else rest) (digits_tell f.fxy d all.0 can)

-- ---- facts

pub facts_listed : (o : Origin) → FactsAreListed o
unfolding told_number
facts_listed o = record { section1 = refl; time = refl }
