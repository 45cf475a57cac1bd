-- No line of a listing has a line feed, so a listing tells its lines.
use Rattle.std.proofs.Common.{◌≡◌, ℕ, zero, suc, ◌-◌, ◌/◌, ◌%◌, ◌==◌, Bool, true, false, List, []}
use Rattle.std.proofs.Common.{◌∷◌, ◌++◌, length, map, take, drop, replicate, codes, refl, ap, ◌∙◌}
use Rattle.std.proofs.Common.{append_assoc, Option, Some, None, arith}
use Rattle.std.specs.Prelude.{not, decimal, if◌then◌else◌, slice_index, ℤ, pos, negsuc}
use Rattle.std.specs.Char.{is_ascii_digit}
use Rattle.std.specs.Fmt.{digits, digits_onto, digit_glyph}
use Rattle.std.specs.List.{AllByRecursion, flat_map, list_all, slice_split}
use Rattle.std.proofs.lemmas.Bool.{and_parts, not-true}
use Rattle.std.proofs.lemmas.Bool.Decides.{nat_tests}
use Rattle.std.proofs.lemmas.List.Elements.{All-from_recursion}
use Rattle.std.proofs.lemmas.List.Splits.{slice_split_at}
use Rattle.hex.specs.Hex.{encode_lower, encode_with, lower_digits}
use Rattle.bufr_tables.specs.Descriptors.{digit, f_of, six_digits, x_of, y_of}
use Rattle.bufr_fields.specs.DecimalTextLaws.{AreDigits}
use Rattle.bufr_fields.specs.Values.{digits_by, is_missing, text_of, value}
use Rattle.bufr_fields.specs.declared.field.Decimal.{Decimal}
use Rattle.bufr_fields.specs.declared.field.Field.{Field}
use Rattle.bufr_fields.specs.declared.field.Raw.{Raw}
use Rattle.bufr_fields.specs.declared.field.Raw.TheVariants.{Number, Text}
use Rattle.bufr_fields.specs.declared.field.Subset.{Subset}
use Rattle.bufr_sections.specs.declared.message.Message.{Message}
use Rattle.bufr_listing.specs.Listings.{descriptors_line, end_line, field_line, flags_line}
use Rattle.bufr_listing.specs.Listings.{heading_lines, joined, lines_of, listing, local_lines}
use Rattle.bufr_listing.specs.Listings.{number_word, numbers_line, octets_line, quoted_octet}
use Rattle.bufr_listing.specs.Listings.{raw_word, section1_numbers, section2_lines}
use Rattle.bufr_listing.specs.Listings.{is_literal, subset_lines, time_numbers, value_word}
use Rattle.bufr_listing.specs.Listings.{words}

-- ---- octets without a line feed

-- an octet is not among these
abbrev pub Lacks : ℕ → List ℕ → Type 0
Lacks c xs = AllByRecursion (λ x. (x == c) ≡ false) xs

abbrev IsPlain : List ℕ → Type 0
IsPlain xs = Lacks 10 xs

abbrev ArePlain : List (List ℕ) → Type 0
ArePlain ls = AllByRecursion (λ l. IsPlain l) ls

pub literal : (c : ℕ) (xs : List ℕ) → list_all (λ x. not (x == c)) xs ≡ true → Lacks c xs
literal c [] h = tt
literal c (x ∷ xs) h =
    let p = and_parts (not (x == c)) (list_all (λ x. not (x == c)) xs) h in
    (not-true (x == c) p.0, literal c xs p.1)

pub both : {A : Type 0} (P : A → Type 0) (xs ys : List A) → AllByRecursion P xs → AllByRecursion P ys
    → AllByRecursion P (xs ++ ys)
both P [] ys one other = other
both P (x ∷ xs) ys one other = (one.0, both P xs ys one.1 other)

joins : (xs ys : List ℕ) → IsPlain xs → IsPlain ys → IsPlain (xs ++ ys)
joins xs ys one other = both (λ c. (c == 10) ≡ false) xs ys one other

words_plain : (first : List ℕ) (others : List (List ℕ)) → IsPlain first → ArePlain others
    → IsPlain (words first others)
words_plain first others one rest = joins first _ one (spaced others rest)
  where
    spaced : (others : List (List ℕ)) → ArePlain others → IsPlain (flat_map (λ w. 32 ∷ w) others)
    spaced [] rest = tt
    spaced (w ∷ others) rest = (refl, joins w _ rest.0 (spaced others rest.1))

-- ---- digits

last_digit : (n : ℕ) → is_ascii_digit (digit_glyph false (n % 10)) ≡ true
last_digit n = grind (arith, nat_tests)

digits_if : (is : Bool) (k n : ℕ) (after : List ℕ) → AreDigits after
    → AreDigits (digits_onto k 10 false (n / 10) (digit_glyph false (n % 10) ∷ after))
    → AreDigits (if is then digit_glyph false (n % 10) ∷ after
    else digits_onto k 10 false (n / 10) (digit_glyph false (n % 10) ∷ after))
digits_if true k n after all others = (last_digit n, all)
digits_if false k n after all others = others

digits_before : (k n : ℕ) (after : List ℕ) → AreDigits after
    → AreDigits (digits_onto k 10 false n after)
digits_before zero n after all = all
digits_before (suc k) n after all =
    digits_if (n / 10 == 0) k n after all
    (digits_before k (n / 10) (digit_glyph false (n % 10) ∷ after) (last_digit n, all))

pub decimal_digits : (n : ℕ) → AreDigits (decimal n)
unfolding digits
decimal_digits n = digits_before 64 n [] tt

digit_plain : (c : ℕ) → is_ascii_digit c ≡ true → (c == 10) ≡ false
digit_plain c is = grind (arith, nat_tests)

digits_plain : (xs : List ℕ) → AreDigits xs → IsPlain xs
digits_plain [] all = tt
digits_plain (c ∷ xs) all = (digit_plain c all.0, digits_plain xs all.1)

decimal_plain : (n : ℕ) → IsPlain (decimal n)
decimal_plain n = digits_plain (decimal n) (decimal_digits n)

decimals_plain : (ns : List ℕ) → ArePlain (map decimal ns)
decimals_plain [] = tt
decimals_plain (n ∷ ns) = (decimal_plain n, decimals_plain ns)

glyph_plain : (n : ℕ) → (digit n == 10) ≡ false
glyph_plain n = grind (arith, nat_tests)

six_plain : (d : ℕ) → IsPlain (six_digits d)
six_plain d = (
  glyph_plain (f_of d),
  (
    glyph_plain (x_of d / 10),
    (
      glyph_plain (x_of d),
      (glyph_plain (y_of d / 100), (glyph_plain (y_of d / 10), (glyph_plain (y_of d), tt))),
    ),
  ),
)

descriptors_plain : (ds : List ℕ) → ArePlain (map six_digits ds)
descriptors_plain [] = tt
descriptors_plain (d ∷ ds) = (six_plain d, descriptors_plain ds)

-- ---- hexadecimal digits

at_plain : (xs : List ℕ) → IsPlain xs → (n : ℕ) → (slice_index xs n == 10) ≡ false
at_plain [] all n = refl
at_plain (x ∷ xs) all zero = all.0
at_plain (x ∷ xs) all (suc n) = at_plain xs all.1 n

hex_plain : (xs : List ℕ) → IsPlain (encode_lower xs)
unfolding encode_with
hex_plain [] = tt
hex_plain (x ∷ xs) =
    let of = at_plain lower_digits (literal 10 lower_digits refl) in
    (of (x / 16), (of (x % 16), hex_plain xs))

-- ---- values

zeros_plain : (k : ℕ) → IsPlain (replicate k 48)
zeros_plain zero = tt
zeros_plain (suc k) = (refl, zeros_plain k)

take_plain : (k : ℕ) (xs : List ℕ) → IsPlain xs → IsPlain (take k xs)
take_plain zero xs all = tt
take_plain (suc k) [] all = tt
take_plain (suc k) (x ∷ xs) all = (all.0, take_plain k xs all.1)

drop_plain : (k : ℕ) (xs : List ℕ) → IsPlain xs → IsPlain (drop k xs)
drop_plain zero xs all = all
drop_plain (suc k) [] all = tt
drop_plain (suc k) (x ∷ xs) all = drop_plain k xs all.1

zeros_after : (is : Bool) (s n : ℕ)
    → IsPlain (if is then decimal 0 else decimal n ++ replicate (suc s) 48)
zeros_after true s n = decimal_plain 0
zeros_after false s n =
    joins (decimal n) (replicate (suc s) 48) (decimal_plain n) (zeros_plain (suc s))

scaled_plain : (scale : ℤ) (n : ℕ) → IsPlain (digits_by scale n)
scaled_plain (pos zero) n = decimal_plain n
scaled_plain (pos (suc s)) n =
    let k = suc (suc s) - length (decimal n) in
    let ds = replicate k 48 ++ decimal n in
    let all = joins (replicate k 48) (decimal n) (zeros_plain k) (decimal_plain n) in
    joins (take (length ds - suc s) ds) (46 ∷ drop (length ds - suc s) ds)
    (take_plain (length ds - suc s) ds all) (refl, drop_plain (length ds - suc s) ds all)
scaled_plain (negsuc s) n = zeros_after (n == 0) s n

decimal_text_plain : (units scale : ℤ) → IsPlain (text_of (record { units = units; scale = scale }))
decimal_text_plain (pos n) scale = scaled_plain scale n
decimal_text_plain (negsuc n) scale = (refl, scaled_plain scale (suc n))

number_plain : (said : Option Decimal) → IsPlain (number_word said)
number_plain None = tt
number_plain (Some d) = decimal_text_plain d.units d.scale

itself_plain : (c : ℕ) → is_literal c ≡ true → (c == 10) ≡ false
itself_plain c is = grind (arith, nat_tests)

octet_plain : (is : Bool) (c : ℕ) → is_literal c ≡ is
    → IsPlain (if is then c ∷ [] else 92 ∷ encode_lower (c ∷ []))
octet_plain true c is = (itself_plain c is, tt)
octet_plain false c is = (refl, hex_plain (c ∷ []))

octets_plain : (text : List ℕ) → IsPlain (flat_map quoted_octet text)
octets_plain [] = tt
octets_plain (c ∷ text) =
    joins (quoted_octet c) _ (octet_plain (is_literal c) c refl) (octets_plain text)

value_plain : (is : Bool) (f : Field) (raw : Raw)
    → IsPlain (if is then codes "missing" else raw_word f raw)
value_plain true f raw = literal 10 (codes "missing") refl
value_plain false f (Number n) = number_plain (value f)
value_plain false f (Text text) =
    (refl, joins (flat_map quoted_octet text) (34 ∷ []) (octets_plain text) (refl, tt))

-- ---- lines

field_plain : (f : Field) → IsPlain (field_line f)
field_plain f =
    joins (six_digits f.fxy) (32 ∷ value_word f) (six_plain f.fxy)
    (refl, value_plain (is_missing f) f f.raw)

fields_plain : (fields : List Field) → ArePlain (map field_line fields)
fields_plain [] = tt
fields_plain (f ∷ fields) = (field_plain f, fields_plain fields)

subsets_plain : (subsets : List Subset) → ArePlain (flat_map subset_lines subsets)
subsets_plain [] = tt
subsets_plain (s ∷ subsets) =
    let first : ArePlain (subset_lines s) =
    (literal 10 (codes "subset") refl, fields_plain s.fields) in
    both (λ l. IsPlain l) (subset_lines s) (flat_map subset_lines subsets) first
    (subsets_plain subsets)

octets_line_plain : (title octets : List ℕ) → IsPlain title → IsPlain (octets_line title octets)
octets_line_plain title octets plain =
    words_plain title (encode_lower octets ∷ []) plain (hex_plain octets, tt)

local_plain : (octets : List ℕ) → ArePlain (local_lines octets)
local_plain [] = tt
local_plain (x ∷ xs) =
    (octets_line_plain (codes "local1") (x ∷ xs) (literal 10 (codes "local1") refl), tt)

section2_plain : (octets : Option (List ℕ)) → ArePlain (section2_lines octets)
section2_plain None = tt
section2_plain (Some []) = (literal 10 (codes "section2") refl, tt)
section2_plain (Some (x ∷ xs)) =
    (octets_line_plain (codes "section2") (x ∷ xs) (literal 10 (codes "section2") refl), tt)

flags_plain : (observed compressed : Bool) → IsPlain (flags_line observed compressed)
flags_plain false false = literal 10 (flags_line false false) refl
flags_plain true false = literal 10 (flags_line true false) refl
flags_plain false true = literal 10 (flags_line false true) refl
flags_plain true true = literal 10 (flags_line true true) refl

numbers_plain : (title : List ℕ) (ns : List ℕ) → IsPlain title → IsPlain (numbers_line title ns)
numbers_plain title ns plain = words_plain title (map decimal ns) plain (decimals_plain ns)

descriptors_line_plain : (ds : List ℕ) → IsPlain (descriptors_line ds)
descriptors_line_plain ds =
    words_plain (codes "descriptors") (map six_digits ds) (literal 10 (codes "descriptors") refl)
    (descriptors_plain ds)

heading_plain : (m : Message) → ArePlain (heading_lines m)
unfolding heading_lines
heading_plain m =
    let optional = local_lines m.head.local ++ section2_lines m.section2 in
    let own = flags_line m.observed m.compressed ∷ descriptors_line m.descriptors ∷ [] in
    let ends : ArePlain own =
    (flags_plain m.observed m.compressed, (descriptors_line_plain m.descriptors, tt)) in
    let rest : ArePlain (optional ++ own) =
    both (λ l. IsPlain l) optional own
    (both (λ l. IsPlain l) (local_lines m.head.local) (section2_lines m.section2)
    (local_plain m.head.local) (section2_plain m.section2)) ends in (
      literal 10 (codes "message") refl,
      (
        numbers_plain (codes "section1") (section1_numbers m.head)
            (literal 10 (codes "section1") refl),
        (numbers_plain (codes "time") (time_numbers m.head) (literal 10 (codes "time") refl), rest),
      ),
    )

lines_plain : (m : Message) → ArePlain (lines_of m)
unfolding lines_of
lines_plain m =
    let last : ArePlain (end_line ∷ []) = (literal 10 (codes "end") refl, tt) in
    both (λ l. IsPlain l) (heading_lines m ++ flat_map subset_lines m.subsets) (end_line ∷ [])
    (both (λ l. IsPlain l) (heading_lines m) (flat_map subset_lines m.subsets) (heading_plain m)
    (subsets_plain m.subsets)) last

-- ---- listings

-- the lines of a text, and an empty one after the last line feed
abbrev pub lines_in : List ℕ → List (List ℕ)
lines_in text = slice_split (λ c. c == 10) text

cut : (ls : List (List ℕ)) → ArePlain ls → lines_in (joined ls) ≡ ls ++ [] ∷ []
cut [] all = refl
cut (l ∷ ls) all =
    ap lines_in (append_assoc l (10 ∷ []) (joined ls))
    ∙ slice_split_at (λ c. c == 10) l 10 (joined ls)
    (All-from_recursion (λ c. (c == 10) ≡ false) l all.0) refl
    ∙ ap (λ rest. l ∷ rest) (cut ls all.1)

pub lines_listed : (m : Message) → lines_in (listing m) ≡ lines_of m ++ [] ∷ []
unfolding listing
lines_listed m = cut (lines_of m) (lines_plain m)
