-- Splitting joined listings returns the lines of the messages: for `listings_are_read_back`.
use Rattle.std.proofs.Common.{◌≡◌, ℕ, zero, suc, ◌+◌, ◌-◌, ◌/◌, ◌%◌, ◌<◌, ◌≤◌, Bool, true, false}
use Rattle.std.proofs.Common.{List, [], ◌∷◌, ◌++◌, length, map, get_or, codes, refl, sym, ap, ◌∙◌}
use Rattle.std.proofs.Common.{subst, arith, append_assoc}
use Rattle.std.specs.Prelude.{◌==◌, ◌&&◌, decimal, IfSome, Option, Some, None, nat_le, nat_lt}
use Rattle.std.specs.Prelude.{slice_index, pos, ◌+ℤ◌, Ok, if◌then◌else◌}
use Rattle.std.specs.List.{flat_map, list_all, slice_split, AllByRecursion}
use Rattle.std.specs.Str.{bytes_eq}
use Rattle.std.specs.Str.Lines.{lines, lines_of_parts, strip_carriage_return}
use Rattle.std.proofs.lemmas.Bool.{and_parts, leb-true, ltb-true, eqb-true}
use Rattle.std.proofs.lemmas.List.{append-nil}
use Rattle.std.proofs.lemmas.List.Elements.{All-from_recursion, recursion_from_All}
use Rattle.std.proofs.lemmas.List.Splits.{slice_split_at}
use Rattle.hex.specs.Hex.{lower_digits, encode_with, encode_lower}
use Rattle.bufr_tables.specs.Descriptors.{six_digits}
use Rattle.bufr_tables.specs.Entries.{Entries}
use Rattle.bufr_fields.specs.declared.field.Field.{Field}
use Rattle.bufr_fields.specs.declared.field.Subset.{Subset}
use Rattle.bufr_tables.specs.declared.element.Kind.{Kind}
use Rattle.bufr_tables.specs.declared.element.Kind.TheVariants as kinds
use Rattle.bufr_expand.specs.declared.operators.Spec.{Spec}
use Rattle.bufr_expand.specs.Courses.{Course, ends, stops, asks, course}
use Rattle.bufr_fields.specs.declared.field.Raw.{Raw}
use Rattle.bufr_fields.specs.declared.field.Raw.TheVariants.{Number, Text}
use Rattle.bufr_fields.specs.Forms.{number_of, has_form_by, same_spec, matches_spec, items_of}
use Rattle.bufr_fields.specs.Forms.{items_of_all}
use Rattle.bufr_fields.specs.Values.{is_missing, decimal_within}
use Rattle.bufr_listing_reader.proofs.LowerLaws.{LowerLaws}
use Rattle.bufr_fields.specs.DecimalTextLaws.{digits_plain, decimal_digits, text_plain}
use Rattle.bufr_fields.specs.FormLaws.{same_spec_is}
use Rattle.bufr_sections.specs.declared.message.Message.{Message}
use Rattle.bufr_sections.specs.Sections.{AreOctets, HeadFits, IsOctet}
use Rattle.bufr_sections.specs.declared.message.Head.{Head}
use Rattle.bufr_base.specs.AnswerLaws.{bind_ok}
use Rattle.bufr_listing.specs.Listings.{field_line, subset_lines, end_line, lines_of}
use Rattle.bufr_listing.specs.Listings.{flags_line, descriptors_line}
use Rattle.bufr_listing.specs.Listings.{octets_line, local_lines, section2_line, section2_lines}
use Rattle.bufr_listing.specs.Listings.{section1_numbers, time_numbers, numbers_line}
use Rattle.bufr_listing.specs.Listings.{joined, is_literal, quoted_octet, quoted, number_word}
use Rattle.bufr_listing.specs.Listings.{value_word, heading_lines, listing}
use Rattle.bufr_listing_reader.specs.Lines.{texts}
use Rattle.bufr_listing_reader.specs.Lines.{is_skipped, lower_digit, as_printed, has_octets, first_word}
use Rattle.bufr_listing_reader.specs.Lines.{counting_from, counting_lines}
use Rattle.bufr_listing_reader.specs.Lines.{CanBeListed}
use Rattle.bufr_listing_reader.specs.Reading.{section1_limits, time_limits, messages_listed}
use Rattle.bufr_listing_reader.proofs.PrintedFacts.{own_printed}
use Rattle.bufr_listing_reader.proofs.FieldFacts.{other_bytes, if_answered, IsPrintable, size_small}
use Rattle.bufr_listing_reader.proofs.FieldFacts.{number_small}
use Rattle.bufr_listing_reader.proofs.CourseFacts.{AsksPrintable, course_printable}
use Rattle.bufr_listing_reader.proofs.LineFacts.{AreShort, below_short, word_then, six_word}
use Rattle.bufr_listing_reader.proofs.MessageFacts.{head_below, limits_most, time_limits_most}
use Rattle.bufr_listing_reader.proofs.JoinedFacts.{listings_joined}
use Rattle.bufr_listing_reader.proofs.OctetFacts.{passes_at}
use Rattle.bufr_listing_reader.proofs.TextFacts.{listed_read}

-- ---- lines of joined lines

-- the character ends no line
abbrev Printable : ℕ → Type 0
Printable c = 32 ≤ c

abbrev IsPlain : List ℕ → Type 0
IsPlain text = AllByRecursion Printable text

no_end : (c : ℕ) → 32 ≤ c → (c == 10) ≡ false
no_end c h = grind arith

no_ends : (text : List ℕ) → IsPlain text → AllByRecursion (λ c. (c == 10) ≡ false) text
no_ends [] h = tt
no_ends (c ∷ cs) h = (no_end c h.0, no_ends cs h.1)

no_return : (c : ℕ) → 32 ≤ c → (c == 13) ≡ false
no_return c h = grind arith

no_return_at : (text : List ℕ) (i : ℕ) → IsPlain text → (slice_index text i == 13) ≡ false
no_return_at [] i h = refl
no_return_at (c ∷ cs) zero h = no_return c h.0
no_return_at (c ∷ cs) (suc i) h = no_return_at cs i h.1

not_stripped : (text : List ℕ) → IsPlain text → strip_carriage_return text ≡ text
not_stripped text h = rw (no_return_at text (length text - 1) h) refl

split_joined : (ls : List (List ℕ)) → AllByRecursion (λ l. IsPlain l) ls
    → slice_split (λ c. c == 10) (joined ls) ≡ ls ++ [] ∷ []
split_joined [] h = refl
split_joined (l ∷ ls) h =
    ap (slice_split (λ c. c == 10)) (append_assoc l (10 ∷ []) (joined ls))
    ∙ slice_split_at (λ c. c == 10) l 10 (joined ls)
    (All-from_recursion (λ c. (c == 10) ≡ false) l (no_ends l h.0)) refl
    ∙ ap (λ parts. l ∷ parts) (split_joined ls h.1)

parts_back : (ls : List (List ℕ)) → AllByRecursion (λ l. IsPlain l) ls
    → lines_of_parts (ls ++ [] ∷ []) ≡ ls
parts_back [] h = refl
parts_back (x ∷ []) h = ap (λ y. y ∷ []) (not_stripped x h.0)
parts_back (x ∷ y ∷ ls) h = let e = not_stripped x h.0 in λ i. e i ∷ parts_back (y ∷ ls) h.1 i

lines_joined : (ls : List (List ℕ)) → AllByRecursion (λ l. IsPlain l) ls → lines (joined ls) ≡ ls
lines_joined ls h = ap lines_of_parts (split_joined ls h) ∙ parts_back ls h

-- ---- lines that count as they are

-- a line reads as written: plain, not skipped, in lower case if it has octets
record IsShown (text : List ℕ) : Type 0 where
  plain : IsPlain text
  kept : is_skipped text ≡ false
  own : as_printed text ≡ text

plain_lines : (ls : List (List ℕ)) → AllByRecursion (λ l. IsShown l) ls
    → AllByRecursion (λ l. IsPlain l) ls
plain_lines [] h = tt
plain_lines (l ∷ ls) h = (h.0.plain, plain_lines ls h.1)

counted_as_shown : (n : ℕ) (ls : List (List ℕ)) → AllByRecursion (λ l. IsShown l) ls
    → texts (counting_from n ls) ≡ ls
unfolding counting_from
counted_as_shown n [] h = refl
counted_as_shown n (l ∷ ls) h =
    rw h.0.kept (let e = h.0.own in λ i. e i ∷ counted_as_shown (n + 1) ls h.1 i)

all_append : {A : Type 0} (P : A → Type 0) (xs ys : List A) → AllByRecursion P xs
    → AllByRecursion P ys → AllByRecursion P (xs ++ ys)
all_append P [] ys a b = b
all_append P (x ∷ xs) ys a b = (a.0, all_append P xs ys a.1 b)

-- ---- characters

literal_plain : (text : List ℕ) → list_all (λ c. nat_le 32 c) text ≡ true → IsPlain text
literal_plain [] h = tt
literal_plain (c ∷ cs) h = let p = and_parts (nat_le 32 c) (list_all (λ c. nat_le 32 c) cs) h in
    (leb-true 32 c p.0, literal_plain cs p.1)

plain_words : (ws : List (List ℕ)) → AllByRecursion (λ w. IsPlain w) ws
    → IsPlain (flat_map (λ w. 32 ∷ w) ws)
plain_words [] h = tt
plain_words (w ∷ ws) h =
    (omega arith, all_append Printable w (flat_map (λ w. 32 ∷ w) ws) h.0 (plain_words ws h.1))

-- ---- hexadecimal digits

abbrev is_lower : ℕ → Bool
is_lower c = nat_le 32 c && (lower_digit c == c)

-- each octet is below 256
abbrev AreBytes : List ℕ → Type 0
AreBytes os = AllByRecursion (λ x. x < 256) os

digit_shown : (k : ℕ) → k < 16 → (32 ≤ slice_index lower_digits k)
    × (lower_digit (slice_index lower_digits k) ≡ slice_index lower_digits k)
digit_shown k few =
    let c = slice_index lower_digits k in
    let p =
    and_parts (nat_le 32 c) (lower_digit c == c) (passes_at is_lower lower_digits k refl few) in
    (leb-true 32 c p.0, eqb-true (lower_digit c) c p.1)

hex_shown : (os : List ℕ) → AreBytes os → IsPlain (encode_lower os)
    × (map lower_digit (encode_lower os) ≡ encode_lower os)
unfolding encode_with
hex_shown [] h = (tt, refl)
hex_shown (x ∷ xs) h =
    let below = h.0 in
    let high = digit_shown (x / 16) (omega (arith, below)) in
    let low = digit_shown (x % 16) (omega (arith, below)) in
    let others = hex_shown xs h.1 in
    ((high.0, (low.0, others.0)), λ i. high.1 i ∷ low.1 i ∷ others.1 i)

hex_word : (os : List ℕ) → AreBytes os → IsPlain (encode_lower os ++ [])
    × (map lower_digit (encode_lower os ++ []) ≡ encode_lower os ++ [])
hex_word os h =
    subst (λ e. IsPlain e × (map lower_digit e ≡ e)) (sym (append-nil (encode_lower os)))
    (hex_shown os h)

local_shown : (os : List ℕ) → AreBytes os → IsShown (octets_line (codes "local1") os)
local_shown os h =
    let p = hex_word os h in
    record {
      plain = all_append Printable (codes "local1") (32 ∷ encode_lower os ++ [])
          (literal_plain (codes "local1") refl) (omega arith, p.0);
      kept = refl;
      own =
          ap (λ e. codes "local1" ++ 32 ∷ e) p.1;
    }

section2_shown : (os : List ℕ) → AreBytes os → IsShown (section2_line os)
section2_shown [] h = record {
  plain = literal_plain (codes "section2") refl;
  kept = refl;
  own =
      refl;
}
section2_shown (x ∷ xs) h =
    let p = hex_word (x ∷ xs) h in
    record {
      plain = all_append Printable (codes "section2") (32 ∷ encode_lower (x ∷ xs) ++ [])
          (literal_plain (codes "section2") refl) (omega arith, p.0);
      kept = refl;
      own =
          ap (λ e. codes "section2" ++ 32 ∷ e) p.1;
    }

locals_shown : (os : List ℕ) → AreBytes os → AllByRecursion (λ l. IsShown l) (local_lines os)
locals_shown [] h = tt
locals_shown (x ∷ xs) h = (local_shown (x ∷ xs) h, tt)

sections_shown : (two : Option (List ℕ)) → IfSome two AreOctets → AllByRecursion (λ l. IsShown l)
    (section2_lines two)
sections_shown None h = tt
sections_shown (Some os) h = (section2_shown os (recursion_from_All IsOctet os h), tt)

-- ---- numbers, flags, descriptors

decimals_plain : (ns : List ℕ) → AreShort ns → AllByRecursion (λ w. IsPlain w) (map decimal ns)
decimals_plain [] h = tt
decimals_plain (n ∷ ns) h =
    (digits_plain (decimal n) (decimal_digits n h.0), decimals_plain ns h.1)

flags_shown : (observed compressed : Bool) → IsShown (flags_line observed compressed)
flags_shown false false =
    record { plain = literal_plain (flags_line false false) refl; kept = refl; own = refl }
flags_shown true false =
    record { plain = literal_plain (flags_line true false) refl; kept = refl; own = refl }
flags_shown false true =
    record { plain = literal_plain (flags_line false true) refl; kept = refl; own = refl }
flags_shown true true =
    record { plain = literal_plain (flags_line true true) refl; kept = refl; own = refl }

six_plain : (d : ℕ) → IsPlain (six_digits d)
six_plain d =
    (omega arith, (omega arith, (omega arith, (omega arith, (omega arith, (omega arith, tt))))))

sixes_plain : (ds : List ℕ) → AllByRecursion (λ w. IsPlain w) (map six_digits ds)
sixes_plain [] = tt
sixes_plain (d ∷ ds) = (six_plain d, sixes_plain ds)

descriptors_shown : (ds : List ℕ) → 0 < length ds → IsShown (descriptors_line ds)
descriptors_shown [] some = absurd (omega arith)
descriptors_shown (d ∷ ds) some =
    record {
      plain = all_append Printable (codes "descriptors")
          (flat_map (λ w. 32 ∷ w) (map six_digits (d ∷ ds)))
          (literal_plain (codes "descriptors") refl)
          (plain_words (map six_digits (d ∷ ds)) (sixes_plain (d ∷ ds)));
      kept = refl;
      own = refl;
    }

-- ---- fields

octet_plain : (c : ℕ) → c < 256 → IsPlain (quoted_octet c)
octet_plain c small = by_test (is_literal c)
    (λ e. leb-true 32 c (and_parts _ _ (and_parts _ _ (and_parts _ _ e).0).0).0)
  where
    by_test : (b : Bool) → (b ≡ true → 32 ≤ c)
        → IsPlain (if b then c ∷ [] else 92 ∷ encode_lower (c ∷ []))
    by_test true low = (low refl, tt)
    by_test false low = (omega arith, (hex_shown (c ∷ []) (small, tt)).0)

quoted_plain : (os : List ℕ) → AreBytes os → IsPlain (flat_map quoted_octet os ++ 34 ∷ [])
quoted_plain [] h = (omega arith, tt)
quoted_plain (c ∷ os) h =
    subst IsPlain
    (sym (append_assoc (quoted_octet c) (flat_map quoted_octet os) (34 ∷ [])))
    (all_append Printable (quoted_octet c) (flat_map quoted_octet os ++ 34 ∷ [])
    (octet_plain c h.0) (quoted_plain os h.1))

number_plain : (missing : Bool) (spec : Spec) (n : ℕ) → IsPrintable spec → n < 18446744073709551616
    → IsPlain (if missing then codes "missing" else number_word
    (if missing then None else decimal_within (pos n +ℤ spec.reference) spec.scale))
number_plain true spec n fit small = literal_plain (codes "missing") refl
number_plain false spec n fit small =
    rw fit.scale (text_plain (pos n +ℤ spec.reference) spec.scale
    (size_small n spec.reference small fit.reference))

text_word_plain : (missing : Bool) (os : List ℕ) → AreBytes os
    → IsPlain (if missing then codes "missing" else quoted os)
text_word_plain true os small = literal_plain (codes "missing") refl
text_word_plain false os small = (omega arith, quoted_plain os small)

bytes_of : (os : List ℕ) → list_all (λ x. nat_lt x 256) os ≡ true → AreBytes os
bytes_of [] h = tt
bytes_of (x ∷ xs) h = let p = and_parts (nat_lt x 256) (list_all (λ x. nat_lt x 256) xs) h in
    (ltb-true x 256 p.0, bytes_of xs p.1)

value_plain : (d : ℕ) (kind : Kind) (spec : Spec) (raw : Raw)
    → has_form_by kind spec.width raw ≡ true → IsPrintable spec
    → IsPlain (value_word (record { fxy = d; spec = record spec { kind = kind }; raw = raw }))
value_plain d kinds.Text spec (Number n) form fit = absurd cc
value_plain d kinds.Text spec (Text os) form fit =
    let own : Spec = record spec { kind = kinds.Text } in
    text_word_plain (is_missing (record { fxy = d; spec = own; raw = Text os })) os
    (bytes_of os (and_parts (length os == spec.width / 8) (list_all (λ x. nat_lt x 256) os) form).1)
value_plain d kind spec (Text os) form fit = absurd cc
value_plain d kind spec (Number n) form fit =
    let own : Spec = record spec { kind = kind } in
    number_plain (is_missing (record { fxy = d; spec = own; raw = Number n })) spec n fit
    (number_small spec.width n form)

six_not_skipped : (d : ℕ) (rest : List ℕ) → is_skipped (six_digits d ++ rest) ≡ false
six_not_skipped d rest = grind arith

not_l : (d : ℕ) (rest : List ℕ) → six_digits d ≡ 108 ∷ rest → ⊥
not_l d rest e = let same = ap (λ xs. get_or xs 0 0) e in omega (arith, same)

not_s : (d : ℕ) (rest : List ℕ) → six_digits d ≡ 115 ∷ rest → ⊥
not_s d rest e = let same = ap (λ xs. get_or xs 0 0) e in omega (arith, same)

pub field_plain : (d : ℕ) (word : List ℕ) → has_octets (six_digits d ++ 32 ∷ word) ≡ false
field_plain d word =
    let first : first_word (six_digits d ++ 32 ∷ word) ≡ six_digits d =
    ap (λ (ws : List (List ℕ)). get_or ws 0 []) (word_then (six_digits d) word (six_word d)) in
    by_first (six_digits d ++ 32 ∷ word) (ap (λ w. bytes_eq w (codes "local1")) first
    ∙ other_bytes (six_digits d) (codes "local1") (not_l d _))
    (ap (λ w. bytes_eq w (codes "section2")) first ∙ other_bytes (six_digits d) (codes "section2")
    (not_s d _))
  where
    by_first : (text : List ℕ) → bytes_eq (first_word text) (codes "local1") ≡ false
        → bytes_eq (first_word text) (codes "section2") ≡ false → has_octets text ≡ false
    by_first text a b = rw (a, b) refl

pub field_own : (d : ℕ) (word : List ℕ) → as_printed (six_digits d ++ 32 ∷ word)
    ≡ six_digits d ++ 32 ∷ word
field_own d word = own_printed (six_digits d ++ 32 ∷ word) (field_plain d word)

field_shown : (f : Field) → has_form_by f.spec.kind f.spec.width f.raw ≡ true → IsPrintable f.spec
    → IsShown (field_line f)
field_shown f form fit = record {
  plain = all_append Printable (six_digits f.fxy) (32 ∷ value_word f) (six_plain f.fxy)
      (omega arith, value_plain f.fxy f.spec.kind f.spec f.raw form fit);
  kept = six_not_skipped f.fxy (32 ∷ value_word f);
  own = field_own f.fxy (value_word f);
}

asked_shown : (d : ℕ) (spec : Spec) (f : Field) → IsPrintable spec → matches_spec d spec f ≡ true
    → IsShown (field_line f)
asked_shown d spec f fit stands =
    let p = and_parts (f.fxy == d && same_spec f.spec spec)
    (has_form_by spec.kind spec.width f.raw) stands in
    let own = same_spec_is f.spec spec (and_parts (f.fxy == d) (same_spec f.spec spec) p.0).1 in
    field_shown f (subst (λ (s : Spec). has_form_by s.kind s.width f.raw ≡ true) (sym own) p.1)
    (subst IsPrintable (sym own) fit)

fields_shown : (j i : ℕ) (c : Course) (fields : List Field) (n : ℕ) → AsksPrintable c
    → items_of j i c fields ≡ Ok n → AllByRecursion (λ l. IsShown l) (map field_line fields)
unfolding items_of AsksPrintable
fields_shown j i (ends m) [] n fit h = tt
fields_shown j i (ends m) (f ∷ fields) n fit h = absurd cc
fields_shown j i (stops met fault) fields n fit h = absurd cc
fields_shown j i (asks met d spec more) [] n fit h = absurd cc
fields_shown j i (asks met d spec more) (f ∷ fields) n fit h =
    let p =
    if_answered (matches_spec d spec f) (items_of j (i + 1) (more (number_of f.raw)) fields) _ n
    h in (
      asked_shown d spec f fit.0 p.0,
      fields_shown j (i + 1) (more (number_of f.raw)) fields n
          (fit.1 (number_of f.raw)) p.1,
    )

subsets_shown : (j used : ℕ) (course : ℕ → Course) (subsets : List Subset) (n : ℕ)
    → ((k : ℕ) → AsksPrintable (course k)) → items_of_all course j used subsets ≡ Ok n
    → AllByRecursion (λ l. IsShown l) (flat_map subset_lines subsets)
unfolding items_of_all
subsets_shown j used course [] n fit h = tt
subsets_shown j used course (s ∷ subsets) n fit h =
    let p = bind_ok (items_of j 1 (course used) s.fields) _ n h in (
      record { plain = literal_plain (codes "subset") refl; kept = refl; own = refl },
      all_append IsShown (map field_line s.fields) (flat_map subset_lines subsets)
          (fields_shown j 1 (course used) s.fields p.0 (fit used) p.1)
          (subsets_shown (j + 1) p.0 course subsets n fit p.2),
    )

-- ---- messages

short_plain : (title ns : List ℕ) → list_all (λ c. nat_le 32 c) title ≡ true → AreShort ns
    → IsPlain (numbers_line title ns)
short_plain title ns literal small =
    all_append Printable title (flat_map (λ w. 32 ∷ w) (map decimal ns))
    (literal_plain title literal) (plain_words (map decimal ns) (decimals_plain ns small))

head_shown : (h : Head) → HeadFits h
    → IsShown (numbers_line (codes "section1") (section1_numbers h)) × IsShown
    (numbers_line (codes "time") (time_numbers h))
head_shown h fits =
    let below = head_below h fits in
    let numbers = below_short section1_limits (section1_numbers h) limits_most below.0 in
    let time = below_short time_limits (time_numbers h) time_limits_most below.1 in (
      record {
        plain = short_plain (codes "section1") (section1_numbers h) refl numbers;
        kept = refl;
        own = refl;
      },
      record {
        plain = short_plain (codes "time") (time_numbers h) refl time;
        kept = refl;
        own = refl;
      },
    )

heading_shown : (m : Message) → HeadFits m.head → IfSome m.section2 AreOctets
    → 0 < length m.descriptors → AllByRecursion (λ l. IsShown l) (heading_lines m)
unfolding heading_lines
heading_shown m fits octets some =
    let numbers = head_shown m.head fits in
    let first : IsShown (codes "message") =
    record { plain = literal_plain (codes "message") refl; kept = refl; own = refl } in
    let local = locals_shown m.head.local (recursion_from_All IsOctet m.head.local fits.local) in
    let flags = flags_line m.observed m.compressed in
    let last : AllByRecursion (λ l. IsShown l) (flags ∷ descriptors_line m.descriptors ∷ []) =
    (flags_shown m.observed m.compressed, (descriptors_shown m.descriptors some, tt)) in
    let optional =
    all_append IsShown (local_lines m.head.local) (section2_lines m.section2) local
    (sections_shown m.section2 octets) in
    let others =
    all_append IsShown (local_lines m.head.local ++ section2_lines m.section2)
    (flags ∷ descriptors_line m.descriptors ∷ []) optional last in
    (first, (numbers.0, (numbers.1, others)))

message_shown : LowerLaws → (tables : Entries) (m : Message) → CanBeListed tables m
    → AllByRecursion (λ l. IsShown l) (lines_of m)
unfolding lines_of
message_shown laws tables m can =
    let heading = heading_shown m can.head can.section2 can.some_descriptor in
    let subsets =
    subsets_shown 1 0 (course can.tree) m.subsets can.items
    (λ n. course_printable laws.specs can.tree n)
    (laws.counted can.tree 1 0 can.items m.subsets can.fit) in
    let last : IsShown end_line =
    record { plain = literal_plain end_line refl; kept = refl; own = refl } in
    all_append IsShown (heading_lines m ++ flat_map subset_lines m.subsets)
    (end_line ∷ []) (all_append IsShown (heading_lines m)
    (flat_map subset_lines m.subsets) heading subsets) (last, tt)

messages_shown : LowerLaws → (tables : Entries) (messages : List Message)
    → AllByRecursion (λ m. CanBeListed tables m) messages → AllByRecursion (λ l. IsShown l)
    (flat_map lines_of messages)
messages_shown laws tables [] h = tt
messages_shown laws tables (m ∷ messages) h =
    all_append IsShown (lines_of m) (flat_map lines_of messages) (message_shown laws tables m h.0)
    (messages_shown laws tables messages h.1)

-- ---- reading back

pub listing_read_back : LowerLaws → (tables : Entries) (messages : List Message)
    → AllByRecursion (λ m. CanBeListed tables m) messages
    → messages_listed tables (flat_map listing messages) ≡ Ok messages
listing_read_back laws tables messages each =
    let shown = messages_shown laws tables messages each in
    let all = flat_map lines_of messages in
    let own : texts (counting_lines (flat_map listing messages)) ≡ all =
    ap (λ text. texts (counting_lines text)) (listings_joined messages)
    ∙ ap (λ ls. texts (counting_from 1 ls)) (lines_joined all (plain_lines all shown))
    ∙ counted_as_shown 1 all shown in
    listed_read laws tables (flat_map listing messages) messages
    (record { spelled = own; each = each })
