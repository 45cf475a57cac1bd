-- The rows of a message are made from what the lines of its listing tell.
use Rattle.std.proofs.Common.{◌≡◌, ℕ, ◌+◌, ◌==◌, Bool, true, false, List, [], ◌∷◌, ◌++◌, map, drop}
use Rattle.std.proofs.Common.{get_or, codes, refl, sym, ap, ◌∙◌, append_assoc, Option, Some, None, arith}
use Rattle.std.specs.Prelude.{◌||◌, not, decimal, if◌then◌else◌}
use Rattle.std.specs.Char.{is_ascii_digit}
use Rattle.std.specs.Int.{from_bool}
use Rattle.std.specs.List.{AllByRecursion, flat_map, onto_first, slice_split}
use Rattle.std.specs.Str.{bytes_eq}
use Rattle.std.proofs.lemmas.Bool.Decides.{nat_tests}
use Rattle.std.proofs.lemmas.List.{append-nil, append_cancel_right}
use Rattle.std.proofs.lemmas.List.Elements.{All-from_recursion}
use Rattle.std.proofs.lemmas.List.Splits.{slice_split-cons_no, slice_split_at, slice_split_none}
use Rattle.csv.specs.Writing.{default_writer, row_text}
use Rattle.bufr_tables.specs.Descriptors.{IsDescriptor, digit, f_of}
use Rattle.bufr_fields.specs.DecimalTextLaws.{AreDigits}
use Rattle.bufr_fields.specs.declared.field.Field.{Field}
use Rattle.bufr_fields.specs.declared.field.Subset.{Subset}
use Rattle.bufr_sections.specs.declared.message.Message.{Message}
use Rattle.bufr_listing.specs.Listings.{descriptors_line, end_line, field_line, flags_line}
use Rattle.bufr_listing.specs.Listings.{heading_lines, lines_of, local_lines, section1_numbers}
use Rattle.bufr_listing.specs.Listings.{section2_lines, subset_lines, time_numbers, words}
use Rattle.bufr_select_rows.specs.ListedCells.{LinesDetermineRows}
use Rattle.bufr_select_rows.specs.MessageRows.{subsets_rows}
use Rattle.bufr_select_rows.specs.Rows.{Origin, before_each, cell_text, row, rows, spans, told_number}
use Rattle.bufr_select_rows.specs.declared.column.Column.{Column}
use Rattle.bufr_select_rows.specs.declared.column.Column.TheVariants as columns
use Rattle.bufr_select_rows.specs.declared.fact.Fact.{Fact}
use Rattle.bufr_select_rows.specs.declared.fact.Fact.TheVariants as told
use Rattle.bufr_select_engine.specs.Listed.{ListingsDetermineRows}
use Rattle.bufr_select_engine.specs.Selected.{from_message}
use Rattle.bufr_select_engine.proofs.PlainLines.{Lacks, decimal_digits, lines_in, lines_listed, literal}

-- ---- the words of a line of numbers

abbrev words_in : List ℕ → List (List ℕ)
words_in text = slice_split (λ c. c == 32) text

abbrev IsWord : List ℕ → Type 0
IsWord w = Lacks 32 w

digit_no_space : (c : ℕ) → is_ascii_digit c ≡ true → (c == 32) ≡ false
digit_no_space c is = grind (arith, nat_tests)

digits_word : (xs : List ℕ) → AreDigits xs → IsWord xs
digits_word [] all = tt
digits_word (c ∷ xs) all = (digit_no_space c all.0, digits_word xs all.1)

words_cut : (w : List ℕ) (ns : List ℕ) → IsWord w
    → words_in (words w (map decimal ns)) ≡ w ∷ map decimal ns
words_cut w [] word =
    ap words_in (append-nil w)
    ∙ slice_split_none (λ c. c == 32) w (All-from_recursion (λ c. (c == 32) ≡ false) w word)
words_cut w (n ∷ ns) word =
    slice_split_at (λ c. c == 32) w 32 (words (decimal n) (map decimal ns))
    (All-from_recursion (λ c. (c == 32) ≡ false) w word) refl
    ∙ ap (λ ws. w ∷ ws) (words_cut (decimal n) ns (digits_word (decimal n) (decimal_digits n)))

abbrev numbers_of : List ℕ → List (List ℕ)
numbers_of text = drop 1 (words_in text)

section1_told : (ns : List ℕ) → numbers_of (words (codes "section1") (map decimal ns)) ≡ map decimal ns
section1_told ns =
    ap (drop 1) (words_cut (codes "section1") ns (literal 32 (codes "section1") refl))

time_told : (ns : List ℕ) → numbers_of (words (codes "time") (map decimal ns)) ≡ map decimal ns
time_told ns = ap (drop 1) (words_cut (codes "time") ns (literal 32 (codes "time") refl))

-- ---- the line of flags

abbrev says_observed : List ℕ → Bool
says_observed text = bytes_eq text (flags_line true false) || bytes_eq text (flags_line true true)

abbrev says_compressed : List ℕ → Bool
says_compressed text = bytes_eq text (flags_line false true) || bytes_eq text (flags_line true true)

observed_told : (observed compressed : Bool) → says_observed (flags_line observed compressed) ≡ observed
observed_told false false = refl
observed_told true false = refl
observed_told false true = refl
observed_told true true = refl

compressed_told : (observed compressed : Bool)
    → says_compressed (flags_line observed compressed) ≡ compressed
compressed_told false false = refl
compressed_told true false = refl
compressed_told false true = refl
compressed_told true true = refl

-- the lines from the first with an `f` on
abbrev from_flags : List (List ℕ) → List (List ℕ)
from_flags [] = []
from_flags (l ∷ ls) = if get_or l 0 0 == 102 then l ∷ ls else from_flags ls

flags_first : (local : List ℕ) (section2 : Option (List ℕ)) (observed compressed : Bool)
    (descriptors : List ℕ) (subsets ending last : List (List ℕ))
    → from_flags (local_lines local ++ section2_lines section2
    ++ flags_line observed compressed ∷ descriptors ∷ [] ++ subsets ++ ending ++ last)
    ≡ flags_line observed compressed ∷ descriptors ∷ (subsets ++ ending ++ last)
flags_first [] None observed compressed descriptors subsets ending last = refl
flags_first [] (Some []) observed compressed descriptors subsets ending last = refl
flags_first [] (Some (y ∷ ys)) observed compressed descriptors subsets ending last = refl
flags_first (x ∷ xs) None observed compressed descriptors subsets ending last = refl
flags_first (x ∷ xs) (Some []) observed compressed descriptors subsets ending last = refl
flags_first (x ∷ xs) (Some (y ∷ ys)) observed compressed descriptors subsets ending last = refl

-- ---- the lines of subsets

-- a line that begins with no digit
abbrev is_between : List ℕ → Bool
is_between text = not (is_ascii_digit (get_or text 0 0))

first_digit : (n : ℕ) → not (is_ascii_digit (digit n)) ≡ false
first_digit n = grind (arith, nat_tests)

fields_within : (fields : List Field)
    → AllByRecursion (λ l. is_between l ≡ false) (map field_line fields)
fields_within [] = tt
fields_within (f ∷ fields) = (first_digit (f_of f.fxy), fields_within fields)

split_onto : (xs rest : List (List ℕ)) (parts : List (List (List ℕ)))
    → AllByRecursion (λ l. is_between l ≡ false) xs → slice_split is_between rest ≡ [] ∷ parts
    → slice_split is_between (xs ++ rest) ≡ xs ∷ parts
split_onto [] rest parts all is = is
split_onto (x ∷ xs) rest parts all is =
    slice_split-cons_no is_between x (xs ++ rest) all.0
    ∙ ap (onto_first x) (split_onto xs rest parts all.1 is)

abbrev lines_by_subset : List Subset → List (List (List ℕ))
lines_by_subset subsets = map (λ s. map field_line s.fields) subsets

subsets_cut : (subsets : List Subset)
    → slice_split is_between (flat_map subset_lines subsets ++ end_line ∷ [] ∷ [])
    ≡ [] ∷ (lines_by_subset subsets ++ [] ∷ [] ∷ [])
subsets_cut [] = refl
subsets_cut (s ∷ subsets) =
    let rest = flat_map subset_lines subsets ++ end_line ∷ [] ∷ [] in
    ap (λ ls. [] ∷ slice_split is_between ls)
    (append_assoc (map field_line s.fields) (flat_map subset_lines subsets) (end_line ∷ [] ∷ []))
    ∙ ap (λ parts. [] ∷ parts)
    (split_onto (map field_line s.fields) rest (lines_by_subset subsets ++ [] ∷ [] ∷ [])
    (fields_within s.fields) (subsets_cut subsets))

-- ---- what a listing tells

abbrev section1_in : List (List ℕ) → List (List ℕ)
section1_in ls = numbers_of (get_or ls 1 [])

abbrev time_in : List (List ℕ) → List (List ℕ)
time_in ls = numbers_of (get_or ls 2 [])

abbrev flags_in : List (List ℕ) → List ℕ
flags_in ls = get_or (from_flags (drop 3 ls)) 0 []

abbrev subsets_in : List (List ℕ) → List (List (List ℕ))
subsets_in ls = drop 1 (slice_split is_between (drop 2 (from_flags (drop 3 ls))))

-- the lines of a listing and the empty one after its last line feed
abbrev all_lines : Message → List (List ℕ)
all_lines m = lines_of m ++ [] ∷ []

section1_listed : (m : Message)
    → section1_in (all_lines m) ≡ map decimal (section1_numbers m.head)
unfolding lines_of heading_lines
section1_listed m = section1_told (section1_numbers m.head)

time_listed : (m : Message) → time_in (all_lines m) ≡ map decimal (time_numbers m.head)
unfolding lines_of heading_lines
time_listed m = time_told (time_numbers m.head)

after_heading : (m : Message) → from_flags (drop 3 (all_lines m))
    ≡ flags_line m.observed m.compressed ∷ descriptors_line m.descriptors
    ∷ (flat_map subset_lines m.subsets ++ end_line ∷ [] ++ [] ∷ [])
unfolding lines_of heading_lines
after_heading m =
    flags_first m.head.local m.section2 m.observed m.compressed (descriptors_line m.descriptors)
    (flat_map subset_lines m.subsets) (end_line ∷ []) ([] ∷ [])

flags_listed : (m : Message) → flags_in (all_lines m) ≡ flags_line m.observed m.compressed
flags_listed m = ap (λ (ls : List (List ℕ)). get_or ls 0 []) (after_heading m)

subsets_listed : (m : Message)
    → subsets_in (all_lines m) ≡ lines_by_subset m.subsets ++ [] ∷ [] ∷ []
subsets_listed m =
    ap (λ ls. drop 1 (slice_split is_between (drop 2 ls))) (after_heading m)
    ∙ ap (λ ls. drop 1 (slice_split is_between ls))
    (append_assoc (flat_map subset_lines m.subsets) (end_line ∷ []) ([] ∷ []))
    ∙ ap (drop 1) (subsets_cut m.subsets)

-- what rows are made from
record AreAlike (m n : Message) : Type 0 where
  section1 : map decimal (section1_numbers m.head) ≡ map decimal (section1_numbers n.head)
  time : map decimal (time_numbers m.head) ≡ map decimal (time_numbers n.head)
  observed : m.observed ≡ n.observed
  compressed : m.compressed ≡ n.compressed
  subsets : lines_by_subset m.subsets ≡ lines_by_subset n.subsets

alike_if : (m n : Message) → all_lines m ≡ all_lines n → AreAlike m n
alike_if m n same =
    let flags : flags_line m.observed m.compressed ≡ flags_line n.observed n.compressed =
    sym (flags_listed m) ∙ ap flags_in same ∙ flags_listed n in
    record {
      section1 = sym (section1_listed m) ∙ ap section1_in same ∙ section1_listed n;
      time = sym (time_listed m) ∙ ap time_in same ∙ time_listed n;
      observed =
          sym (observed_told m.observed m.compressed) ∙ ap says_observed flags
          ∙ observed_told n.observed n.compressed;
      compressed =
          sym (compressed_told m.observed m.compressed) ∙ ap says_compressed flags
          ∙ compressed_told n.observed n.compressed;
      subsets =
          append_cancel_right (lines_by_subset m.subsets) (lines_by_subset n.subsets)
          ([] ∷ [] ∷ []) (sym (subsets_listed m) ∙ ap subsets_in same ∙ subsets_listed n);
    }

-- ---- rows

-- facts with the same numbers
abbrev TellAlike : Origin → Origin → Type 0
TellAlike o p = (fact : Fact) → decimal (told_number fact o) ≡ decimal (told_number fact p)

cell_alike : (o p : Origin) → TellAlike o p → (before span : List Field) (column : Column)
    → cell_text o before span column ≡ cell_text p before span column
cell_alike o p same before span (columns.Fact fact) = same fact
cell_alike o p same before span (columns.First d) = refl
cell_alike o p same before span (columns.Nth d n) = refl

row_alike : (all : List Column) (o p : Origin) → TellAlike o p → (before span : List Field)
    → row all o before span ≡ row all p before span
row_alike all o p same before span =
    (λ i. row_text default_writer (map (λ column. cell_alike o p same before span column i) all))

rows_alike : (all : List Column) (each : Option ℕ) (o p : Origin) → TellAlike o p
    → (fields : List Field) → rows all each o fields ≡ rows all each p fields
rows_alike all None o p same fields = row_alike all o p same [] fields
rows_alike all (Some each) o p same fields =
    (λ i. flat_map (λ span. row_alike all o p same (before_each each fields) span i)
    (spans each fields))

abbrev from_subset : ℕ → ℕ → ℕ → Message → ℕ → Origin
from_subset input number place m subset =
    record (from_message input number place m) { subset = subset }

told_alike : (input number place subset : ℕ) (m n : Message) → AreAlike m n
    → TellAlike (from_subset input number place m subset) (from_subset input number place n subset)
unfolding told_number
told_alike input number place subset m n same told.Input = refl
told_alike input number place subset m n same told.Message = refl
told_alike input number place subset m n same told.Place = refl
told_alike input number place subset m n same told.Subset = refl
told_alike input number place subset m n same told.Centre =
    ap (λ (ls : List (List ℕ)). get_or ls 0 []) same.section1
told_alike input number place subset m n same told.SubCentre =
    ap (λ (ls : List (List ℕ)). get_or ls 1 []) same.section1
told_alike input number place subset m n same told.Update =
    ap (λ (ls : List (List ℕ)). get_or ls 2 []) same.section1
told_alike input number place subset m n same told.Category =
    ap (λ (ls : List (List ℕ)). get_or ls 3 []) same.section1
told_alike input number place subset m n same told.International =
    ap (λ (ls : List (List ℕ)). get_or ls 4 []) same.section1
told_alike input number place subset m n same told.LocalCategory =
    ap (λ (ls : List (List ℕ)). get_or ls 5 []) same.section1
told_alike input number place subset m n same told.MasterVersion =
    ap (λ (ls : List (List ℕ)). get_or ls 6 []) same.section1
told_alike input number place subset m n same told.LocalVersion =
    ap (λ (ls : List (List ℕ)). get_or ls 7 []) same.section1
told_alike input number place subset m n same told.Year =
    ap (λ (ls : List (List ℕ)). get_or ls 0 []) same.time
told_alike input number place subset m n same told.Month =
    ap (λ (ls : List (List ℕ)). get_or ls 1 []) same.time
told_alike input number place subset m n same told.Day =
    ap (λ (ls : List (List ℕ)). get_or ls 2 []) same.time
told_alike input number place subset m n same told.Hour =
    ap (λ (ls : List (List ℕ)). get_or ls 3 []) same.time
told_alike input number place subset m n same told.Minute =
    ap (λ (ls : List (List ℕ)). get_or ls 4 []) same.time
told_alike input number place subset m n same told.Second =
    ap (λ (ls : List (List ℕ)). get_or ls 5 []) same.time
told_alike input number place subset m n same told.Observed =
    ap (λ b. decimal (from_bool b)) same.observed
told_alike input number place subset m n same told.Compressed =
    ap (λ b. decimal (from_bool b)) same.compressed

-- the rows of subsets with the same lines
subsets_alike : LinesDetermineRows → (all : List Column) (each : Option ℕ)
    (input number place : ℕ) (m n : Message) → AreAlike m n → (k : ℕ) (ss ts : List Subset)
    → AllByRecursion (λ s. AllByRecursion (λ f. IsDescriptor f.fxy) s.fields) ss
    → AllByRecursion (λ s. AllByRecursion (λ f. IsDescriptor f.fxy) s.fields) ts
    → lines_by_subset ss ≡ lines_by_subset ts
    → subsets_rows each all (from_message input number place m) k ss
    ≡ subsets_rows each all (from_message input number place n) k ts
subsets_alike law all each input number place m n same k [] [] can_s can_t lines = refl
subsets_alike law all each input number place m n same k [] (t ∷ ts) can_s can_t lines = absurd cc
subsets_alike law all each input number place m n same k (s ∷ ss) [] can_s can_t lines = absurd cc
subsets_alike law all each input number place m n same k (s ∷ ss) (t ∷ ts) can_s can_t lines =
    let o = from_subset input number place m k in
    let p = from_subset input number place n k in
    let one = law all each o s.fields t.fields can_s.0 can_t.0
    (ap (λ (ls : List (List (List ℕ))). get_or ls 0 []) lines)
    ∙ rows_alike all each o p (told_alike input number place k m n same) t.fields in
    let rest = subsets_alike law all each input number place m n same (k + 1) ss ts can_s.1 can_t.1
    (ap (drop 1) lines) in
    (λ i. one i ++ rest i)

pub listings_determine : LinesDetermineRows → ListingsDetermineRows
listings_determine law s input number place m n can_m can_n same =
    let lines = sym (lines_listed m) ∙ ap lines_in same ∙ lines_listed n in
    let alike = alike_if m n lines in
    subsets_alike law s.columns s.each input number place m n alike 1 m.subsets n.subsets can_m can_n
    alike.subsets
