-- The fields of rows are plain, so a row parts at its commas into them: the law
-- `rows_part_into_fields`.
use Rattle.std.proofs.Common.{◌≡◌, ℕ, zero, suc, ◌+◌, ◌/◌, ◌%◌, ◌<◌, ◌≤◌, cond, Bool, true, false}
use Rattle.std.proofs.Common.{◌&&◌, List, [], ◌∷◌, ◌++◌, Result, Ok, Err, refl, ap, ◌∙◌, arith}
use Rattle.std.proofs.Common.{map, get_or, length}
use Rattle.std.specs.Prelude.{◌==◌, ◌||◌, not, codes, decimal}
use Rattle.std.specs.Fmt.{digits, digits_onto, digit_glyph}
use Rattle.std.specs.Int.{from_bool}
use Rattle.std.specs.List.{flat_map, join_by, list_all}
use Rattle.std.specs.Cmp.Derive.{both_true}
use Rattle.std.proofs.lemmas.Bool.{lt-ltb, ne_eqb}
use Rattle.std.proofs.lemmas.List.{append-nil}
use Rattle.std.proofs.lemmas.List.Folds.{list_all-append}
use Rattle.std.proofs.lemmas.List.Splits.{slice_split_at, slice_split_none}
use Rattle.bufr_tables.specs.Descriptors.{digit, f_of, six_digits, x_of, y_of}
use Rattle.bufr_sections.specs.Causes.{is_of_sections}
use Rattle.bufr_sections.specs.Reasons.{reason}
use Rattle.bufr_sections.specs.SectionLaws.{SectionsRefusedForTheirs}
use Rattle.bufr_sections.specs.Sections.{Envelope, envelope_of}
use Rattle.bufr_sections.specs.declared.fault.Refused.{Refused}
use Rattle.bufr_sections.specs.declared.fault.Refused.TheVariants as faults
use Rattle.bufr_frame.specs.declared.frames.Found.{Found}
use Rattle.bufr_ls_engine.specs.Columns.{word, words_of}
use Rattle.bufr_ls_engine.specs.Rows.{IsPlain, field, field_as, is_plain, refused_in, said_in, told_in}
use Rattle.bufr_ls_engine.specs.declared.column.Column.{Column}
use Rattle.bufr_ls_engine.specs.declared.column.Column.TheVariants as columns

-- ---- texts

-- a digit is plain
digit_plain : (c : ℕ) → 48 ≤ c → c ≤ 57 → is_plain c ≡ true
digit_plain c low high =
    rw (
      ne_eqb c 44 (λ e. omega arith),
      ne_eqb c 34 (λ e. omega arith),
      ne_eqb c 10 (λ e. omega arith),
      ne_eqb c 13 (λ e. omega arith),
    ) refl

-- two plain texts, one after the other
plain_joined : (xs ys : List ℕ) → IsPlain xs → IsPlain ys → IsPlain (xs ++ ys)
plain_joined xs ys one two = list_all-append is_plain xs ys ∙ both_true one two

-- the digit that a number below ten prints as
glyph_plain : (d : ℕ) → d < 10 → is_plain (digit_glyph false d) ≡ true
glyph_plain d small =
    ap (λ b. is_plain (cond b (48 + d) (87 + d))) (lt-ltb d 10 small)
    ∙ digit_plain (48 + d) (omega arith) (omega arith)

-- the digits of a number before a plain text
digits_plain : (k n : ℕ) (after : List ℕ) → IsPlain after
    → IsPlain (digits_onto k 10 false n after)
digits_plain zero n after h = h
digits_plain (suc k) n after h =
    let last = digit_glyph false (n % 10) ∷ after in
    let more : IsPlain last = both_true (glyph_plain (n % 10) (omega arith)) h in
    elim (n / 10 == 0) as
    (λ b. IsPlain (cond b last (digits_onto k 10 false (n / 10) last)))
    [ true ↦ more | false ↦ digits_plain k (n / 10) last more ]

-- a number
number_plain : (n : ℕ) → IsPlain (decimal n)
unfolding digits
number_plain n = digits_plain 64 n [] refl

-- a digit of a descriptor
place_plain : (n : ℕ) → is_plain (digit n) ≡ true
place_plain n = digit_plain (digit n) (omega arith) (omega arith)

-- a descriptor
descriptor_plain : (d : ℕ) → IsPlain (six_digits d)
descriptor_plain d =
    both_true (place_plain (f_of d))
    (both_true (place_plain (x_of d / 10))
    (both_true (place_plain (x_of d))
    (both_true (place_plain (y_of d / 100))
    (both_true (place_plain (y_of d / 10)) (both_true (place_plain (y_of d)) refl)))))

-- descriptors after the first
others_plain : (ds : List ℕ) → IsPlain (flat_map (λ y. (32 ∷ []) ++ six_digits y) ds)
others_plain [] = refl
others_plain (d ∷ ds) =
    plain_joined (32 ∷ six_digits d) (flat_map (λ y. (32 ∷ []) ++ six_digits y) ds)
    (both_true refl (descriptor_plain d)) (others_plain ds)

-- descriptors
descriptors_plain : (ds : List ℕ) → IsPlain (join_by six_digits (32 ∷ []) ds)
descriptors_plain [] = refl
descriptors_plain (d ∷ ds) =
    plain_joined (six_digits d) (flat_map (λ y. (32 ∷ []) ++ six_digits y) ds) (descriptor_plain d)
    (others_plain ds)

-- the text of a refusal M1 to M9
reason_plain : (why : Refused) → is_of_sections why ≡ true → IsPlain (reason why)
unfolding reason
reason_plain faults.NotBufr h = refl
reason_plain (faults.Edition n) h =
    plain_joined (codes "M2 Edition ") (decimal n) refl (number_plain n)
reason_plain faults.TotalLength h = refl
reason_plain faults.NoEnd h = refl
reason_plain faults.Section1Length h = refl
reason_plain (faults.MasterTable n) h =
    plain_joined (codes "M6 MasterTable ") (decimal n) refl (number_plain n)
reason_plain faults.Section2Length h = refl
reason_plain faults.Section3Length h = refl
reason_plain faults.Section4Length h = refl
reason_plain (faults.Template why) h = absurd cc
reason_plain (faults.Data why) h = absurd cc

-- ---- fields

-- a field of sections
said_plain : (column : Column) (e : Envelope) → IsPlain (said_in column e)
unfolding said_in
said_plain columns.Centre e = number_plain _
said_plain columns.SubCentre e = number_plain _
said_plain columns.Update e = number_plain _
said_plain columns.Category e = number_plain _
said_plain columns.International e = number_plain _
said_plain columns.LocalCategory e = number_plain _
said_plain columns.MasterTable e = number_plain 0
said_plain columns.MasterVersion e = number_plain _
said_plain columns.LocalVersion e = number_plain _
said_plain columns.Year e = number_plain _
said_plain columns.Month e = number_plain _
said_plain columns.Day e = number_plain _
said_plain columns.Hour e = number_plain _
said_plain columns.Minute e = number_plain _
said_plain columns.Second e = number_plain _
said_plain columns.Subsets e = number_plain _
said_plain columns.Observed e = number_plain (from_bool e.observed)
said_plain columns.Compressed e = number_plain (from_bool e.compressed)
said_plain columns.Descriptors e = descriptors_plain e.descriptors
said_plain _ e = refl

-- a field of a refusal
refused_plain : (column : Column) (why : Refused) → is_of_sections why ≡ true
    → IsPlain (refused_in column why)
unfolding refused_in
refused_plain columns.MasterTable (faults.MasterTable n) h = number_plain n
refused_plain columns.Reason why h = reason_plain why h
refused_plain _ _ h = refl

-- a field of either
told_plain : (column : Column) (said : Result Envelope Refused)
    → ((why : Refused) → said ≡ Err why → is_of_sections why ≡ true) → IsPlain (told_in column said)
told_plain column (Ok e) theirs = said_plain column e
told_plain column (Err why) theirs = refused_plain column why (theirs why refl)

-- a field
pub field_plain : SectionsRefusedForTheirs → (column : Column) (input message : ℕ) (frame : Found)
    → IsPlain (field column input message frame)
unfolding field_as
field_plain theirs columns.Input input message frame = number_plain input
field_plain theirs columns.Message input message frame = number_plain message
field_plain theirs columns.Place input message frame = number_plain frame.place
field_plain theirs columns.Length input message frame = number_plain (length frame.bytes)
field_plain theirs columns.Edition input message frame = number_plain (get_or frame.bytes 7 0)
field_plain theirs columns.Centre input message frame =
    told_plain columns.Centre (envelope_of frame.bytes) (theirs frame.bytes)
field_plain theirs columns.SubCentre input message frame =
    told_plain columns.SubCentre (envelope_of frame.bytes) (theirs frame.bytes)
field_plain theirs columns.Update input message frame =
    told_plain columns.Update (envelope_of frame.bytes) (theirs frame.bytes)
field_plain theirs columns.Category input message frame =
    told_plain columns.Category (envelope_of frame.bytes) (theirs frame.bytes)
field_plain theirs columns.International input message frame =
    told_plain columns.International (envelope_of frame.bytes) (theirs frame.bytes)
field_plain theirs columns.LocalCategory input message frame =
    told_plain columns.LocalCategory (envelope_of frame.bytes) (theirs frame.bytes)
field_plain theirs columns.MasterTable input message frame =
    told_plain columns.MasterTable (envelope_of frame.bytes) (theirs frame.bytes)
field_plain theirs columns.MasterVersion input message frame =
    told_plain columns.MasterVersion (envelope_of frame.bytes) (theirs frame.bytes)
field_plain theirs columns.LocalVersion input message frame =
    told_plain columns.LocalVersion (envelope_of frame.bytes) (theirs frame.bytes)
field_plain theirs columns.Year input message frame =
    told_plain columns.Year (envelope_of frame.bytes) (theirs frame.bytes)
field_plain theirs columns.Month input message frame =
    told_plain columns.Month (envelope_of frame.bytes) (theirs frame.bytes)
field_plain theirs columns.Day input message frame =
    told_plain columns.Day (envelope_of frame.bytes) (theirs frame.bytes)
field_plain theirs columns.Hour input message frame =
    told_plain columns.Hour (envelope_of frame.bytes) (theirs frame.bytes)
field_plain theirs columns.Minute input message frame =
    told_plain columns.Minute (envelope_of frame.bytes) (theirs frame.bytes)
field_plain theirs columns.Second input message frame =
    told_plain columns.Second (envelope_of frame.bytes) (theirs frame.bytes)
field_plain theirs columns.Subsets input message frame =
    told_plain columns.Subsets (envelope_of frame.bytes) (theirs frame.bytes)
field_plain theirs columns.Observed input message frame =
    told_plain columns.Observed (envelope_of frame.bytes) (theirs frame.bytes)
field_plain theirs columns.Compressed input message frame =
    told_plain columns.Compressed (envelope_of frame.bytes) (theirs frame.bytes)
field_plain theirs columns.Descriptors input message frame =
    told_plain columns.Descriptors (envelope_of frame.bytes) (theirs frame.bytes)
field_plain theirs columns.Reason input message frame =
    told_plain columns.Reason (envelope_of frame.bytes) (theirs frame.bytes)

-- a word of the header line
pub word_plain : (column : Column) → IsPlain (word column)
unfolding word
word_plain columns.Input = refl
word_plain columns.Message = refl
word_plain columns.Place = refl
word_plain columns.Length = refl
word_plain columns.Edition = refl
word_plain columns.Centre = refl
word_plain columns.SubCentre = refl
word_plain columns.Update = refl
word_plain columns.Category = refl
word_plain columns.International = refl
word_plain columns.LocalCategory = refl
word_plain columns.MasterTable = refl
word_plain columns.MasterVersion = refl
word_plain columns.LocalVersion = refl
word_plain columns.Year = refl
word_plain columns.Month = refl
word_plain columns.Day = refl
word_plain columns.Hour = refl
word_plain columns.Minute = refl
word_plain columns.Second = refl
word_plain columns.Subsets = refl
word_plain columns.Observed = refl
word_plain columns.Compressed = refl
word_plain columns.Descriptors = refl
word_plain columns.Reason = refl

-- ---- rows

-- a plain text has no comma
no_comma : (text : List ℕ) → IsPlain text → (k d : ℕ) → k < length text
    → (get_or text k d == 44) ≡ false
no_comma [] h k d lt = absurd (omega arith)
no_comma (c ∷ cs) h zero d lt = first (c == 44) h
  where
    first : (b : Bool) → (not (b || c == 34 || c == 10 || c == 13) && list_all is_plain cs) ≡ true → b ≡ false
    first false h = refl
    first true h = absurd cc
no_comma (c ∷ cs) h (suc k) d lt = no_comma cs (rest (is_plain c) h) k d (omega arith)
  where
    rest : (b : Bool) → (b && list_all is_plain cs) ≡ true → IsPlain cs
    rest true h = h
    rest false h = absurd cc

-- a line of plain texts, of which there is one, parts into them
pub parts_are : {X : Type 0} (f : X → List ℕ) (first : X) (others : List X)
    → ((x : X) → IsPlain (f x))
    → words_of (join_by f (44 ∷ []) (first ∷ others)) ≡ map f (first ∷ others)
parts_are f first [] plain =
    ap words_of (append-nil (f first))
    ∙ slice_split_none (λ c. c == 44) (f first) (no_comma (f first) (plain first))
parts_are f first (second ∷ others) plain =
    let after = flat_map (λ y. (44 ∷ []) ++ f y) others in
    slice_split_at (λ c. c == 44) (f first) 44 (f second ++ after) (no_comma (f first) (plain first)) refl
    ∙ ap (λ ws. f first ∷ ws) (parts_are f second others plain)
