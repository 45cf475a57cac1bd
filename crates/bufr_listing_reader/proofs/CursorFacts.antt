-- The first line of a text and the lines after it: for the reader of lines.
use Rattle.std.proofs.Common.{◌≡◌, ℕ, ◌+◌, ◌-◌, ◌<◌, Bool, true, false, List, [], ◌∷◌}
use Rattle.std.proofs.Common.{length, take, drop, get_or, refl, ap, ◌∙◌, subst, arith}
use Rattle.std.specs.Prelude.{◌==◌, Option, Some, None, nat_lt, if◌then◌else◌}
use Rattle.std.specs.List.{slice_split}
use Rattle.std.specs.Str.Lines.{lines, lines_of_parts, strip_carriage_return}
use Rattle.std.proofs.lemmas.Bool.{lt-ltb, ltb-true, eqb-true, false_from_ne_true}
use Rattle.std.proofs.lemmas.Bool.Decides.{nat_tests}
use Rattle.std.proofs.lemmas.List.{nil_from_length, length-drop, take_all}
use Rattle.std.proofs.lemmas.Option.{same_Some}
use Rattle.std.proofs.lemmas.List.Sums.{position_or_len_is, fails_before_first}
use Rattle.std.proofs.lemmas.List.Elements.{All-from_get_or}
use Rattle.std.proofs.lemmas.List.Splits.{slice_split_none, slice_split_first, length-slice_split}
use Rattle.memchr.specs.Find.{IsFirstByte, is_byte}
use Rattle.bufr_listing_reader.specs.Cursors.{line_end, first_line_of, without_return}
use Rattle.bufr_listing_reader.specs.Lines.{is_skipped, as_printed, counting_from}

-- ---- the end of the first line

pub end_found : (text : List ℕ) (k : ℕ) → IsFirstByte (is_byte 10) text (Some k)
    → (line_end text ≡ k) × (k < length text)
end_found text k h = (
  position_or_len_is (λ b. b == 10) text k 0 (omega (arith, h.0.high))
      (λ i lt. false_from_ne_true (get_or text i 0 == 10) (h.0.before i (omega arith) lt))
      (λ lt. h.1),
  h.0.high,
)

pub end_missing : (text : List ℕ) → IsFirstByte (is_byte 10) text None → line_end text ≡ length text
end_missing text h =
    position_or_len_is (λ b. b == 10) text (length text) 0 (omega arith)
    (λ i lt. false_from_ne_true (get_or text i 0 == 10) (h i (omega arith) lt))
    (λ lt. absurd (omega (arith, lt)))

pub first_with_end : (text : List ℕ) (k : ℕ) → IsFirstByte (is_byte 10) text (Some k)
    → (length text == 0) ≡ false
    → first_line_of text ≡ Some (without_return (take k text), drop (k + 1) text)
first_with_end text k h some =
    let e = end_found text k h in
    rw (some, e.0, lt-ltb k (length text) e.1) refl

pub first_without_end : (text : List ℕ) → IsFirstByte (is_byte 10) text None → (length text == 0)
    ≡ false → first_line_of text ≡ Some (text, [])
first_without_end text h some =
    let e = end_missing text h in
    let no : nat_lt (length text) (length text) ≡ false = grind (arith, nat_tests) in
    rw (some, e, no) refl

-- ---- the lines after the first

some_parts : (x : List ℕ) (parts : List (List ℕ)) → 0 < length parts → lines_of_parts (x ∷ parts)
    ≡ strip_carriage_return x ∷ lines_of_parts parts
some_parts x [] h = absurd (omega arith)
some_parts x (y ∷ more) h = refl

lines_more : (text : List ℕ) → line_end text < length text → lines text ≡ without_return
    (take (line_end text) text) ∷ lines (drop (line_end text + 1) text)
lines_more text lt =
    let p : ℕ → Bool = λ b. b == 10 in
    let rest = drop (line_end text + 1) text in
    let count = length-slice_split p rest in
    ap lines_of_parts (slice_split_first p text 0 lt) ∙ some_parts (take (line_end text) text)
    (slice_split p rest) (omega (arith, count))

one_part : (x : List ℕ) → (length x == 0) ≡ false → lines_of_parts (x ∷ []) ≡ x ∷ []
one_part x h = rw h refl

lines_one : (text : List ℕ) → nat_lt (line_end text) (length text) ≡ false → (length text == 0)
    ≡ false → lines text ≡ text ∷ []
lines_one text late some =
    let p : ℕ → Bool = λ b. b == 10 in
    let all =
    All-from_get_or (λ b. p b ≡ false) text 0
    (λ i lt. fails_before_first p text i 0 (grind (arith, nat_tests))) in
    ap lines_of_parts (slice_split_none p text all) ∙ one_part text some

-- this is the first line, and the lines of the rest are the others
pub record Behind (text line rest : List ℕ) : Type 0 where
  pub lines : lines text ≡ line ∷ lines rest
  pub shorter : length rest < length text

length_drop : (k : ℕ) (t : List ℕ) → k < length t → length (drop (k + 1) t) < length t
length_drop k t h = let left = length-drop (k + 1) t in omega (arith, left, h)

behind_by : (empty within : Bool) (text line rest : List ℕ) → (length text == 0) ≡ empty
    → nat_lt (line_end text) (length text) ≡ within
    → ◌≡◌ {A = Option (List ℕ × List ℕ)} (if empty then None else if within then Some
    (without_return (take (line_end text) text), drop (line_end text + 1) text) else Some
    (text, [])) (Some (line, rest))
    → Behind text line rest
behind_by true within text line rest e f h = absurd cc
behind_by false true text line rest e f h =
    let is = same_Some (without_return (take (line_end text) text), drop (line_end text + 1) text)
    (line, rest) h in
    let lt = ltb-true (line_end text) (length text) f in
    subst (λ (x : List ℕ × List ℕ). Behind text x.0 x.1) is
    (record { lines = lines_more text lt; shorter = length_drop (line_end text) text lt })
behind_by false false text line rest e f h =
    let is = same_Some (text, []) (line, rest) h in
    subst (λ (x : List ℕ × List ℕ). Behind text x.0 x.1) is
    (record { lines = lines_one text f e; shorter = grind (arith, nat_tests) })

pub after_first : (text line rest : List ℕ) → first_line_of text ≡ Some (line, rest)
    → Behind text line rest
after_first text line rest h =
    behind_by (length text == 0) (nat_lt (line_end text) (length text)) text line rest refl refl h

nothing_by : (empty within : Bool) (text : List ℕ) → (length text == 0) ≡ empty
    → ◌≡◌ {A = Option (List ℕ × List ℕ)} (if empty then None else if within then Some
    (without_return (take (line_end text) text), drop (line_end text + 1) text) else Some
    (text, [])) None
    → lines text ≡ []
nothing_by true within text e h = ap lines (nil_from_length text (eqb-true (length text) 0 e))
nothing_by false true text e h = absurd cc
nothing_by false false text e h = absurd cc

pub no_first : (text : List ℕ) → first_line_of text ≡ None → lines text ≡ []
no_first text h = nothing_by (length text == 0) (nat_lt (line_end text) (length text)) text refl h

-- ---- lines that count

pub skipped : (n : ℕ) (text line rest : List ℕ) → lines text ≡ line ∷ lines rest → is_skipped line
    ≡ true → counting_from n (lines text) ≡ counting_from (n + 1) (lines rest)
unfolding counting_from
skipped n text line rest e is = ap (counting_from n) e ∙ rw is refl

pub counted : (n : ℕ) (text line rest : List ℕ) → lines text ≡ line ∷ lines rest → is_skipped line
    ≡ false
    → counting_from n (lines text) ≡ record { number = n; text = as_printed line } ∷ counting_from
    (n + 1) (lines rest)
unfolding counting_from
counted n text line rest e is = ap (counting_from n) e ∙ rw is refl

pub none_counted : (n : ℕ) (text : List ℕ) → lines text ≡ [] → counting_from n (lines text) ≡ []
unfolding counting_from
none_counted n text e = ap (counting_from n) e

-- ---- slices up to the end of a text

pub none_left : (text : List ℕ) → take (length text - length text) (drop (length text) text) ≡ []
none_left text = let none : length text - length text ≡ 0 = omega arith in
    ap (λ n. take n (drop (length text) text)) none

pub rest_whole : (k : ℕ) (text : List ℕ) → take (length text - k) (drop k text) ≡ drop k text
rest_whole k text = let left = length-drop k text in
    take_all (length text - k) (drop k text) (omega (arith, left))
