-- The tables have the texts of each number below 256: for `put_octet` and
-- `push_octet_line`.
use Rattle.std.proofs.Common.{◌≡◌, ℕ, zero, suc, ◌+◌, ◌-◌, ◌*◌, ◌<◌, ◌≤◌, Bool, true, false, ◌&&◌, T, leb}
use Rattle.std.proofs.Common.{refl, sym, subst}
use Rattle.std.proofs.Math.Facts.{leb_yes}
use Rattle.std.proofs.Common.{List, [], ◌∷◌, ◌++◌, get_or, take, drop, length, ap, ◌∙◌, eq-zero-or-pos, inl, inr, arith}
use Rattle.std.specs.Prelude.{decimal}
use Rattle.std.specs.Fmt.{digits}
use Rattle.std.specs.Str.{bytes_eq}
use Rattle.std.proofs.lemmas.Slice.Eq.{bytes_eq-Decides}
use borrow.Rule.Slice.PartMut.{put_mid, post_of}
use Rattle.std.proofs.Math.Seq.{drop-append-add, take-append-add}
use Rattle.std.proofs.lemmas.List.{drop-append-le, length-take}
use Rattle.std.proofs.Math.ListN.{set}
use Rattle.std.proofs.lemmas.List.{drop-drop, drop-set}
use lib.Ieee.Fits.{and_l, and_r}
use Rattle.bufr_ls_engine.specs.declared.texts.TheConstants.{FIELDS, LENGTHS, LINES}

-- the four octets of a number in the table
abbrev pub field_at : ℕ → List ℕ
field_at n = take 4 (drop (4 * n) FIELDS)

-- the number of octets of its text and the comma
abbrev pub length_at : ℕ → ℕ
length_at n = get_or LENGTHS n 0

-- the line of a number, and what fills it up
abbrev pub line_at : ℕ → List ℕ
line_at n = take 4 (drop (4 * n) LINES)

abbrev pub HasTexts : ℕ → Type 0
HasTexts n = (drop (4 - length_at n) (field_at n) ≡ decimal n ++ 44 ∷ [])
    × (take (length_at n) (line_at n) ≡ decimal n ++ 10 ∷ []) × (length_at n ≤ 4)

abbrev has_texts : ℕ → Bool
has_texts n = bytes_eq (drop (4 - length_at n) (field_at n)) (decimal n ++ 44 ∷ [])
    && bytes_eq (take (length_at n) (line_at n)) (decimal n ++ 10 ∷ []) && leb (length_at n) 4

abbrev all_have_texts : ℕ → Bool
all_have_texts zero = true
all_have_texts (suc n) = has_texts n && all_have_texts n

is_true : (b : Bool) → T b → b ≡ true
is_true true t = refl
is_true false t = absurd t

texts_of : (n : ℕ) → T (has_texts n) → HasTexts n
texts_of n t =
    let a = and_l _ _ t in (
      (bytes_eq-Decides _ _).0 (is_true _ (and_l _ _ a)),
      (bytes_eq-Decides _ _).0 (is_true _ (and_r _ _ a)),
      leb_yes (and_r _ _ t),
    )

below : (count n : ℕ) → T (all_have_texts count) → n < count → HasTexts n
below zero n t h = absurd (omega arith)
below (suc count) n t h =
    elim (eq-zero-or-pos (count - n)) [
      | inl z ↦
          let e : n ≡ count = omega arith in
          subst HasTexts (sym e) (texts_of count (and_l _ (all_have_texts count) t))
      | inr g ↦ below count n (and_r _ (all_have_texts count) t) (omega arith)
    ]

pub texts_at : (n : ℕ) → n < 256 → HasTexts n
unfolding digits
texts_at n h = below 256 n tt h

-- a row with a text of four octets in it, from its end on
pub put_text : (row part text : List ℕ) (end long : ℕ) → 4 ≤ end → end ≤ length row → length part ≡ 4
    → long ≤ 4 → drop (4 - long) part ≡ text
    → drop (end - long) (put_mid (end - 4) (end - (end - 4)) row part) ≡ text ++ drop end row
put_text row part text end long room within four short is =
    let before : length (take (end - 4) row) ≡ end - 4 = omega (arith, length-take (end - 4) row) in
    let at : end - long ≡ length (take (end - 4) row) + (4 - long) = omega (arith, before, length-take (end - 4) row) in
    let after : end - 4 + (end - (end - 4)) ≡ end = omega arith in
    ap (λ n. drop n (put_mid (end - 4) (end - (end - 4)) row part)) at
    ∙ drop-append-add (take (end - 4) row) (part ++ post_of (end - 4) (end - (end - 4)) row) (4 - long)
    ∙ drop-append-le (4 - long) part (post_of (end - 4) (end - (end - 4)) row) (omega (arith, four))
    ∙ ap (λ (t : List ℕ). t ++ post_of (end - 4) (end - (end - 4)) row) is
    ∙ ap (λ (t : List ℕ). text ++ t)
    (drop-drop (end - (end - 4)) (end - 4) row ∙ ap (λ n. drop n row) after)

-- a comma put before the rest of a row
pub comma_before : (row : List ℕ) (end : ℕ) → 1 ≤ end → end ≤ length row
    → drop (end - 1) (set row (end - 1) 44) ≡ 44 ∷ drop end row
comma_before row end room within =
    let next : end - 1 + 1 ≡ end = omega arith in
    drop-set row (end - 1) 44 (omega arith) ∙ ap (λ k. 44 ∷ drop k row) next

-- a text with the line of a number after it, and what filled it up cut off
pub line_added : (old all cut part text : List ℕ) (held long : ℕ) → held ≡ length old
    → all ≡ old ++ part → cut ≡ take (held + long) all → take long part ≡ text → cut ≡ old ++ text
line_added old all cut part text held long is grew cuts line =
    cuts ∙ ap (λ (t : List ℕ). take (held + long) t) grew
    ∙ ap (λ n. take (n + long) (old ++ part)) is ∙ take-append-add old part long
    ∙ ap (λ (t : List ℕ). old ++ t) line
