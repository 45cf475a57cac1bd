-- One value of a column.
use Rattle.std.proofs.Common.{◌≡◌, ℕ, zero, suc, ◌+◌, ◌*◌, List, [], ◌∷◌, length}
use Rattle.std.proofs.Common.{sym, ap, ◌∙◌, arith}
use Rattle.std.proofs.Common.{◌/◌, ◌<◌, Bool, ◌++◌, drop, get_or, Some, append_assoc}
use Rattle.std.specs.Prelude.{option_map}
use Rattle.std.specs.List.{flat_map}
use Rattle.std.proofs.lemmas.Bool.{le-ltb}
use Rattle.std.proofs.lemmas.List.{drop_at, drop-drop}
use Rattle.bufr_bits.specs.Bits.{bin, bits, number_at, octets_at}
use Rattle.bufr_bits.specs.BitLaws.{length-bin, number_at-bin}
use Rattle.bufr_expand.specs.declared.operators.Spec.{Spec}
use Rattle.bufr_fields.specs.declared.field.Raw.{Raw}
use Rattle.bufr_fields.specs.declared.field.Raw.TheVariants.{Number, Text}
use Rattle.bufr_data.specs.Plain.{raw_bits}
use Rattle.bufr_data.specs.Compressed.{Pairwise, HasIncrement, HasText, IsColumn, equal}
use Rattle.bufr_data.specs.Compressed.{numbers as number_column, texts as text_column}
use Rattle.bufr_data.specs.Compressed.Reading.{filled}
use Rattle.bufr_data.specs.Compressed.Causes.{Heads}
use Rattle.bufr_data.specs.Compressed.Indexed.{raised_of, one_behind}
use Rattle.bufr_data.proofs.CompressedFacts.{raised_again, filled_again, increment_fits, text_octets}
use Rattle.bufr_data.proofs.CompressedFacts.{regrouped}
use Rattle.bufr_bits.specs.NumberLaws.{length-fields, numbers_at_again}
use Rattle.bufr_data.proofs.ListFacts.{all_at}

zero_times : (k : ℕ) → 0 * k ≡ 0
zero_times k = omega arith

pub next_times : (index k : ℕ) → suc index * k ≡ k + index * k
next_times index k = omega arith

number_there : (width minimum k index : ℕ) (xs : List ℕ) (vs : List Raw) (rest : List Bool)
    → Pairwise (HasIncrement width minimum k) xs vs → index < length vs
    → raised_of width minimum k (number_at k (drop (index * k) (flat_map (bin k) xs ++ rest)))
    ≡ Some (get_or vs index (Number 0))
number_there width minimum k index [] [] rest h short = absurd (omega (arith, short))
number_there width minimum k index [] (v ∷ vs) rest h short = absurd h
number_there width minimum k index (x ∷ xs) [] rest h short = absurd h
number_there width minimum k zero (x ∷ xs) (v ∷ vs) rest h short =
    let e : flat_map (bin k) (x ∷ xs) ++ rest ≡ bin k x ++ (flat_map (bin k) xs ++ rest) =
    append_assoc (bin k x) (flat_map (bin k) xs) rest in
    rw (
      zero_times k,
      e,
      number_at-bin k x (flat_map (bin k) xs ++ rest) (increment_fits width minimum k x v h.0),
    )
    (raised_again width minimum k x v h.0)
number_there width minimum k (suc index) (x ∷ xs) (v ∷ vs) rest h short =
    let e : flat_map (bin k) (x ∷ xs) ++ rest ≡ bin k x ++ (flat_map (bin k) xs ++ rest) =
    append_assoc (bin k x) (flat_map (bin k) xs) rest in
    let first : drop k (bin k x ++ (flat_map (bin k) xs ++ rest)) ≡ flat_map (bin k) xs ++ rest =
    drop_at (bin k x) (flat_map (bin k) xs ++ rest) k (length-bin k x) in
    let behind : drop (suc index * k) (flat_map (bin k) (x ∷ xs) ++ rest)
    ≡ drop (index * k) (flat_map (bin k) xs ++ rest) =
    (λ t. drop (next_times index k t) (e t))
    ∙ sym (drop-drop (index * k) k (bin k x ++ (flat_map (bin k) xs ++ rest)))
    ∙ ap (drop (index * k)) first in
    ap (λ front. raised_of width minimum k (number_at k front)) behind
    ∙ number_there width minimum k index xs vs rest h.1 (omega (arith, short))

text_there : (octets k index : ℕ) (own : List (List ℕ)) (vs : List Raw) (rest : List Bool)
    → Pairwise (HasText octets k) own vs → index < length vs
    → option_map (λ (x : List ℕ × List Bool). filled octets x.0)
    (octets_at k (drop (index * (k * 8)) (flat_map bits own ++ rest)))
    ≡ Some (get_or vs index (Number 0))
text_there octets k index [] [] rest h short = absurd (omega (arith, short))
text_there octets k index [] (v ∷ vs) rest h short = absurd h
text_there octets k index (x ∷ own) [] rest h short = absurd h
text_there octets k zero (x ∷ own) (v ∷ vs) rest h short =
    let e : flat_map bits (x ∷ own) ++ rest ≡ bits x ++ (flat_map bits own ++ rest) =
    append_assoc (bits x) (flat_map bits own) rest in
    let is = text_octets octets k x v h.0 in
    rw (zero_times (k * 8), e, numbers_at_again 8 k x (flat_map bits own ++ rest) is.0 is.1)
    (ap (λ w. Some w) (filled_again octets k x v h.0))
text_there octets k (suc index) (x ∷ own) (v ∷ vs) rest h short =
    let e : flat_map bits (x ∷ own) ++ rest ≡ bits x ++ (flat_map bits own ++ rest) =
    append_assoc (bits x) (flat_map bits own) rest in
    let is = text_octets octets k x v h.0 in
    let size : length (bits x) ≡ k * 8 = length-fields 8 x ∙ ap (λ n. n * 8) is.0 in
    let first : drop (k * 8) (bits x ++ (flat_map bits own ++ rest)) ≡ flat_map bits own ++ rest =
    drop_at (bits x) (flat_map bits own ++ rest) (k * 8) size in
    let behind : drop (suc index * (k * 8)) (flat_map bits (x ∷ own) ++ rest)
    ≡ drop (index * (k * 8)) (flat_map bits own ++ rest) =
    (λ t. drop (next_times index (k * 8) t) (e t))
    ∙ sym (drop-drop (index * (k * 8)) (k * 8) (bits x ++ (flat_map bits own ++ rest)))
    ∙ ap (drop (index * (k * 8))) first in
    ap (λ front. option_map (λ (y : List ℕ × List Bool). filled octets y.0)
    (octets_at k front)) behind
    ∙ text_there octets k index own vs rest h.1 (omega (arith, short))

-- R0 and NBINC of a column, and its value at an index after them
pub record OneValue (spec : Spec) (values : List Raw) (index : ℕ) (front : List Bool) : Type 0 where
  pub minimum : Raw
  pub k : ℕ
  pub rest : List Bool
  pub heads : Heads spec front minimum k rest
  pub value : one_behind spec minimum k index rest ≡ Some (get_or values index (Number 0))

pub one_value : (spec : Spec) (values : List Raw) (column rest : List Bool) (index : ℕ)
    → IsColumn spec values column → index < length values
    → OneValue spec values index (column ++ rest)
one_value spec values column rest index (equal minimum form same is) short = record {
  minimum = minimum;
  k = 0;
  rest = rest;
  heads =
      record {
        form = form;
        few = omega arith;
        spelt = ap (λ xs. xs ++ rest) is
            ∙ append_assoc (raw_bits spec.width minimum) (bin 6 0) rest;
      };
  value = ap (λ v. Some v) (sym (all_at (λ w. w ≡ minimum) values index (Number 0) same short));
}
one_value spec values column rest index
    (number_column minimum zero increments form some few each is) short = absurd
    (omega (arith, some))
one_value spec values column rest index
    (number_column minimum (suc k) increments form some few each is) short = record {
      minimum = Number minimum;
      k = suc k;
      rest = flat_map (bin (suc k)) increments ++ rest;
      heads =
          record {
            form = form;
            few = few;
            spelt = ap (λ xs. xs ++ rest) is
                ∙ regrouped (bin spec.width minimum) (bin 6 (suc k))
                (flat_map (bin (suc k)) increments) rest;
          };
      value = number_there spec.width minimum (suc k) index increments values rest each short;
    }
one_value spec values column rest index
    (text_column ignored zero own form some few wide each is) short = absurd (omega (arith, some))
one_value spec values column rest index
    (text_column ignored (suc k) own form some few wide each is) short = record {
      minimum = Text ignored;
      k = suc k;
      rest = flat_map bits own ++ rest;
      heads =
          record {
            form = form;
            few = few;
            spelt = ap (λ xs. xs ++ rest) is
                ∙ regrouped (bits ignored) (bin 6 (suc k)) (flat_map bits own) rest;
          };
      value =
          rw (le-ltb (spec.width / 8) (suc k) wide)
          (text_there (spec.width / 8) (suc k) index own values rest each short);
    }
