-- Increments read one by one have the values of their list.
use Rattle.std.proofs.Common.{◌≡◌, ℕ, zero, suc, ◌+◌, ◌-◌, ◌*◌, ◌<◌, ◌≤◌, Bool, true, cond, List}
use Rattle.std.proofs.Common.{[], ◌∷◌, ◌++◌, length, take, drop, Some, None, Result, inl, inr, Ok}
use Rattle.std.proofs.Common.{Err, refl, sym, ap, ◌∙◌, arith, append_assoc, append-nil}
use Rattle.std.proofs.Common.{length-append}
use Rattle.std.specs.Prelude.{◌&&◌, ◌==◌}
use Rattle.std.specs.List.{AllByRecursion, list_all}
use Rattle.std.proofs.lemmas.Bool.{le-ltb, eq-eqb, cases_lt, lt-ltb, ne_eqb}
use Rattle.std.proofs.Math.Bool.{and-true}
use Rattle.std.proofs.Math.Nat.{suc-mul}
use Rattle.std.proofs.lemmas.List.Folds.{list_all-append}
use Rattle.std.proofs.lemmas.List.{length-drop, drop-drop}
use Rattle.bufr_base.specs.Answers.{◌>>=◌}
use Rattle.bufr_fields.specs.declared.fault.DataFault.TheVariants as faults
use Rattle.bufr_fields.specs.Forms.{number_of}
use Rattle.bufr_data.specs.Compressed.Passed.{AreRaised}
use Rattle.bufr_data.proofs.ListFacts.{all_joined}
use Rattle.bufr_bits.specs.BitLaws.{some_is}
use Rattle.bufr_bits.specs.Bits.{number, numbers, number_at}
use Rattle.bufr_fields.specs.declared.field.Raw.{Raw}
use Rattle.bufr_fields.specs.declared.field.Raw.TheVariants.{Number}
use Rattle.bufr_fields.specs.declared.fault.DataFault.{DataFault}
use Rattle.bufr_fields.specs.Increments.{raised}
use Rattle.bufr_data.specs.Compressed.Reading.{value_then, all_raised, all_equal, count_of}
use Rattle.bufr_data.specs.Compressed.Reading.{same_raw}

-- these values, and then those found
abbrev pub behind_values : List Raw → Result (List Raw) DataFault → Result (List Raw) DataFault
behind_values values (Ok found) = Ok (values ++ found)
behind_values values (Err e) = Err e

-- the first j of n increments have values: the first one, and whether all are equal
pub record RaisedSoFar (i width minimum k n j : ℕ) (front rest : List Bool) (first : ℕ)
    (equal : Bool) : Type 0 where
  pub values : List Raw
  pub many : length values ≡ j
  pub found : all_raised 1 i width minimum k (numbers n k front)
      ≡ behind_values values (all_raised (j + 1) i width minimum k (numbers (n - j) k rest))
  pub first_is : count_of values ≡ first
  pub equal_is : all_equal values ≡ equal
  pub are_numbers : AllByRecursion (λ v. v ≡ Number (number_of v)) values

behind_none : (o : Result (List Raw) DataFault) → o ≡ behind_values [] o
behind_none (Ok vs) = refl
behind_none (Err e) = refl

taken_is : (k x : ℕ) (rest last : List Bool) → number_at k rest ≡ Some (x, last)
    → (x ≡ number (take k rest)) × (last ≡ drop k rest)
unfolding number_at
taken_is k x rest last e =
    elim (cases_lt (length rest) k) [
      | inl lt ↦ absurd (let short = lt-ltb (length rest) k lt in let none = rw short at e in cc)
      | inr le ↦
          let long = le-ltb (length rest) k le in
          let some = rw long at e in
          let pair : (number (take k rest), drop k rest) ≡ (x, last) = some_is _ _ some in
          (ap (λ (p : ℕ × List Bool). p.0) (sym pair), ap (λ (p : ℕ × List Bool). p.1) (sym pair))
    ]

pub drop_is : (k x : ℕ) (rest last : List Bool) → number_at k rest ≡ Some (x, last)
    → last ≡ drop k rest
drop_is k x rest last e = (taken_is k x rest last e).1

with_first : (u : Raw) (number first : ℕ) → u ≡ Number (number_of u) → number_of u ≡ first
    → same_raw (Number number) u ≡ (number == first)
with_first u number first is head = ap (same_raw (Number number)) (is ∙ ap (λ n. Number n) head)

pub none_yet : (i width minimum k n first : ℕ) (front : List Bool)
    → RaisedSoFar i width minimum k n 0 front front 0 true
none_yet i width minimum k n first front = record {
  values = [];
  many = refl;
  found =
      let all : n - 0 ≡ n = omega arith in
      behind_none (all_raised 1 i width minimum k (numbers n k front))
      ∙ ap (λ m. behind_values [] (all_raised 1 i width minimum k (numbers m k front))) (sym all);
  first_is = refl;
  equal_is = refl;
  are_numbers = tt;
}

next_number : (k n j x : ℕ) (rest last : List Bool) → j < n → number_at k rest ≡ Some (x, last)
    → numbers (n - j) k rest ≡ x ∷ numbers (n - (j + 1)) k last
unfolding numbers number_at
next_number k n j x rest last less e =
    let some : n - j ≡ suc (n - (j + 1)) = omega (arith, less) in
    let h = taken_is k x rest last e in
    ap (λ m. numbers m k rest) some ∙ (λ t. sym h.0 t ∷ numbers (n - (j + 1)) k (sym h.1 t))

behind_joined : (values : List Raw) (v : Raw) (o : Result (List Raw) DataFault)
    → behind_values values (o >>= λ vs. Ok (v ∷ vs)) ≡ behind_values (values ++ v ∷ []) o
behind_joined values v (Ok vs) = ap (λ xs. Ok xs) (sym (append_assoc values (v ∷ []) vs))
behind_joined values v (Err e) = refl

all_push : (u v : Raw) (us : List Raw)
    → list_all (λ w. same_raw w u) (us ++ v ∷ [])
    ≡ (list_all (λ w. same_raw w u) us && same_raw v u)
all_push u v us =
    list_all-append (λ w. same_raw w u) us (v ∷ [])
    ∙ ap (λ b. list_all (λ w. same_raw w u) us && b) (and-true (same_raw v u))

pushed : (j first x : ℕ) (equal : Bool) (values : List Raw) → length values ≡ j
    → AllByRecursion (λ v. v ≡ Number (number_of v)) values → count_of values ≡ first
    → all_equal values ≡ equal
    → (count_of (values ++ Number x ∷ []) ≡ cond (j == 0) x first)
    × (all_equal (values ++ Number x ∷ []) ≡ (equal && (x == cond (j == 0) x first)))
pushed zero first x equal [] many all head same = (refl, rw (← same, eq-eqb x x refl) refl)
pushed (suc j) first x equal [] many all head same = absurd (omega (arith, many))
pushed zero first x equal (u ∷ us) many all head same = absurd (omega (arith, many))
pushed (suc j) first x equal (u ∷ us) many all head same =
    rw (ne_eqb (suc j) 0 (λ e. omega (arith, e))) (
      head,
      all_push u (Number x) us
          ∙ (λ t. same t && with_first u x first all.0 head t),
    )

pub one_raised : (i width minimum k n j x number : ℕ) (front rest last : List Bool) (first : ℕ)
    (equal : Bool) → j < n → RaisedSoFar i width minimum k n j front rest first equal
    → number_at k rest ≡ Some (x, last) → Some (Number number) ≡ raised width minimum k x
    → RaisedSoFar i width minimum k n (j + 1) front last (cond (j == 0) number first)
    (equal && (number == cond (j == 0) number first))
one_raised i width minimum k n j x number front rest last first equal less so_far e value =
    let now =
    pushed j first number equal so_far.values so_far.many so_far.are_numbers so_far.first_is
    so_far.equal_is in
    record {
      values = so_far.values ++ Number number ∷ [];
      many = length-append so_far.values (Number number ∷ []) ∙ ap (λ m. m + 1) so_far.many;
      found =
          so_far.found
          ∙ ap (λ xs. behind_values so_far.values (all_raised (j + 1) i width minimum k xs))
          (next_number k n j x rest last less e)
          ∙ ap (λ o. behind_values so_far.values
          (value_then (j + 1) i o
          (all_raised (j + 1 + 1) i width minimum k (numbers (n - (j + 1)) k last))))
          (sym value)
          ∙ behind_joined so_far.values (Number number)
          (all_raised (j + 1 + 1) i width minimum k (numbers (n - (j + 1)) k last));
      first_is = now.0;
      equal_is = now.1;
      are_numbers = all_joined (λ v. v ≡ Number (number_of v)) so_far.values (Number number ∷ [])
          so_far.are_numbers (refl, tt);
    }

pub raised_fails : (i width minimum k n j x : ℕ) (front rest last : List Bool) (first : ℕ)
    (equal : Bool) → j < n → RaisedSoFar i width minimum k n j front rest first equal
    → number_at k rest ≡ Some (x, last) → None ≡ raised width minimum k x
    → all_raised 1 i width minimum k (numbers n k front) ≡ Err (faults.IncrementRange (j + 1) i)
raised_fails i width minimum k n j x front rest last first equal less so_far e value =
    so_far.found
    ∙ ap (λ xs. behind_values so_far.values (all_raised (j + 1) i width minimum k xs))
    (next_number k n j x rest last less e)
    ∙ ap (λ o. behind_values so_far.values
    (value_then (j + 1) i o
    (all_raised (j + 1 + 1) i width minimum k (numbers (n - (j + 1)) k last)))) (sym value)

pub all_raised_so_far : (i width minimum k n j : ℕ) (front rest : List Bool) (first : ℕ)
    (equal : Bool) → n ≤ j → RaisedSoFar i width minimum k n j front rest first equal
    → AreRaised i width minimum k (numbers n k front) first equal
unfolding numbers
all_raised_so_far i width minimum k n j front rest first equal done so_far =
    let none : n - j ≡ 0 = omega (arith, done) in (
      so_far.values,
      so_far.found
          ∙ ap (λ m. behind_values so_far.values
          (all_raised (j + 1) i width minimum k (numbers m k rest))) none
          ∙ ap (λ vs. Ok vs) (append-nil so_far.values),
      so_far.first_is,
      so_far.equal_is,
    )

pub enough_left : (n j k : ℕ) (front : List Bool) → j < n → (n - j) * k ≤ length front
    → k ≤ length front
enough_left n j k front less enough =
    let some : n - j ≡ suc (n - (j + 1)) = omega (arith, less) in
    let times : (n - j) * k ≡ (n - (j + 1)) * k + k =
    ap (λ m. m * k) some ∙ suc-mul (n - (j + 1)) k in
    omega (arith, enough, times)

pub none_left : (n j k : ℕ) (front : List Bool) → j < n → (n - j) * k ≤ length front
    → number_at k front ≡ None → ⊥
unfolding number_at
none_left n j k front less enough none =
    let long = le-ltb (length front) k at-least in cc
  where
    at-least : k ≤ length front
    at-least = enough_left n j k front less enough

pub enough_behind : (n j k : ℕ) (rest last : List Bool) → j < n → (n - j) * k ≤ length rest
    → last ≡ drop k rest → (n - (j + 1)) * k ≤ length last
enough_behind n j k rest last less enough is =
    let some : n - j ≡ suc (n - (j + 1)) = omega (arith, less) in
    let times : (n - j) * k ≡ (n - (j + 1)) * k + k =
    ap (λ m. m * k) some ∙ suc-mul (n - (j + 1)) k in
    let size : length last ≡ length rest - k = ap length is ∙ length-drop k rest in
    omega (arith, enough, times, size)

pub moved_on : (j k : ℕ) (front rest last : List Bool) → rest ≡ drop (j * k) front
    → last ≡ drop k rest → last ≡ drop ((j + 1) * k) front
moved_on j k front rest last so_far is =
    let times : j * k + k ≡ (j + 1) * k = omega arith in
    is ∙ ap (drop k) so_far ∙ drop-drop k (j * k) front ∙ ap (λ m. drop m front) times

pub first_below : (j x first p : ℕ) → x < p → (0 < j → first < p) → cond (j == 0) x first < p
first_below zero x first p now before = now
first_below (suc j) x first p now before =
    rw (ne_eqb (suc j) 0 (λ e. omega (arith, e))) (before (omega arith))
