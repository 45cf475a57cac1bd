-- Passing a column without reading its values.
use Rattle.std.proofs.Common.{◌≡◌, ℕ, zero, suc, ◌+◌, ◌-◌, ◌*◌, ◌/◌, ◌^◌, ◌<◌, ◌≤◌, Bool, true}
use Rattle.std.proofs.Common.{false, List, [], ◌∷◌, length, map, drop, replicate, Option, Some}
use Rattle.std.proofs.Common.{None, Result, Ok, Err, refl, sym, ap, ◌∙◌, arith, inl, inr}
use Rattle.std.specs.Prelude.{◌==◌, option_map}
use Rattle.std.specs.List.{AllByRecursion}
use Rattle.std.proofs.lemmas.Bool.{cases_lt, le-ltb, lt-ltb, eqb-false}
use Rattle.std.proofs.lemmas.List.{drop-drop, length-drop}
use Rattle.bufr_bits.specs.Bits.{numbers, number_at, numbers_at, octets_at}
use Rattle.bufr_bits.specs.NumberLaws.{numbers_fit}
use Rattle.bufr_base.specs.Answers.{◌>>=◌}
use Rattle.bufr_tables.specs.declared.element.Kind.{Kind}
use Rattle.bufr_tables.specs.declared.element.Kind.TheVariants as kinds
use Rattle.bufr_tables.specs.Elements.{same_kind}
use Rattle.bufr_expand.specs.declared.operators.Spec.{Spec}
use Rattle.bufr_fields.specs.declared.field.Raw.{Raw}
use Rattle.bufr_fields.specs.declared.field.Raw.TheVariants.{Number, Text}
use Rattle.bufr_fields.specs.declared.fault.DataFault.{DataFault}
use Rattle.bufr_fields.specs.declared.fault.DataFault.TheVariants as faults
use Rattle.bufr_data.specs.Plain.{raw_at_by, raw_at, field_number_at}
use Rattle.bufr_fields.specs.Increments.{raised}
use Rattle.bufr_data.specs.Compressed.Reading.{or_ends, all_raised, all_equal, count_of, filled}
use Rattle.bufr_data.specs.Compressed.Reading.{texts_at, values_at, column_at, agreeing}
use Rattle.bufr_data.specs.Compressed.Passed.{head_at, PassesColumn, PassesFactor, AreRaised, agreed_at}
use Rattle.bufr_data.proofs.CompressedFacts.Walks.{agreeing_again, all_equal_again, all_equal_is}
use Rattle.std.proofs.Math.Arith.{lt_of_le-ne}
use Rattle.bufr_fields.specs.FormLaws.{same_kind_is}
use Rattle.bufr_data.proofs.CompressedFacts.Indexed.{next_times}
use Rattle.bufr_data.proofs.ListFacts.{all_replicated}

pub times_is : (a b k n : ℕ) → a ≡ k → b ≡ n → 8 * a * b ≡ n * (k * 8)
times_is a b k n e f = rw (e, f) (omega arith)

pub product_is : (a b k n : ℕ) → a ≡ n → b ≡ k → a * b ≡ n * k
product_is a b k n e f = rw (e, f) refl

pub some_bits : (k : ℕ) → (k ≡ 0 → ⊥) → 0 < k
some_bits zero other = absurd (other refl)
some_bits (suc k) other = omega arith

pub octets_none : (m : ℕ) (front : List Bool) → length front < m * 8 → octets_at m front ≡ None
unfolding numbers_at
octets_none m front short = rw (lt-ltb _ _ short) refl

pub octets_some : (m : ℕ) (front : List Bool) → m * 8 ≤ length front
    → octets_at m front ≡ Some (numbers m 8 front, drop (m * 8) front)
unfolding numbers_at
octets_some m front long = rw (le-ltb _ _ long) refl

texts_none : (n k : ℕ) (front : List Bool) → length front < n * (k * 8) → texts_at n k front ≡ None
texts_none zero k front short = absurd (omega (arith, short))
texts_none (suc n) k front short =
    elim (cases_lt (length front) (k * 8)) [
      | inl lt ↦ rw (octets_none k front lt) refl
      | inr le ↦
          let times = next_times n (k * 8) in
          let others : length (drop (k * 8) front) < n * (k * 8) =
          omega (arith, length-drop (k * 8) front, short, times, le) in
          rw (octets_some k front le, texts_none n k (drop (k * 8) front) others) refl
    ]

texts_some : (n k : ℕ) (front : List Bool) → n * (k * 8) ≤ length front
    → (own : List (List ℕ)) × (texts_at n k front ≡ Some (own, drop (n * (k * 8)) front))
texts_some zero k front long =
    ([], let none : 0 * (k * 8) ≡ 0 = omega arith in ap (λ m. Some ([], drop m front)) (sym none))
texts_some (suc n) k front long =
    let times = next_times n (k * 8) in
    let le : k * 8 ≤ length front = omega (arith, long, times) in
    let others : n * (k * 8) ≤ length (drop (k * 8) front) =
    omega (arith, length-drop (k * 8) front, long, times) in
    let behind = texts_some n k (drop (k * 8) front) others in
    let joined : drop (n * (k * 8)) (drop (k * 8) front) ≡ drop (suc n * (k * 8)) front =
    drop-drop (n * (k * 8)) (k * 8) front ∙ ap (λ m. drop m front) (sym times) in (
      numbers k 8 front ∷ behind.0,
      rw (octets_some k front le, behind.1)
          (ap (λ rest. Some (numbers k 8 front ∷ behind.0, rest)) joined),
    )

pub text_raw : (spec : Spec) (front : List Bool) → spec.kind ≡ kinds.Text
    → raw_at spec front ≡ option_map (λ x. (Text x.0, x.1)) (octets_at (spec.width / 8) front)
text_raw spec front is = ap (λ k. raw_at_by k spec.width front) is

pub texts_no_minimum : (n i : ℕ) (spec : Spec) (front : List Bool) (b : ℕ) → spec.kind ≡ kinds.Text
    → b ≡ spec.width / 8 * 8 → length front < b
    → column_at n i spec front ≡ Err (faults.DataEnds 0 i)
texts_no_minimum n i spec front b is size short =
    let less : length front < spec.width / 8 * 8 = omega (arith, size, short) in
    rw (text_raw spec front is, octets_none (spec.width / 8) front less) refl

pub minimum_there : (spec : Spec) (front mid : List Bool) (b : ℕ) → spec.kind ≡ kinds.Text
    → b ≡ spec.width / 8 * 8 → b ≤ length front → mid ≡ drop b front
    → raw_at spec front ≡ Some (Text (numbers (spec.width / 8) 8 front), mid)
minimum_there spec front mid b is size long left =
    let more : spec.width / 8 * 8 ≤ length front = omega (arith, size, long) in
    text_raw spec front is
    ∙ rw (octets_some (spec.width / 8) front more)
    (ap (λ rest. Some (Text (numbers (spec.width / 8) 8 front), rest))
    (sym (left ∙ ap (λ m. drop m front) size)))

pub texts_no_width : (n i : ℕ) (spec : Spec) (front mid : List Bool) (b : ℕ)
    → spec.kind ≡ kinds.Text → b ≡ spec.width / 8 * 8 → b ≤ length front → mid ≡ drop b front
    → number_at 6 mid ≡ None → column_at n i spec front ≡ Err (faults.DataEnds 0 i)
texts_no_width n i spec front mid b is size long left none =
    rw (minimum_there spec front mid b is size long left, none) refl

-- the bits begin with a minimum of texts and a width
pub record TextHead (spec : Spec) (front : List Bool) (k : ℕ) (rest : List Bool) : Type 0 where
  pub own : List ℕ
  pub mid : List Bool
  pub minimum : raw_at spec front ≡ Some (Text own, mid)
  pub width : number_at 6 mid ≡ Some (k, rest)

pub text_head : (spec : Spec) (front mid : List Bool) (b k : ℕ) (rest : List Bool)
    → spec.kind ≡ kinds.Text → b ≡ spec.width / 8 * 8 → b ≤ length front → mid ≡ drop b front
    → number_at 6 mid ≡ Some (k, rest) → TextHead spec front k rest
text_head spec front mid b k rest is size long left found = record {
  own = numbers (spec.width / 8) 8 front;
  mid = mid;
  minimum = minimum_there spec front mid b is size long left;
  width = found;
}

wide_values : (n i : ℕ) (spec : Spec) (own : List ℕ) (k : ℕ) (rest : List Bool) → spec.width / 8 < k
    → values_at n i spec (Text own) k rest ≡ Err (faults.CharIncrement i)
wide_values n i spec own zero rest lt = absurd (omega (arith, lt))
wide_values n i spec own (suc k) rest lt = rw (lt-ltb (spec.width / 8) (suc k) lt) refl

pub texts_too_wide : (n i : ℕ) (spec : Spec) (front : List Bool) (k : ℕ) (rest : List Bool)
    → TextHead spec front k rest → spec.width / 8 < k
    → column_at n i spec front ≡ Err (faults.CharIncrement i)
texts_too_wide n i spec front k rest h lt =
    rw (h.minimum, h.width) (wide_values n i spec h.own k rest lt)

short_values : (n i : ℕ) (spec : Spec) (own : List ℕ) (k : ℕ) (rest : List Bool) (b : ℕ)
    → k ≤ spec.width / 8 → b ≡ n * (k * 8) → length rest < b
    → values_at n i spec (Text own) k rest ≡ Err (faults.DataEnds 0 i)
short_values n i spec own zero rest b le size short =
    let none : n * (0 * 8) ≡ 0 = omega arith in absurd (omega (arith, size, short, none))
short_values n i spec own (suc k) rest b le size short =
    let less : length rest < n * (suc k * 8) = omega (arith, size, short) in
    rw (le-ltb (spec.width / 8) (suc k) le, texts_none n (suc k) rest less) refl

pub texts_end : (n i : ℕ) (spec : Spec) (front : List Bool) (k : ℕ) (rest : List Bool) (c : ℕ)
    → TextHead spec front k rest → k ≤ spec.width / 8 → c ≡ n * (k * 8) → length rest < c
    → column_at n i spec front ≡ Err (faults.DataEnds 0 i)
texts_end n i spec front k rest c h le times short =
    rw (h.minimum, h.width) (short_values n i spec h.own k rest c le times short)

long_values : (n i : ℕ) (spec : Spec) (own : List ℕ) (k : ℕ) (rest : List Bool) (b : ℕ)
    → k ≤ spec.width / 8 → b ≡ n * (k * 8) → b ≤ length rest
    → (values : List Raw) × (values_at n i spec (Text own) k rest ≡ Ok (values, drop b rest))
long_values n i spec own zero rest b le size long =
    let none : b ≡ 0 = omega (arith, size) in
    (replicate n (Text own), ap (λ m. Ok (replicate n (Text own), drop m rest)) (sym none))
long_values n i spec own (suc k) rest b le size long =
    let more : n * (suc k * 8) ≤ length rest = omega (arith, size, long) in
    let texts = texts_some n (suc k) rest more in (
      map (filled (spec.width / 8)) texts.0,
      rw (le-ltb (spec.width / 8) (suc k) le, texts.1)
          (ap (λ m. Ok (map (filled (spec.width / 8)) texts.0, drop m rest)) (sym size)),
    )

pub texts_pass : (n i : ℕ) (spec : Spec) (front : List Bool) (k : ℕ) (rest : List Bool) (c : ℕ)
    (last : List Bool) → TextHead spec front k rest → k ≤ spec.width / 8 → c ≡ n * (k * 8)
    → c ≤ length rest → last ≡ drop c rest → PassesColumn n i spec front last
texts_pass n i spec front k rest c last h le times enough behind =
    let values = long_values n i spec h.own k rest c le times enough in
    (values.0, rw (h.minimum, h.width) (values.1 ∙ ap (λ xs. Ok (values.0, xs)) (sym behind)))

pub number_raw : (kind : Kind) (width : ℕ) (front : List Bool) → same_kind kind kinds.Text ≡ false
    → raw_at_by kind width front ≡ option_map (λ x. (Number x.0, x.1)) (field_number_at width front)
number_raw kinds.Text width front other = absurd cc
number_raw kinds.Code width front other = refl
number_raw kinds.Flag width front other = refl
number_raw kinds.Quantity width front other = refl
number_raw kinds.Count width front other = refl

regroup : {A B C F : Type 0} (r : Result A F) (g : A → B) (f : B → Result C F)
    → (r >>= λ k. f (g k)) ≡ ((r >>= λ k. Ok (g k)) >>= f)
regroup (Ok x) g f = refl
regroup (Err e) g f = refl

-- the width after a minimum of numbers
abbrev head_of : ℕ → Option (ℕ × List Bool) → Result ((ℕ × ℕ) × List Bool) DataFault
head_of i o = do
  minimum ← or_ends i o
  k ← or_ends i (number_at 6 minimum.1)
  Ok ((minimum.0, k.0), k.1)

after_minimum : (n i : ℕ) (spec : Spec) (o : Option (ℕ × List Bool))
    → (or_ends i (option_map {U = Raw × List Bool} (λ x. (Number x.0, x.1)) o)
    >>= λ m. (or_ends i (number_at 6 m.1) >>= λ k. values_at n i spec m.0 k.0 k.1))
    ≡ (head_of i o >>= λ h. values_at n i spec (Number h.0.0) h.0.1 h.1)
after_minimum n i spec None = refl
after_minimum n i spec (Some x) =
    let head : ℕ × List Bool → (ℕ × ℕ) × List Bool = λ k. ((x.0, k.0), k.1) in
    regroup (or_ends i (number_at 6 x.1)) head (λ h. values_at n i spec (Number h.0.0) h.0.1 h.1)

number_column : (n i : ℕ) (spec : Spec) (front : List Bool) → same_kind spec.kind kinds.Text ≡ false
    → column_at n i spec front
    ≡ (head_at i spec.width front >>= λ h. values_at n i spec (Number h.0.0) h.0.1 h.1)
number_column n i spec front other =
    ap (λ o. or_ends i o >>= λ m.
    (or_ends i (number_at 6 m.1) >>= λ k. values_at n i spec m.0 k.0 k.1))
    (number_raw spec.kind spec.width front other)
    ∙ after_minimum n i spec (field_number_at spec.width front)

behind_head : (n i : ℕ) (spec : Spec) (front : List Bool) (m k : ℕ) (rest : List Bool)
    → same_kind spec.kind kinds.Text ≡ false → head_at i spec.width front ≡ Ok ((m, k), rest)
    → column_at n i spec front ≡ values_at n i spec (Number m) k rest
behind_head n i spec front m k rest other e =
    number_column n i spec front other
    ∙ ap (λ r. r >>= λ h. values_at n i spec (Number h.0.0) h.0.1 h.1) e

pub numbers_equal : (n i : ℕ) (spec : Spec) (front : List Bool) (m k : ℕ) (rest : List Bool)
    → same_kind spec.kind kinds.Text ≡ false → head_at i spec.width front ≡ Ok ((m, k), rest)
    → k ≡ 0 → column_at n i spec front ≡ Ok (replicate n (Number m), rest)
numbers_equal n i spec front m k rest other e none =
    behind_head n i spec front m k rest other e
    ∙ ap (λ w. values_at n i spec (Number m) w rest) none

pub numbers_flat : (n i : ℕ) (spec : Spec) (front : List Bool) (m k : ℕ) (rest : List Bool)
    → same_kind spec.kind kinds.Text ≡ false → head_at i spec.width front ≡ Ok ((m, k), rest)
    → k ≡ 0 → PassesColumn n i spec front rest
numbers_flat n i spec front m k rest other e none =
    (replicate n (Number m), numbers_equal n i spec front m k rest other e none)

values_behind : (n i : ℕ) (spec : Spec) (m k : ℕ) (rest : List Bool) → 0 < k → n * k ≤ length rest
    → values_at n i spec (Number m) k rest
    ≡ (all_raised 1 i spec.width m k (numbers n k rest)
    >>= λ values. Ok (values, drop (n * k) rest))
unfolding numbers_at
values_behind n i spec m zero rest some long = absurd (omega (arith, some))
values_behind n i spec m (suc k) rest some long = rw (le-ltb _ _ long) refl

values_short : (n i : ℕ) (spec : Spec) (m k : ℕ) (rest : List Bool) → 0 < k → length rest < n * k
    → values_at n i spec (Number m) k rest ≡ Err (faults.DataEnds 0 i)
unfolding numbers_at
values_short n i spec m zero rest some short = absurd (omega (arith, some))
values_short n i spec m (suc k) rest some short = rw (lt-ltb _ _ short) refl

pub numbers_end : (n i : ℕ) (spec : Spec) (front : List Bool) (m k : ℕ) (rest : List Bool)
    → same_kind spec.kind kinds.Text ≡ false → head_at i spec.width front ≡ Ok ((m, k), rest)
    → 0 < k → length rest < n * k → column_at n i spec front ≡ Err (faults.DataEnds 0 i)
numbers_end n i spec front m k rest other e some short =
    behind_head n i spec front m k rest other e ∙ values_short n i spec m k rest some short

pub numbers_refused : (n i : ℕ) (spec : Spec) (front : List Bool) (m k : ℕ) (rest : List Bool)
    (fault : DataFault) → same_kind spec.kind kinds.Text ≡ false
    → head_at i spec.width front ≡ Ok ((m, k), rest) → 0 < k → n * k ≤ length rest
    → all_raised 1 i spec.width m k (numbers n k rest) ≡ Err fault
    → column_at n i spec front ≡ Err fault
numbers_refused n i spec front m k rest fault other e some long none =
    behind_head n i spec front m k rest other e ∙ values_behind n i spec m k rest some long
    ∙ ap (λ r. r >>= λ values. Ok (values, drop (n * k) rest)) none

pub numbers_read : (n i : ℕ) (spec : Spec) (front : List Bool) (m k : ℕ) (rest last : List Bool)
    (values : List Raw) → same_kind spec.kind kinds.Text ≡ false
    → head_at i spec.width front ≡ Ok ((m, k), rest) → 0 < k → n * k ≤ length rest
    → all_raised 1 i spec.width m k (numbers n k rest) ≡ Ok values → last ≡ drop (n * k) rest
    → column_at n i spec front ≡ Ok (values, last)
numbers_read n i spec front m k rest last values other e some long found behind =
    behind_head n i spec front m k rest other e ∙ values_behind n i spec m k rest some long
    ∙ ap (λ r. r >>= λ values. Ok (values, drop (n * k) rest)) found
    ∙ ap (λ xs. Ok (values, xs)) (sym behind)

raised_there : (width m k x : ℕ) (t : Bool) → (x + 1 == 2 ^ k) ≡ t → x < 2 ^ k
    → m + 2 ^ k < 2 ^ width + 2 → (v : Raw) × (raised width m k x ≡ Some v)
raised_there width m k x true e below narrow = (Number (2 ^ width - 1), rw e refl)
raised_there width m k x false e below narrow =
    let other : x + 1 ≡ 2 ^ k → ⊥ = eqb-false (x + 1) (2 ^ k) e in
    let le : x + 1 ≤ 2 ^ k = omega (arith, below) in
    let less : x + 1 < 2 ^ k = lt_of_le-ne le other in
    let room : m + x < 2 ^ width = omega (arith, less, narrow) in
    (Number (m + x), rw (e, lt-ltb (m + x) (2 ^ width) room) refl)

all_there : (j i width m k : ℕ) (xs : List ℕ) → AllByRecursion (λ x. x < 2 ^ k) xs
    → m + 2 ^ k < 2 ^ width + 2 → (values : List Raw) × (all_raised j i width m k xs ≡ Ok values)
all_there j i width m k [] all narrow = ([], refl)
all_there j i width m k (x ∷ xs) all narrow =
    let here = raised_there width m k x _ refl all.0 narrow in
    let others = all_there (j + 1) i width m k xs all.1 narrow in
    (here.0 ∷ others.0, rw (here.1, others.1) refl)

pub numbers_pass : (n i : ℕ) (spec : Spec) (front : List Bool) (m k : ℕ) (rest last : List Bool)
    → same_kind spec.kind kinds.Text ≡ false → head_at i spec.width front ≡ Ok ((m, k), rest)
    → 0 < k → n * k ≤ length rest → m + 2 ^ k < 2 ^ spec.width + 2 → last ≡ drop (n * k) rest
    → PassesColumn n i spec front last
numbers_pass n i spec front m k rest last other e some long narrow behind =
    let values =
    all_there 1 i spec.width m k (numbers n k rest) (numbers_fit n k rest long) narrow in
    (values.0, numbers_read n i spec front m k rest last values.0 other e some long values.1 behind)

pub no_text : (kind : Kind) → same_kind kind kinds.Count ≡ true → same_kind kind kinds.Text ≡ false
no_text kind is = ap (λ k. same_kind k kinds.Text) (same_kind_is kind kinds.Count is)

pub factor_refused : (n i : ℕ) (spec : Spec) (front : List Bool) (fault : DataFault)
    → column_at n i spec front ≡ Err fault → agreed_at n i spec front ≡ Err fault
factor_refused n i spec front fault e = ap (λ r. r >>= agreeing i spec) e

factor_read : (n i : ℕ) (spec : Spec) (front : List Bool) (values : List Raw) (last : List Bool)
    → column_at n i spec front ≡ Ok (values, last) → all_equal values ≡ true
    → agreed_at n i spec front ≡ Ok (values, last)
factor_read n i spec front values last e same =
    ap (λ r. r >>= agreeing i spec) e
    ∙ agreeing_again i spec (values, last) (λ is. all_equal_is values same)

count_replicated : (n m : ℕ) → 0 < n → count_of (replicate n (Number m)) ≡ m
count_replicated zero m some = absurd (omega (arith, some))
count_replicated (suc n) m some = refl

pub factor_equal : (n i : ℕ) (spec : Spec) (front : List Bool) (m k : ℕ) (rest : List Bool)
    → same_kind spec.kind kinds.Count ≡ true → 0 < n
    → head_at i spec.width front ≡ Ok ((m, k), rest) → k ≡ 0 → PassesFactor n i spec front m rest
factor_equal n i spec front m k rest count some e none =
    let found = numbers_equal n i spec front m k rest (no_text spec.kind count) e none in (
      replicate n (Number m),
      factor_read n i spec front (replicate n (Number m)) rest found
          (all_equal_again (Number m) (replicate n (Number m)) (all_replicated (λ v. v ≡ Number m) n
          (Number m) refl)),
      count_replicated n m some,
    )

pub factor_agrees : (n i : ℕ) (spec : Spec) (front : List Bool) (m k : ℕ) (rest last : List Bool)
    (first : ℕ) (equal : Bool) → same_kind spec.kind kinds.Count ≡ true
    → head_at i spec.width front ≡ Ok ((m, k), rest) → 0 < k → n * k ≤ length rest
    → AreRaised i spec.width m k (numbers n k rest) first equal → last ≡ drop (n * k) rest
    → equal ≡ true → PassesFactor n i spec front first last
factor_agrees n i spec front m k rest last first equal count e some long are behind same =
    let found =
    numbers_read n i spec front m k rest last are.0
    (no_text spec.kind count) e some long are.1 behind in
    (are.0, factor_read n i spec front are.0 last found (are.3 ∙ same), are.2)

pub factor_differs : (n i : ℕ) (spec : Spec) (front : List Bool) (m k : ℕ) (rest : List Bool)
    (first : ℕ) (equal : Bool) → same_kind spec.kind kinds.Count ≡ true
    → head_at i spec.width front ≡ Ok ((m, k), rest) → 0 < k → n * k ≤ length rest
    → AreRaised i spec.width m k (numbers n k rest) first equal → equal ≡ false
    → agreed_at n i spec front ≡ Err (faults.UnequalCounts i)
factor_differs n i spec front m k rest first equal count e some long are differ =
    let found =
    numbers_read n i spec front m k rest (drop (n * k) rest) are.0
    (no_text spec.kind count) e some long are.1 refl in
    ap (λ r. r >>= agreeing i spec) found ∙ rw (count, are.3 ∙ differ) refl
