-- Compressed data are refused at the first column that can't be read, by the course.
use Rattle.std.proofs.Common.{◌≡◌, ℕ, zero, suc, ◌+◌, ◌-◌, ◌*◌, ◌/◌, ◌^◌, ◌<◌, ◌≤◌, Bool, true}
use Rattle.std.proofs.Common.{false, List, [], ◌∷◌, ◌++◌, length, map, get_or, Option, Some, None}
use Rattle.std.proofs.Common.{Result, Ok, Err, refl, sym, ap, subst, ◌∙◌, arith, append_assoc, ◌⊎◌}
use Rattle.std.proofs.Common.{inl, inr}
use Rattle.std.specs.Prelude.{◌==◌, ◌&&◌, not, nat_lt}
use Rattle.std.specs.List.{AllByRecursion}
use Rattle.std.proofs.lemmas.Bool.{and_parts, cases_lt, le-ltb, lt-ltb, ltb-true, ltb-false}
use Rattle.std.proofs.lemmas.Bool.{eqb-true, eqb-false}
use Rattle.std.proofs.lemmas.Bool.{not-true}
use Rattle.std.proofs.Math.Nat.{mul-le-mul_right}
use Rattle.bufr_base.specs.Answers.{◌>>=◌}
use Rattle.bufr_tables.specs.declared.element.Kind.TheVariants as kinds
use Rattle.bufr_tables.specs.Elements.{same_kind}
use Rattle.bufr_base.specs.AnswerLaws.{bind_err, err_is}
use Rattle.bufr_bits.specs.Bits.{bin, number_at, numbers_at}
use Rattle.bufr_bits.specs.BitLaws.{number_at-bin}
use Rattle.bufr_expand.specs.declared.operators.Spec.{Spec}
use Rattle.bufr_expand.specs.Courses.{Course, ends, stops, asks}
use Rattle.bufr_fields.specs.declared.field.Raw.{Raw}
use Rattle.bufr_fields.specs.declared.field.Raw.TheVariants.{Number, Text}
use Rattle.bufr_fields.specs.declared.fault.DataFault.{DataFault}
use Rattle.bufr_fields.specs.declared.fault.DataFault.TheVariants as faults
use Rattle.bufr_data.specs.Plain.{raw_at}
use Rattle.bufr_fields.specs.Forms.{number_of}
use Rattle.bufr_data.specs.Compressed.{IsColumn, Column, HaveOneCount, AreColumns, field_of}
use Rattle.bufr_fields.specs.Increments.{raised}
use Rattle.bufr_data.specs.Compressed.Reading.{or_ends, value_then, all_raised, texts_at}
use Rattle.bufr_data.specs.Compressed.Reading.{values_at, column_at, all_equal, agreeing, count_of}
use Rattle.bufr_data.specs.Compressed.Reading.{columns_at}
use Rattle.bufr_data.specs.Compressed.Causes.{Heads, Increments, Texts, HasValue, ColumnRefused, no_head}
use Rattle.bufr_data.specs.Compressed.Causes.{wide_texts, no_increments, no_texts, passes, unequal}
use Rattle.bufr_data.proofs.CompressedFacts.Courses.{NoneByCourse, RefusedByCourse}
use Rattle.bufr_data.proofs.PlainFacts.Refusals.{stop_is, stop_again}
use Rattle.bufr_fields.specs.Asked.{Passes}
use Rattle.bufr_data.proofs.CompressedFacts.{texts_at_found, texts_again, column_found, column_again}
use Rattle.bufr_data.proofs.CompressedFacts.{ColumnFound}
use Rattle.bufr_data.proofs.CompressedFacts.{or_ends_ok, head_read, heads_found, head_at}
use Rattle.bufr_bits.specs.NumberLaws.{numbers_at_again, numbers_at_found}
use Rattle.bufr_data.proofs.CompressedFacts.Walks.{all_equal_is, all_equal_again, column_form, count_is}
use Rattle.bufr_data.proofs.CompressedFacts.Walks.{agreed_found, agreeing_again}
use Rattle.bufr_fields.specs.Limits.{most_values}
use Rattle.bufr_fields.specs.Fits.{HasForm}
use Rattle.bufr_fields.specs.FormLaws.{same_kind_is}
use Rattle.bufr_data.proofs.AnswerFacts.{guard_err}
use Rattle.bufr_data.proofs.ListFacts.{all_at}

or_ends_err : {A : Type 0} (i : ℕ) (o : Option A) (fault : DataFault) → or_ends i o ≡ Err fault
    → (o ≡ None) × (fault ≡ faults.DataEnds 0 i)
or_ends_err i None fault e = (refl, sym (err_is _ _ e))
or_ends_err i (Some x) fault e = absurd cc

one_some : {A : Type 0} (o : Option A) (x y : A) → o ≡ Some x → o ≡ Some y → x ≡ y
one_some o x y a b = let e = sym a ∙ b in cc

-- an increment without a value, and those before it
abbrev pub RangePassed : ℕ → ℕ → ℕ → ℕ → ℕ → List ℕ → DataFault → Type 0
RangePassed j i width minimum k xs fault =
    (before : List ℕ) × (x : ℕ) × (behind : List ℕ) × (xs ≡ before ++ x ∷ behind)
    × AllByRecursion (HasValue width minimum k) before
    × (HasValue width minimum k x → ⊥) × (fault ≡ faults.IncrementRange (j + length before) i)

value_by : (width minimum k x : ℕ) (ones room : Bool) → (x + 1 == 2 ^ k) ≡ ones
    → nat_lt (minimum + x) (2 ^ width) ≡ room
    → ((raised width minimum k x ≡ None) × (HasValue width minimum k x → ⊥)) ⊎ ((v : Raw)
    × (raised width minimum k x ≡ Some v) × HasValue width minimum k x)
value_by width minimum k x true room o r =
    inr (Number (2 ^ width - 1), rw o refl, inl (eqb-true _ _ o))
value_by width minimum k x false true o r =
    inr (Number (minimum + x), rw (o, r) refl, inr (ltb-true _ _ r))
value_by width minimum k x false false o r =
    inl (
      rw (o, r) refl,
      λ h. elim h [
        | inl ones ↦ eqb-false _ _ o ones
        | inr lt ↦ omega (arith, lt, ltb-false _ _ r)
      ],
    )

value_or : (width minimum k x : ℕ)
    → ((raised width minimum k x ≡ None) × (HasValue width minimum k x → ⊥)) ⊎ ((v : Raw)
    × (raised width minimum k x ≡ Some v) × HasValue width minimum k x)
value_or width minimum k x = value_by width minimum k x _ _ refl refl

then_err : (j i : ℕ) (v : Raw) (others : Result (List Raw) DataFault) (fault : DataFault)
    → value_then j i (Some v) others ≡ Err fault → others ≡ Err fault
then_err j i v (Ok ws) fault e = absurd cc
then_err j i v (Err g) fault e = ap (λ f. Err f) (err_is _ _ e)

range_passed : (j i width minimum k : ℕ) (xs : List ℕ) (fault : DataFault)
    → all_raised j i width minimum k xs ≡ Err fault → RangePassed j i width minimum k xs fault
range_passed j i width minimum k [] fault e = absurd cc
range_passed j i width minimum k (x ∷ xs) fault e =
    elim (value_or width minimum k x) [
      | inl none ↦
          let first =
          sym (ap (λ o. value_then j i o (all_raised (j + 1) i width minimum k xs)) none.0)
          ∙ e in
          let same : j ≡ j + 0 = omega arith in (
            [],
            x,
            xs,
            refl,
            tt,
            none.1,
            sym (err_is _ _ first)
                ∙ ap (λ l. faults.IncrementRange l i) same,
          )
      | inr some ↦
          let others =
          then_err j i some.0 (all_raised (j + 1) i width minimum k xs) fault
          (sym (ap (λ o. value_then j i o (all_raised (j + 1) i width minimum k xs)) some.1)
          ∙ e) in
          let h = range_passed (j + 1) i width minimum k xs fault others in
          let same : j + 1 + length h.0 ≡ j + suc (length h.0) = omega arith in (
            x ∷ h.0,
            h.1,
            h.2,
            ap (λ ys. x ∷ ys) h.3,
            (some.2, h.4),
            h.5,
            h.6
                ∙ ap (λ l. faults.IncrementRange l i) same,
          )
    ]

range_again : (j i width minimum k : ℕ) (before : List ℕ) (x : ℕ) (behind : List ℕ)
    → AllByRecursion (HasValue width minimum k) before → (HasValue width minimum k x → ⊥)
    → all_raised j i width minimum k (before ++ x ∷ behind)
    ≡ Err (faults.IncrementRange (j + length before) i)
range_again j i width minimum k [] x behind all none =
    elim (value_or width minimum k x) [
      | inl h ↦ rw h.0 (ap (λ l. Err (faults.IncrementRange l i)) (omega arith))
      | inr h ↦ absurd (none h.2)
    ]
range_again j i width minimum k (y ∷ before) x behind all none =
    elim (value_or width minimum k y) [
      | inl h ↦ absurd (h.1 all.0)
      | inr h ↦
          let same : j + 1 + length before ≡ j + suc (length before) = omega arith in
          rw (h.1, range_again (j + 1) i width minimum k before x behind all.1 none)
          (ap (λ l. Err (faults.IncrementRange l i)) same)
    ]

no_raw : (spec : Spec) (front : List Bool) → raw_at spec front ≡ None
    → (minimum : Raw) (k : ℕ) (rest : List Bool) → Heads spec front minimum k rest → ⊥
no_raw spec front e minimum k rest h =
    let some = sym e ∙ head_read spec front minimum k rest h in cc

no_width : (spec : Spec) (front : List Bool) (x : Raw × List Bool) → raw_at spec front ≡ Some x
    → number_at 6 x.1 ≡ None → (minimum : Raw) (k : ℕ) (rest : List Bool)
    → Heads spec front minimum k rest → ⊥
no_width spec front x first e minimum k rest h =
    let same : x ≡ (minimum, bin 6 k ++ rest) =
    one_some (raw_at spec front) _ _ first (head_read spec front minimum k rest h) in
    let some = sym e ∙ ap (λ (y : Raw × List Bool). number_at 6 y.1) same
    ∙ number_at-bin 6 k rest h.few in
    cc

none_numbers : (n k : ℕ) (front : List Bool) → numbers_at n k front ≡ None → (xs : List ℕ)
    → Increments n k front xs → ⊥
none_numbers n k front e xs h =
    let some =
    sym e ∙ ap (numbers_at n k) h.spelt ∙ numbers_at_again k n xs h.rest h.many h.fit in cc

none_texts : (n k : ℕ) (front : List Bool) → texts_at n k front ≡ None → (own : List (List ℕ))
    → Texts n k front own → ⊥
none_texts n k front e own h =
    let some =
    sym e ∙ (λ t. texts_at (sym h.many t) k (h.spelt t)) ∙ texts_again k own h.rest h.octets in
    cc

values_refused : (n i : ℕ) (spec : Spec) (front : List Bool) (minimum : Raw) (k : ℕ)
    (rest : List Bool) (fault : DataFault) → Heads spec front minimum k rest
    → values_at n i spec minimum k rest ≡ Err fault → ColumnRefused n i spec front fault
values_refused n i spec front minimum zero rest fault h e = absurd cc
values_refused n i spec front (Number minimum) (suc k) rest fault h e =
    elim (bind_err (or_ends i (numbers_at n (suc k) rest)) _ fault e) [
      | inl none ↦
          let is = or_ends_err i (numbers_at n (suc k) rest) fault none in
          no_increments minimum (suc k) rest h (omega arith) (none_numbers n (suc k) rest is.0) is.1
      | inr some ↦
          let xs = some.0 in
          let found = numbers_at_found n (suc k) rest xs (or_ends_ok i
          (numbers_at n (suc k) rest) xs some.1) in
          elim (bind_err (all_raised 1 i spec.width minimum (suc k) xs.0) _ fault some.2) [
            | inl none ↦
                let p = range_passed 1 i spec.width minimum (suc k) xs.0 fault none in
                let incs : Increments n (suc k) rest xs.0 =
                record { rest = xs.1; many = found.0; fit = found.1; spelt = found.2 } in
                passes minimum (suc k) rest p.0 p.1 p.2 h (omega arith)
                (subst (Increments n (suc k) rest) p.3 incs) p.4 p.5 p.6
            | inr ok ↦ let bad = ok.2 in absurd cc
          ]
    ]
values_refused n i spec front (Text ignored) (suc k) rest fault h e =
    elim (guard_err (nat_lt (spec.width / 8) (suc k)) _ fault _ e) [
      | inl wide ↦ wide_texts ignored (suc k) rest h (ltb-true _ _ wide.0) (sym wide.1)
      | inr fits ↦
          elim (bind_err (or_ends i (texts_at n (suc k) rest)) _ fault fits.1) [
            | inl none ↦
                let is = or_ends_err i (texts_at n (suc k) rest) fault none in
                no_texts ignored (suc k) rest h (omega arith) (ltb-false _ _ fits.0)
                (none_texts n (suc k) rest is.0) is.1
            | inr ok ↦ let bad = ok.2 in absurd cc
          ]
    ]

column_refused : (n i : ℕ) (spec : Spec) (front : List Bool) (fault : DataFault)
    → column_at n i spec front ≡ Err fault → ColumnRefused n i spec front fault
column_refused n i spec front fault e =
    elim (bind_err (or_ends i (raw_at spec front)) _ fault e) [
      | inl none ↦ let is = or_ends_err i (raw_at spec front) fault none in
          no_head (no_raw spec front is.0) is.1
      | inr x ↦
          let first = or_ends_ok i (raw_at spec front) x.0 x.1 in
          elim (bind_err (or_ends i (number_at 6 x.0.1)) _ fault x.2) [
            | inl none ↦ let is = or_ends_err i (number_at 6 x.0.1) fault none in
                no_head (no_width spec front x.0 first is.0) is.1
            | inr y ↦
                let second = or_ends_ok i (number_at 6 x.0.1) y.0 y.1 in
                values_refused n i spec front x.0.0 y.0.0 y.0.1 fault
                (heads_found spec front x.0 y.0 first second) y.2
          ]
    ]

unequal_err : (i : ℕ) (spec : Spec) (x : List Raw × List Bool) (fault : DataFault)
    → agreeing i spec x ≡ Err fault
    → (spec.kind ≡ kinds.Count) × (all_equal x.0 ≡ false) × (fault ≡ faults.UnequalCounts i)
unequal_err i spec x fault e =
    elim (guard_err (same_kind spec.kind kinds.Count && not (all_equal x.0)) _ fault _ e) [
      | inl is ↦
          let p = and_parts (same_kind spec.kind kinds.Count) (not (all_equal x.0)) is.0 in
          (same_kind_is spec.kind kinds.Count p.0, not-true (all_equal x.0) p.1, sym is.1)
      | inr no_fault ↦ let bad = no_fault.1 in absurd cc
    ]

pub read_column_refused : (n i : ℕ) (spec : Spec) (front : List Bool) (fault : DataFault)
    → (column_at n i spec front >>= agreeing i spec) ≡ Err fault
    → ColumnRefused n i spec front fault
read_column_refused n i spec front fault e =
    elim (bind_err (column_at n i spec front) _ fault e) [
      | inl none ↦ column_refused n i spec front fault none
      | inr x ↦
          let found = column_found n i spec front x.0 x.1 in
          let is = unequal_err i spec x.0 fault x.2 in
          unequal x.0.0 found.0 x.0.1 found.2 found.1 found.3 is.0
          (λ v all. let yes = all_equal_again v x.0.0 all in let bad = sym yes ∙ is.1 in cc) is.2
    ]

none_by : {A : Type 0} (o : Option A) → ((x : A) → o ≡ Some x → ⊥) → o ≡ None
none_by None none = refl
none_by (Some x) none = absurd (none x refl)

no_width_by : (n i : ℕ) (spec : Spec) (front : List Bool) (x : Raw × List Bool)
    (o : Option (ℕ × List Bool)) → raw_at spec front ≡ Some x → number_at 6 x.1 ≡ o
    → ((minimum : Raw) (k : ℕ) (rest : List Bool) → Heads spec front minimum k rest → ⊥)
    → column_at n i spec front ≡ Err (faults.DataEnds 0 i)
no_width_by n i spec front x None first e none = rw (first, e) refl
no_width_by n i spec front x (Some y) first e none =
    absurd (none x.0 y.0 y.1 (heads_found spec front x y first e))

no_head_by : (n i : ℕ) (spec : Spec) (front : List Bool) (o : Option (Raw × List Bool))
    → raw_at spec front ≡ o
    → ((minimum : Raw) (k : ℕ) (rest : List Bool) → Heads spec front minimum k rest → ⊥)
    → column_at n i spec front ≡ Err (faults.DataEnds 0 i)
no_head_by n i spec front None e none = rw e refl
no_head_by n i spec front (Some x) e none =
    no_width_by n i spec front x (number_at 6 x.1) e refl none

equal_values_by : (values : List Raw) (b : Bool) → all_equal values ≡ b
    → ((v : Raw) → AllByRecursion (λ w. w ≡ v) values → ⊥) → b ≡ false
equal_values_by values true e differ = let h = all_equal_is values e in absurd (differ h.0 h.1)
equal_values_by values false e differ = refl

not_equal_values : (values : List Raw) → ((v : Raw) → AllByRecursion (λ w. w ≡ v) values → ⊥)
    → all_equal values ≡ false
not_equal_values values differ = equal_values_by values (all_equal values) refl differ

no_head_read : (n i : ℕ) (spec : Spec) (front : List Bool)
    → ((minimum : Raw) (k : ℕ) (rest : List Bool) → Heads spec front minimum k rest → ⊥)
    → column_at n i spec front ≡ Err (faults.DataEnds 0 i)
no_head_read n i spec front none = no_head_by n i spec front (raw_at spec front) refl none

pub column_refused_again : (n i : ℕ) (spec : Spec) (front : List Bool) (fault : DataFault)
    → ColumnRefused n i spec front fault
    → (column_at n i spec front >>= agreeing i spec) ≡ Err fault
column_refused_again n i spec front fault (no_head none is) =
    ap (λ o. o >>= agreeing i spec) (no_head_read n i spec front none) ∙ ap (λ f. Err f) (sym is)
column_refused_again n i spec front fault (wide_texts ignored zero rest h wide is) =
    absurd (omega (arith, wide))
column_refused_again n i spec front fault (wide_texts ignored (suc k) rest h wide is) =
    rw (head_at n i spec front (Text ignored) (suc k) rest h, lt-ltb (spec.width / 8) (suc k) wide)
    (ap (λ f. Err f) (sym is))
column_refused_again n i spec front fault (no_increments minimum zero rest h some none is) =
    absurd (omega (arith, some))
column_refused_again n i spec front fault (no_increments minimum (suc k) rest h some none is) =
    let missing : numbers_at n (suc k) rest ≡ None =
    none_by _
    (λ x e. let f = numbers_at_found n (suc k) rest x e in
    none x.0 (record { rest = x.1; many = f.0; fit = f.1; spelt = f.2 })) in
    rw (head_at n i spec front (Number minimum) (suc k) rest h, missing) (ap (λ f. Err f) (sym is))
column_refused_again n i spec front fault (no_texts ignored zero rest h some short none is) =
    absurd (omega (arith, some))
column_refused_again n i spec front fault (no_texts ignored (suc k) rest h some short none is) =
    let missing : texts_at n (suc k) rest ≡ None =
    none_by _
    (λ x e. let f = texts_at_found n (suc k) rest x e in
    none x.0 (record { rest = x.1; many = f.0; octets = f.1; spelt = f.2 })) in
    rw (
      head_at n i spec front (Text ignored) (suc k) rest h,
      le-ltb (spec.width / 8) (suc k) short,
      missing,
    ) (ap (λ f. Err f) (sym is))
column_refused_again n i spec front fault
    (passes minimum zero rest before x behind h some incs all none is) = absurd
    (omega (arith, some))
column_refused_again n i spec front fault
    (passes minimum (suc k) rest before x behind h some incs all none is) =
    let read =
    ap (numbers_at n (suc k)) incs.spelt
    ∙ numbers_at_again (suc k) n (before ++ x ∷ behind) incs.rest incs.many incs.fit in
    rw (
      head_at n i spec front (Number minimum) (suc k) rest h,
      read,
      range_again 1 i spec.width minimum (suc k) before x behind all none,
    )
    (ap (λ f. Err f) (sym is))
column_refused_again n i spec front fault
    (unequal values column rest c many spelt count differ is) =
    let differ_is : all_equal values ≡ false = not_equal_values values differ in
    rw (spelt, column_again n i spec values column rest many c, count, differ_is)
    (ap (λ f. Err f) (sym is))

refused_here : (n i : ℕ) (c : Course) (front : List Bool) (fault : DataFault)
    → NoneByCourse n i c front fault → RefusedByCourse n i c front fault
refused_here n i c front fault h =
    let same : i ≡ i + 0 = omega arith in
    record {
      before = [];
      packed =
          [];
      rest =
          front;
      next =
          c;
      columns =
          refl;
      passed =
          refl;
      spelt = refl;
      refused = subst (λ k. NoneByCourse n k c front fault) same h;
    }

refused_behind : (n i met d : ℕ) (spec : Spec) (more : ℕ → Course) (front : List Bool)
    (x : List Raw × List Bool) (fault : DataFault) → 0 < n → ColumnFound n spec front x
    → (spec.kind ≡ kinds.Count → (v : Raw) × AllByRecursion (λ w. w ≡ v) x.0)
    → RefusedByCourse n (i + 1) (more (count_of x.0)) x.1 fault
    → RefusedByCourse n i (asks met d spec more) front fault
refused_behind n i met d spec more front x fault some found one r =
    let column : Column = record { fxy = d; spec = spec; values = x.0 } in
    let inside : 0 < length x.0 = omega (arith, some, found.1) in
    let form = all_at (HasForm spec) x.0 0 (Number 0) (column_form spec x.0 found.0 found.2) inside
    in
    let passed =
    subst (λ k. Passes (more k) (map (field_of 0) r.before) r.next)
    (count_is x.0 inside) r.passed in
    let same : i + 1 + length r.before ≡ i + suc (length r.before) = omega arith in
    record {
      before = column ∷ r.before;
      packed = found.0 ++ r.packed;
      rest = r.rest;
      next = r.next;
      columns = (found.0, r.packed, refl, found.1, found.2, one, r.columns);
      passed = ((refl, refl, form), passed);
      spelt =
          found.3 ∙ ap (λ xs. found.0 ++ xs) r.spelt ∙ sym (append_assoc found.0 r.packed r.rest);
      refused = subst (λ k. NoneByCourse n k r.next r.rest fault) same r.refused;
    }

pub columns_refused : (n i : ℕ) (c : Course) (front : List Bool) (fault : DataFault) → 0 < n
    → columns_at n i c front ≡ Err fault → RefusedByCourse n i c front fault
unfolding columns_at
columns_refused n i (ends met) front fault some e = absurd cc
columns_refused n i (stops met why) front fault some e =
    elim (guard_err (nat_lt most_values (i * n)) _ fault _ e) [
      | inl past ↦
          refused_here n i (stops met why) front fault (inl (ltb-true _ _ past.0, sym past.1))
      | inr within ↦
          refused_here n i (stops met why) front fault
          (inr (ltb-false _ _ within.0, stop_is why fault within.1))
    ]
columns_refused n i (asks met d spec more) front fault some e =
    elim (guard_err (nat_lt most_values (i * n)) _ fault _ e) [
      | inl past ↦
          refused_here n i (asks met d spec more) front fault
          (inl (ltb-true _ _ past.0, sym past.1))
      | inr within ↦
          elim (bind_err (column_at n i spec front >>= agreeing i spec) _ fault within.1) [
            | inl none ↦
                refused_here n i (asks met d spec more) front fault
                (inr (ltb-false _ _ within.0, read_column_refused n i spec front fault none))
            | inr a ↦
                let h = agreed_found n i spec front a.0 a.1 in
                elim (bind_err (columns_at n (i + 1) (more (count_of a.0.0)) a.0.1) _ fault a.2) [
                  | inl none ↦
                      refused_behind n i met d spec more front a.0 fault some h.1
                      (λ is. all_equal_is a.0.0 (h.2 is))
                      (columns_refused n (i + 1) (more (count_of a.0.0)) a.0.1 fault some none)
                  | inr ok ↦ let bad = ok.2 in absurd cc
                ]
          ]
    ]

past_is : (n i : ℕ) (next : Course) (rest : List Bool) (fault : DataFault) → most_values < i * n
    → NoneByCourse n i next rest fault → fault ≡ faults.TooLarge
past_is n i (ends met) rest fault past h = absurd h
past_is n i (stops met why) rest fault past (inl h) = h.1
past_is n i (stops met why) rest fault past (inr h) = absurd (omega (arith, past, h.0))
past_is n i (asks met d spec more) rest fault past (inl h) = h.1
past_is n i (asks met d spec more) rest fault past (inr h) = absurd (omega (arith, past, h.0))

grown : (i l n : ℕ) → most_values < i * n → most_values < (i + l) * n
grown i l n past =
    let more : i ≤ i + l = omega arith in
    let le : i * n ≤ (i + l) * n = mul-le-mul_right n more in
    omega (arith, past, le)

here_again : (n i : ℕ) (next : Course) (front : List Bool) (fault : DataFault)
    → NoneByCourse n i next front fault → columns_at n i next front ≡ Err fault
unfolding columns_at
here_again n i (ends met) front fault h = absurd h
here_again n i (stops met why) front fault (inl h) = rw (lt-ltb _ _ h.0) (ap (λ f. Err f) (sym h.1))
here_again n i (stops met why) front fault (inr h) = rw (le-ltb _ _ h.0) (stop_again why fault h.1)
here_again n i (asks met d spec more) front fault (inl h) =
    rw (lt-ltb _ _ h.0) (ap (λ f. Err f) (sym h.1))
here_again n i (asks met d spec more) front fault (inr h) =
    rw (le-ltb _ _ h.0, column_refused_again n i spec front fault h.1) refl

step_again : (n i met : ℕ) (x : Column) (more : ℕ → Course) (column others : List Bool)
    (fault : DataFault) → 0 < n → length x.values ≡ n → IsColumn x.spec x.values column
    → HaveOneCount x → (most_values < i * n → fault ≡ faults.TooLarge)
    → columns_at n (i + 1) (more (number_of (get_or x.values 0 (Number 0)))) others ≡ Err fault
    → columns_at n i (asks met x.fxy x.spec more) (column ++ others) ≡ Err fault
unfolding columns_at
step_again n i met x more column others fault some many is one past after =
    elim (cases_lt most_values (i * n)) [
      | inl lt ↦ rw (lt-ltb _ _ lt) (ap (λ f. Err f) (sym (past lt)))
      | inr le ↦
          let count : count_of x.values ≡ number_of (get_or x.values 0 (Number 0)) =
          count_is x.values (omega (arith, some, many)) in
          rw (
            le-ltb _ _ le,
            column_again n i x.spec x.values column others many is,
            agreeing_again i x.spec (x.values, others) one,
            count,
            after,
          ) refl
    ]

refused_again : (n i : ℕ) (c : Course) (before : List Column) (packed rest : List Bool)
    (next : Course) (fault : DataFault) → 0 < n → AreColumns n before packed
    → Passes c (map (field_of 0) before) next → NoneByCourse n (i + length before) next rest fault
    → columns_at n i c (packed ++ rest) ≡ Err fault
refused_again n i c [] packed rest next fault some are passed h =
    let same : i + 0 ≡ i = omega arith in
    rw are
    (here_again n i c rest fault
    (subst (λ k. NoneByCourse n k c rest fault) same
    (subst (λ d. NoneByCourse n (i + 0) d rest fault) (sym passed) h)))
refused_again n i (ends met) (x ∷ before) packed rest next fault some are passed h = absurd passed
refused_again n i (stops met why) (x ∷ before) packed rest next fault some are passed h =
    absurd passed
refused_again n i (asks met d spec more) (x ∷ before) packed rest next fault some are passed h =
    let same : i + suc (length before) ≡ i + 1 + length before = omega arith in
    let later = subst (λ k. NoneByCourse n k next rest fault) same h in
    let after =
    refused_again n (i + 1)
    (more
    (number_of
    (get_or x.values 0 (Number 0)))) before are.1 rest next fault some are.6 passed.1 later in
    let past =
    λ (lt : most_values < i * n). past_is n (i + suc (length before)) next rest fault
    (grown i (suc (length before)) n lt) h in
    let step =
    step_again n i met x more are.0 (are.1 ++ rest) fault some are.3 are.4 are.5 past after in
    let course : asks met x.fxy x.spec more ≡ asks met d spec more =
    λ t. asks met (passed.0.0 t) (passed.0.1 t) more in
    ap (λ xs. columns_at n i (asks met d spec more) xs)
    (ap (λ xs. xs ++ rest) are.2 ∙ append_assoc are.0 are.1 rest)
    ∙ sym (ap (λ c. columns_at n i c (are.0 ++ (are.1 ++ rest))) course) ∙ step

pub columns_refused_again : (n i : ℕ) (c : Course) (front : List Bool) (fault : DataFault) → 0 < n
    → RefusedByCourse n i c front fault → columns_at n i c front ≡ Err fault
columns_refused_again n i c front fault some r =
    ap (columns_at n i c) r.spelt
    ∙ refused_again n i c r.before r.packed r.rest r.next fault some r.columns r.passed
    r.refused
