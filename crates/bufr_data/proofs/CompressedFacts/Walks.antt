-- Columns along a course: for every subset, what is read is what the bits hold.
use Rattle.std.proofs.Common.{◌≡◌, ℕ, suc, ◌+◌, ◌-◌, ◌*◌, ◌/◌, ◌^◌, ◌<◌, ◌≤◌, Bool, true, false}
use Rattle.std.proofs.Common.{cond, ltb, List, [], ◌∷◌, ◌++◌, length, map, replicate, get_or, Ok}
use Rattle.std.proofs.Common.{Err, refl, sym, ap, subst, ◌∙◌, arith, append_assoc, length-append}
use Rattle.std.specs.Prelude.{◌&&◌, not, nat_lt}
use Rattle.std.specs.List.{AllByRecursion, list_all}
use Rattle.std.proofs.lemmas.Bool.{and_parts, le-ltb, ltb-false, eqb-true, eq-eqb}
use Rattle.std.proofs.lemmas.List.{length-replicate}
use Rattle.std.proofs.lemmas.Slice.Eq.{bytes_eq-Decides}
use Rattle.bufr_base.specs.Answers.{◌>>=◌}
use Rattle.bufr_tables.specs.declared.element.Kind.TheVariants as kinds
use Rattle.bufr_tables.specs.Elements.{same_kind}
use Rattle.bufr_base.specs.AnswerLaws.{bind_ok, guard_ok as guarded, ok_is, not_false}
use Rattle.bufr_expand.specs.declared.operators.Spec.{Spec}
use Rattle.bufr_expand.specs.Courses.{Course, ends, stops, asks}
use Rattle.bufr_fields.specs.declared.field.Raw.{Raw}
use Rattle.bufr_fields.specs.declared.field.Raw.TheVariants.{Number, Text}
use Rattle.bufr_fields.specs.declared.fault.DataFault.TheVariants as faults
use Rattle.bufr_fields.specs.Forms.{number_of, matches_spec, items_of}
use Rattle.bufr_fields.specs.Fits.{HasForm, of_text, of_number}
use Rattle.bufr_expand.specs.Steady.{IsSteady}
use Rattle.bufr_data.specs.Compressed.{HasIncrement, HasText, IsColumn, equal}
use Rattle.bufr_data.specs.Compressed.{numbers as number_column, texts as text_column, above, missing}
use Rattle.bufr_data.specs.Compressed.{filled as is_filled, ones as ones_text, Column, HaveOneCount}
use Rattle.bufr_data.specs.Compressed.{AreColumns, field_of}
use Rattle.bufr_data.specs.Compressed.Reading.{column_at, same_raw, all_equal, agreeing, count_of}
use Rattle.bufr_data.specs.Compressed.Reading.{ColumnsFound, columns_at}
use Rattle.bufr_fields.specs.FitLaws.{guard_ok}
use Rattle.bufr_data.proofs.PlainFacts.{not_stopped}
use Rattle.std.proofs.lemmas.Nat.{pow_pos}
use Rattle.bufr_data.proofs.CompressedFacts.{column_again, column_found, ColumnFound, pairwise_other}
use Rattle.bufr_data.proofs.KindFacts.{kinds_differ}
use Rattle.bufr_data.proofs.ListFacts.{all_at, all_joined, all_replicated}
use Rattle.bufr_fields.specs.Limits.{most_values}
use Rattle.bufr_fields.specs.FormLaws.{asked_is, asked_passes, same_kind_is}

-- every value fits its spec
abbrev pub AllForm : Spec → List Raw → Type 0
AllForm spec values = AllByRecursion (λ v. HasForm spec v) values

equal_form : (spec : Spec) (minimum : Raw) (vs : List Raw) → HasForm spec minimum
    → AllByRecursion (λ v. v ≡ minimum) vs → AllForm spec vs
equal_form spec minimum [] form all = tt
equal_form spec minimum (v ∷ vs) form all =
    (subst (λ w. HasForm spec w) (sym all.0) form, equal_form spec minimum vs form all.1)

number_kind : (spec : Spec) (n : ℕ) → HasForm spec (Number n)
    → (spec.kind ≡ kinds.Text → ⊥) × (spec.width ≤ 64)
number_kind spec n (of_number m other few below) = (other, few)

pub text_kind : (spec : Spec) (os : List ℕ) → HasForm spec (Text os) → spec.kind ≡ kinds.Text
text_kind spec os (of_text bs is size all) = is

increment_form : (spec : Spec) (minimum k x : ℕ) (v : Raw) → (spec.kind ≡ kinds.Text → ⊥)
    → spec.width ≤ 64 → HasIncrement spec.width minimum k x v → HasForm spec v
increment_form spec minimum k x v other few (above below room is) =
    subst (λ w. HasForm spec w) (sym is) (of_number (minimum + x) other few room)
increment_form spec minimum k x v other few (missing ones is) =
    subst (λ w. HasForm spec w) (sym is) (of_number (2 ^ spec.width - 1) other few
    (omega (arith, pow_pos spec.width)))

text_form : (spec : Spec) (k : ℕ) (own : List ℕ) (v : Raw) → spec.kind ≡ kinds.Text
    → k ≤ spec.width / 8 → HasText (spec.width / 8) k own v → HasForm spec v
text_form spec k own v is short (is_filled size all other value) =
    let spaces : length {A = ℕ} (replicate (spec.width / 8 - k) 32) ≡ spec.width / 8 - k =
    length-replicate _ _ in
    let whole : length (own ++ replicate (spec.width / 8 - k) 32) ≡ spec.width / 8 =
    omega (arith, length-append own (replicate (spec.width / 8 - k) 32), size, spaces, short) in
    let bytes = all_joined (λ x. x < 256) own (replicate (spec.width / 8 - k) 32) all
    (all_replicated (λ x. x < 256) (spec.width / 8 - k) 32 (omega arith)) in
    subst (λ w. HasForm spec w) (sym value) (of_text (own ++ replicate (spec.width / 8 - k) 32) is
    whole bytes)
text_form spec k own v is short (ones_text ones value) =
    subst (λ w. HasForm spec w) (sym value) (of_text (replicate (spec.width / 8) 255) is
    (length-replicate _ _)
    (all_replicated (λ x. x < 256) (spec.width / 8) 255 (omega arith)))

pub column_form : (spec : Spec) (values : List Raw) (column : List Bool)
    → IsColumn spec values column → AllForm spec values
column_form spec values column (equal minimum form same is) =
    equal_form spec minimum values form same
column_form spec values column (number_column minimum k increments form some few each is) =
    let kind = number_kind spec minimum form in
    pairwise_other (HasIncrement spec.width minimum k) (HasForm spec)
    (λ x v. increment_form spec minimum k x v kind.0 kind.1) increments values each
column_form spec values column (text_column ignored k own form some few short each is) =
    pairwise_other (HasText (spec.width / 8) k) (HasForm spec)
    (λ x v. text_form spec k x v (text_kind spec ignored form) short) own values each

same_raw_is : (a b : Raw) → same_raw a b ≡ true → a ≡ b
same_raw_is (Number a) (Number b) e = ap (λ n. Number n) (eqb-true a b e)
same_raw_is (Text a) (Text b) e = ap (λ os. Text os) ((bytes_eq-Decides a b).0 e)
same_raw_is (Number a) (Text b) e = absurd cc
same_raw_is (Text a) (Number b) e = absurd cc

same_raw_again : (a : Raw) → same_raw a a ≡ true
same_raw_again (Number a) = eq-eqb a a refl
same_raw_again (Text a) = (bytes_eq-Decides a a).1 refl

pub are_equal : (v : Raw) (vs : List Raw) → list_all (λ w. same_raw w v) vs ≡ true
    → AllByRecursion (λ w. w ≡ v) vs
are_equal v [] e = tt
are_equal v (w ∷ vs) e =
    let p = and_parts (same_raw w v) (list_all (λ u. same_raw u v) vs) e in
    (same_raw_is w v p.0, are_equal v vs p.1)

are_equal_again : (u v : Raw) (vs : List Raw) → v ≡ u → AllByRecursion (λ w. w ≡ u) vs
    → list_all (λ w. same_raw w v) vs ≡ true
are_equal_again u v [] is all = refl
are_equal_again u v (w ∷ vs) is all =
    let same : same_raw w v ≡ true = ap (λ x. same_raw x v) (all.0 ∙ sym is) ∙ same_raw_again v in
    rw (same, are_equal_again u v vs is all.1) refl

pub all_equal_is : (vs : List Raw) → all_equal vs ≡ true
    → (v : Raw) × AllByRecursion (λ w. w ≡ v) vs
all_equal_is [] e = (Number 0, tt)
all_equal_is (v ∷ vs) e = (v, (refl, are_equal v vs e))

pub all_equal_again : (v : Raw) (vs : List Raw) → AllByRecursion (λ w. w ≡ v) vs
    → all_equal vs ≡ true
all_equal_again v [] all = refl
all_equal_again v (w ∷ vs) all = are_equal_again v w vs all.0 all.1

agreeing_again_by : (i : ℕ) (spec : Spec) (x : List Raw × List Bool) (b : Bool)
    → same_kind spec.kind kinds.Count ≡ b
    → (spec.kind ≡ kinds.Count → (v : Raw) × AllByRecursion (λ w. w ≡ v) x.0)
    → cond (b && not (all_equal x.0)) (Err (faults.UnequalCounts i)) (Ok x) ≡ Ok x
agreeing_again_by i spec x false e one = refl
agreeing_again_by i spec x true e one =
    let h = one (same_kind_is spec.kind kinds.Count e) in rw (all_equal_again h.0 x.0 h.1) refl

pub agreeing_again : (i : ℕ) (spec : Spec) (x : List Raw × List Bool)
    → (spec.kind ≡ kinds.Count → (v : Raw) × AllByRecursion (λ w. w ≡ v) x.0)
    → agreeing i spec x ≡ Ok x
agreeing_again i spec x one = agreeing_again_by i spec x _ refl one

agreed_by : (spec : Spec) (x : List Raw × List Bool) (b : Bool)
    → same_kind spec.kind kinds.Count ≡ b → (b && not (all_equal x.0)) ≡ false
    → spec.kind ≡ kinds.Count → all_equal x.0 ≡ true
agreed_by spec x false e agree is = absurd (kinds_differ spec.kind kinds.Count e is)
agreed_by spec x true e agree is = not_false (all_equal x.0) agree

agreed : (i : ℕ) (spec : Spec) (x y : List Raw × List Bool) → agreeing i spec x ≡ Ok y
    → (x ≡ y) × (spec.kind ≡ kinds.Count → all_equal x.0 ≡ true)
agreed i spec x y e =
    let g = guarded (same_kind spec.kind kinds.Count && not (all_equal x.0)) _ _ y e in
    (ok_is x y g.1, agreed_by spec x _ refl g.0)

pub agreed_found : (n i : ℕ) (spec : Spec) (front : List Bool) (y : List Raw × List Bool)
    → (column_at n i spec front >>= agreeing i spec) ≡ Ok y
    → (column_at n i spec front ≡ Ok y) × ColumnFound n spec front y
    × (spec.kind ≡ kinds.Count → all_equal y.0 ≡ true)
agreed_found n i spec front y e =
    let b = bind_ok (column_at n i spec front) _ y e in
    let same = agreed i spec b.0 y b.2 in
    let read : column_at n i spec front ≡ Ok y = b.1 ∙ ap (λ x. Ok x) same.0 in (
      read,
      column_found n i spec front y read,
      λ is. ap (λ (x : List Raw × List Bool). all_equal x.0) (sym same.0) ∙ same.1 is,
    )

pub count_is : (values : List Raw) → 0 < length values
    → count_of values ≡ number_of (get_or values 0 (Number 0))
count_is [] some = absurd (omega (arith, some))
count_is (v ∷ vs) some = refl

limit_step : (i l n : ℕ) → (i + suc l) * n ≤ most_values + n
    → (i * n ≤ most_values) × ((i + 1 + l) * n ≤ most_values + n)
limit_step i l n h = (omega (arith, h), omega (arith, h))

column_step : (n i met : ℕ) (x : Column) (cs : List Column) (more : ℕ → Course)
    (column others rest : List Bool) (items : ℕ) → 0 < n → length x.values ≡ n
    → IsColumn x.spec x.values column → HaveOneCount x → i * n ≤ most_values
    → columns_at n (i + 1) (more (number_of (get_or x.values 0 (Number 0)))) (others ++ rest)
    ≡ Ok (record { columns = cs; items = items; rest = rest })
    → columns_at n i (asks met x.fxy x.spec more) ((column ++ others) ++ rest)
    ≡ Ok (record { columns = x ∷ cs; items = items; rest = rest })
unfolding columns_at
column_step n i met x cs more column others rest items some many is one room after =
    let within : ltb most_values (i * n) ≡ false = le-ltb _ _ room in
    let count : count_of x.values ≡ number_of (get_or x.values 0 (Number 0)) =
    count_is x.values (omega (arith, some, many)) in
    rw (
      within,
      append_assoc column others rest,
      column_again n i x.spec x.values column (others ++ rest) many is,
      agreeing_again i x.spec (x.values, others ++ rest) one,
      count,
      after,
    ) refl

pub columns_again : (n i j : ℕ) (c : Course) (cs : List Column) (items : ℕ) (front rest : List Bool)
    → 0 < n → AreColumns n cs front → items_of j i c (map (field_of 0) cs) ≡ Ok items
    → (i + length cs) * n ≤ most_values + n
    → columns_at n i c (front ++ rest) ≡ Ok (record { columns = cs; items = items; rest = rest })
unfolding items_of columns_at
columns_again n i j (ends m) [] items front rest some are e room =
    rw are (ap (λ k. Ok (record { columns = []; items = k; rest = rest })) (ok_is m items e))
columns_again n i j (ends m) (x ∷ cs) items front rest some are e room = absurd cc
columns_again n i j (stops met fault) cs items front rest some are e room = absurd cc
columns_again n i j (asks met d spec more) [] items front rest some are e room = absurd cc
columns_again n i j (asks met d spec more) (x ∷ cs) items front rest some are e room =
    let g = guard_ok (matches_spec d spec (field_of 0 x)) _ _ items e in
    let is = asked_is d spec (field_of 0 x) g.0 in
    let limits = limit_step i (length cs) n room in
    let after =
    columns_again n (i + 1) j
    (more
    (number_of (get_or x.values 0 (Number 0)))) cs items are.1 rest some are.6 g.1 limits.1 in
    let step =
    column_step n i met x cs more are.0 are.1 rest items some are.3 are.4 are.5 limits.0 after
    in
    let course : asks met x.fxy x.spec more ≡ asks met d spec more =
    λ t. asks met (is.0 t) (is.1 t) more in
    ap (λ xs. columns_at n i (asks met d spec more) (xs ++ rest)) are.2
    ∙ sym (ap (λ c. columns_at n i c ((are.0 ++ are.1) ++ rest)) course) ∙ step

-- columns read along a course: each subset has the fields that it asks for
pub record WalkFound (n i : ℕ) (c : Course) (front : List Bool) (f : ColumnsFound) : Type 0 where
  pub packed : List Bool
  pub columns : AreColumns n f.columns packed
  pub spelt : front ≡ packed ++ f.rest
  pub asked : (j k : ℕ) → k < n → items_of j i c (map (field_of k) f.columns) ≡ Ok f.items
  pub room : (i + length f.columns) * n ≤ most_values + n

same_course : (spec : Spec) (more : ℕ → Course) (values : List Raw) (k : ℕ) (b : Bool)
    → same_kind spec.kind kinds.Count ≡ b
    → (same_kind spec.kind kinds.Count ≡ false → (n : ℕ) → more n ≡ more 0)
    → (spec.kind ≡ kinds.Count → all_equal values ≡ true) → k < length values
    → more (count_of values) ≡ more (number_of (get_or values k (Number 0)))
same_course spec more values k false e steady agree short =
    steady e (count_of values) ∙ sym (steady e (number_of (get_or values k (Number 0))))
same_course spec more values k true e steady agree short =
    let all = all_equal_is values (agree (same_kind_is spec.kind kinds.Count e)) in
    let here : get_or values k (Number 0) ≡ all.0 =
    all_at (λ w. w ≡ all.0) values k (Number 0) all.1 short in
    let first : get_or values 0 (Number 0) ≡ all.0 =
    all_at (λ w. w ≡ all.0) values 0 (Number 0) all.1 (omega (arith, short)) in
    ap more (count_is values (omega (arith, short)) ∙ ap number_of (first ∙ sym here))

column_joined : (n i met d : ℕ) (spec : Spec) (more : ℕ → Course) (front : List Bool)
    (x : List Raw × List Bool) (f : ColumnsFound) → i * n ≤ most_values
    → (same_kind spec.kind kinds.Count ≡ false → (n : ℕ) → more n ≡ more 0)
    → ColumnFound n spec front x → (spec.kind ≡ kinds.Count → all_equal x.0 ≡ true)
    → WalkFound n (i + 1) (more (count_of x.0)) x.1 f
    → WalkFound n i (asks met d spec more) front
    (record f { columns = record { fxy = d; spec = spec; values = x.0 } ∷ f.columns })
unfolding items_of
column_joined n i met d spec more front x f room steady found agree after =
    let column : Column = record { fxy = d; spec = spec; values = x.0 } in
    record {
      packed = found.0 ++ after.packed;
      columns = (
        found.0,
        after.packed,
        refl,
        found.1,
        found.2,
        λ is. all_equal_is x.0 (agree is),
        after.columns,
      );
      spelt =
          found.3 ∙ ap (λ xs. found.0 ++ xs) after.spelt
          ∙ sym (append_assoc found.0 after.packed f.rest);
      asked = λ j k short.
          let inside : k < length x.0 = omega (arith, short, found.1) in
          let form = all_at (HasForm spec) x.0 k (Number 0) (column_form spec x.0 found.0 found.2)
          inside in
          let others = after.asked j k short in
          let course = same_course spec more x.0 k _ refl steady agree inside in
          let stands = asked_passes d spec (field_of k column) (refl, refl, form) in
          rw (stands, ← course, others) refl;
      room = omega (arith, after.room);
    }

pub columns_found : (n i used : ℕ) (c : Course) (front : List Bool) (f : ColumnsFound)
    → IsSteady used c → i * n ≤ most_values + n → columns_at n i c front ≡ Ok f
    → WalkFound n i c front f
unfolding columns_at items_of IsSteady
columns_found n i used (ends m) front f steady room e =
    subst (λ g. WalkFound n i (ends m) front g) (ok_is _ _ e)
    (record {
      packed = [];
      columns = refl;
      spelt = refl;
      asked = λ j k short. refl;
      room = omega
          (arith, room);
    })
columns_found n i used (stops met fault) front f steady room e =
    absurd (not_stopped fault f (guarded (nat_lt most_values (i * n)) _ _ f e).1)
columns_found n i used (asks met d spec more) front f steady room e =
    let g = guarded (nat_lt most_values (i * n)) _ _ f e in
    let a = bind_ok (column_at n i spec front >>= agreeing i spec) _ f g.1 in
    let there = agreed_found n i spec front a.0 a.1 in
    let h = bind_ok (columns_at n (i + 1) (more (count_of a.0.0)) a.0.1) _ f a.2 in
    let within : i * n ≤ most_values = ltb-false _ _ g.0 in
    let next : (i + 1) * n ≤ most_values + n = omega (arith, within) in
    let after =
    columns_found n (i + 1) met (more (count_of a.0.0)) a.0.1 h.0
    (steady.3 (count_of a.0.0)) next h.1 in
    subst (λ g. WalkFound n i (asks met d spec more) front g) (ok_is _ _ h.2)
    (column_joined n i met d spec more front a.0 h.0 within steady.2 there.1 there.2 after)
