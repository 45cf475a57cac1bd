-- The best columns, put one by one.
use Rattle.std.proofs.Common.{◌≡◌, ℕ, zero, suc, ◌+◌, ◌-◌, ◌*◌, ◌^◌, ◌<◌, ◌≤◌, Bool, true}
use Rattle.std.proofs.Common.{false, cond, List, [], ◌∷◌, ◌++◌, length, map, take, drop, replicate}
use Rattle.std.proofs.Common.{get_or, Some, Ok, Err, refl, sym, ap, subst, ◌∙◌, arith, append_assoc}
use Rattle.std.proofs.Common.{append-nil}
use Rattle.std.specs.Prelude.{◌==◌, not, nat_lt, nat_le, unwrap_or}
use Rattle.std.specs.List.{AllByRecursion, flat_map, list_all}
use Rattle.std.proofs.lemmas.Bool.{and_parts, lt-ltb, leb-true, le-ltb}
use Rattle.std.proofs.lemmas.List.{take_more, take_all, drop_all}
use Rattle.bufr_bits.specs.Bits.{bin, bits, all_ones}
use Rattle.bufr_base.specs.Answers.{Fails}
use Rattle.bufr_base.specs.declared.failure.Failure.{Failure}
use Rattle.bufr_base.specs.declared.failure.Failure.TheVariants.{Fault, OutOfMemory}
use Rattle.bufr_tables.specs.declared.element.Kind.TheVariants as kinds
use Rattle.bufr_tables.specs.Elements.{same_kind}
use Rattle.bufr_base.specs.AnswerLaws.{bind_ok}
use Rattle.bufr_expand.specs.declared.operators.Spec.{Spec}
use Rattle.bufr_expand.specs.Trees.{Tree}
use Rattle.bufr_expand.specs.Courses.{course}
use Rattle.bufr_fields.specs.declared.field.Raw.{Raw}
use Rattle.bufr_fields.specs.declared.field.Raw.TheVariants.{Number}
use Rattle.bufr_fields.specs.declared.field.Field.{Field}
use Rattle.bufr_fields.specs.declared.field.Subset.{Subset}
use Rattle.bufr_fields.specs.declared.fault.MisfitFault.{MisfitFault}
use Rattle.bufr_fields.specs.declared.fault.MisfitFault.TheVariants as misfits
use Rattle.bufr_fields.specs.Forms.{number_of, has_form_by, items_of}
use Rattle.bufr_data.specs.Compressed.{Column}
use Rattle.bufr_data.specs.Compressed.Reading.{all_equal}
use Rattle.bufr_fields.specs.Increments.{fewest_bits}
use Rattle.bufr_data.specs.Compressed.Best.{present, least, greatest, increment_of}
use Rattle.bufr_data.specs.Compressed.Best.{octets_of, best, can_be_column, can_differ, widest}
use Rattle.bufr_data.specs.Compressed.Best.{begins_like, first_raw, columns_of, columns_of_all}
use Rattle.bufr_data.specs.Compressed.Best.{best_bits}
use Rattle.bufr_data.specs.Data.{each_fits, written_bits}
use Rattle.bufr_data.specs.Compressed.Places.{rows_from, values_from, columns_here, least_of, least_step}
use Rattle.bufr_data.specs.Compressed.Places.{greatest_step}
use Rattle.bufr_data.specs.Subsets.{Extends, have_form, has_own_form}
use Rattle.bufr_data.proofs.CompressedFacts.{increments_fit}
use Rattle.bufr_data.proofs.CompressedFacts.Packed.{taken, like_is}
use Rattle.std.proofs.lemmas.List.Elements.{All-get_or, filter-append}
use Rattle.std.proofs.lemmas.List.Sums.{AllPass-from_list_all}
use Rattle.bufr_data.proofs.CompressedFacts.Ranges.{least_push, greatest_push}
use Rattle.bufr_data.proofs.CompressedFacts.Rows.{are_here, rows_next}
use Rattle.bufr_data.proofs.PlainFacts.Writes.{counted_forms}
use Rattle.bufr_data.proofs.CompressedFacts.Best.{best_parts, difference_fits, number_back, or_false}
use Rattle.bufr_data.proofs.KindFacts.{other_kind}
use Rattle.bufr_data.proofs.ListFacts.{front_is, left_is, map_grown, put_grown}
use Rattle.bufr_fields.specs.Limits.{most_values}
use Rattle.bufr_fields.specs.FormLaws.{below_is, form_is}

pub kept_more : (old mid new : List Bool) → Extends old mid → Extends mid new → Extends old new
kept_more old mid new a b = (a.0 ++ b.0, b.1 ∙ ap (λ xs. xs ++ b.0) a.1 ∙ append_assoc old a.0 b.0)

pub least_by : (width : ℕ) (ms : List ℕ) (x : ℕ) (b : Bool) → all_ones width x ≡ b
    → least_step width (least_of ms) x ≡ least_of (ms ++ cond (not b) (x ∷ []) [])
least_by width [] x true e = rw e refl
least_by width [] x false e = rw e refl
least_by width (m ∷ ms) x true e = rw e (ap least_of (sym (append-nil (m ∷ ms))))
least_by width (m ∷ ms) x false e = rw e (ap (λ n. Some n) (sym (least_push m ms x)))

pub least_or : (ns : List ℕ) → unwrap_or (least_of ns) 0 ≡ least ns
least_or [] = refl
least_or (n ∷ ns) = refl

pub greatest_by : (width : ℕ) (ms : List ℕ) (x : ℕ) (b : Bool) → all_ones width x ≡ b
    → greatest_step width (greatest ms) x ≡ greatest (ms ++ cond (not b) (x ∷ []) [])
greatest_by width ms x true e = rw e (ap greatest (sym (append-nil ms)))
greatest_by width ms x false e = rw e (sym (greatest_push ms x))

pub present_more : {X : Type 0} → (extreme : List ℕ → X) (step : X → ℕ → X) (width : ℕ)
    → ((ms : List ℕ) (x : ℕ) (b : Bool) → all_ones width x ≡ b
    → step (extreme ms) x ≡ extreme (ms ++ cond (not b) (x ∷ []) []))
    → (ns : List ℕ) (i : ℕ) (found : X) → i < length ns
    → found ≡ extreme (present width (take i ns))
    → step found (get_or ns i 0) ≡ extreme (present width (take (i + 1) ns))
present_more extreme step width more ns i found less so_far =
    let x = get_or ns i 0 in
    ap (λ o. step o x) so_far ∙ more (present width (take i ns)) x _ refl
    ∙ sym (ap extreme (filter-append (λ n. not (all_ones width n)) (take i ns) (x ∷ [])))
    ∙ ap (λ xs. extreme (present width xs)) (sym (take_more ns i 0 less))

-- minimum, width and increments fit their fields
pub record NumbersPut (width : ℕ) (ns : List ℕ) (minimum k : ℕ) : Type 0 where
  pub below : minimum < 2 ^ width
  pub few : k ≤ 63
  pub fit : AllByRecursion (λ x. x < 2 ^ k) (map (increment_of width minimum k) ns)

pub numbers_put : (width : ℕ) (ns : List ℕ) → width ≤ 63
    → list_all (λ n. nat_lt n (2 ^ width)) ns ≡ true
    → NumbersPut width ns (least (present width ns))
    (fewest_bits 63 1 (greatest (present width ns) - least (present width ns)))
numbers_put width ns short forms =
    let below = below_is (2 ^ width) ns forms in
    let k = fewest_bits 63 1 (greatest (present width ns) - least (present width ns)) in
    let parts = best_parts width ns 63 below (omega arith) (omega arith)
    (difference_fits width ns short below) in
    let increments = map (increment_of width (least (present width ns)) k) ns in
    record {
      below = parts.below;
      few = parts.few;
      fit = increments_fit width (least (present width ns)) k increments (map (λ n. Number n) ns)
          parts.each;
    }

pub fit_at_index : (p : ℕ) (f : ℕ → ℕ) (ns : List ℕ) (i : ℕ)
    → AllByRecursion (λ y. y < p) (map f ns) → i < length ns → f (get_or ns i 0) < p
fit_at_index p f [] i all less = absurd (omega (arith, less))
fit_at_index p f (n ∷ ns) zero all less = all.0
fit_at_index p f (n ∷ ns) (suc i) all less = fit_at_index p f ns i all.1 (omega (arith, less))

pub put_step : {X : Type 0}
    → (f : X → List Bool) (xs grown : List X) (x : X) (old head mid new : List Bool)
    → grown ≡ xs ++ x ∷ [] → mid ≡ old ++ (head ++ flat_map f xs) → new ≡ mid ++ f x
    → new ≡ old ++ (head ++ flat_map f grown)
put_step f xs grown x old head mid new is so_far put =
    let before = so_far ∙ sym (append_assoc old head (flat_map f xs)) in
    put_grown f xs grown x (old ++ head) mid new is before put
    ∙ append_assoc old head (flat_map f grown)

pub values_more : {X : Type 0} → (view : Raw → X) (f : Field) (place : ℕ) (others : List Subset)
    (i : ℕ) (s : Subset) → i < length others → s ≡ get_or others i s
    → map view (values_from f (rows_from place (take (i + 1) others)))
    ≡ map view (values_from f (rows_from place (take i others)))
    ++ view (first_raw (drop place s.fields)) ∷ []
values_more view f place others i s less is =
    let rows = map_grown (λ (t : Subset). drop place t.fields) (take i others)
    (take (i + 1) others) s
    (front_is others i s less is) in
    let raws = map_grown first_raw (rows_from place (take i others))
    (rows_from place (take (i + 1) others)) (drop place s.fields) rows in
    map_grown view (values_from f (rows_from place (take i others)))
    (values_from f (rows_from place (take (i + 1) others))) (first_raw (drop place s.fields))
    (ap (λ vs. f.raw ∷ vs) raws)

short_of : (spec : Spec) (values : List Raw) → can_be_column spec values ≡ true
    → all_equal values ≡ false → widest spec ≤ 63
short_of spec values can e =
    let differ = or_false (all_equal values) (can_differ spec) can e in
    leb-true _ _ (and_parts (not (same_kind spec.kind kinds.Count))
    (nat_le (widest spec) 63) differ).1

pub short_numbers : (spec : Spec) (values : List Raw) → can_be_column spec values ≡ true
    → all_equal values ≡ false → (spec.kind ≡ kinds.Text → ⊥) → spec.width ≤ 63
short_numbers spec values can e other =
    let number : same_kind spec.kind kinds.Text ≡ false = other_kind spec.kind kinds.Text other in
    subst (λ n. n ≤ 63) (rw number refl) (short_of spec values can e)

pub numbers_below : (spec : Spec) (values : List Raw) → (spec.kind ≡ kinds.Text → ⊥)
    → have_form spec values ≡ true
    → list_all (λ n. nat_lt n (2 ^ spec.width)) (map number_of values) ≡ true
numbers_below spec [] other e = refl
numbers_below spec (v ∷ values) other e =
    let p = and_parts (has_form_by spec.kind spec.width v) (have_form spec values) e in
    let below = (number_back spec v other (form_is spec v p.0)).1 in
    rw (lt-ltb (number_of v) (2 ^ spec.width) below, numbers_below spec values other p.1) refl

form_alike : (f : Field) (row : List Field) → begins_like f row ≡ true
    → list_all has_own_form row ≡ true → has_form_by f.spec.kind f.spec.width (first_raw row) ≡ true
form_alike f [] e forms = absurd cc
form_alike f (g ∷ gs) e forms =
    ap (λ (s : Spec). has_form_by s.kind s.width g.raw) (sym (like_is f (g ∷ gs) e).1)
    ∙ (and_parts (has_own_form g) (list_all has_own_form gs) forms).0

rows_have_forms : (f : Field) (rows : List (List Field)) → list_all (begins_like f) rows ≡ true
    → list_all (list_all has_own_form) rows ≡ true → have_form f.spec (map first_raw rows) ≡ true
rows_have_forms f [] e forms = refl
rows_have_forms f (row ∷ rows) e forms =
    let like = and_parts (begins_like f row) (list_all (begins_like f) rows) e in
    let own = and_parts (list_all has_own_form row) (list_all (list_all has_own_form) rows) forms in
    rw (form_alike f row like.0 own.0, rows_have_forms f rows like.1 own.1) refl

pub place_forms : (f : Field) (rows : List (List Field)) → has_own_form f ≡ true
    → list_all (begins_like f) rows ≡ true → list_all (list_all has_own_form) rows ≡ true
    → have_form f.spec (values_from f rows) ≡ true
place_forms f rows own e forms = rw (own, rows_have_forms f rows e forms) refl

drop_forms : (k : ℕ) (fs : List Field) → list_all has_own_form fs ≡ true
    → list_all has_own_form (drop k fs) ≡ true
drop_forms zero fs e = e
drop_forms (suc k) [] e = refl
drop_forms (suc k) (f ∷ fs) e =
    drop_forms k fs (and_parts (has_own_form f) (list_all has_own_form fs) e).1

pub row_forms : (place : ℕ) (subsets : List Subset)
    → list_all (λ (s : Subset). list_all has_own_form s.fields) subsets ≡ true
    → list_all (list_all has_own_form) (rows_from place subsets) ≡ true
row_forms place [] e = refl
row_forms place (s ∷ subsets) e =
    let p = and_parts (list_all has_own_form s.fields) _ e in
    rw (drop_forms place s.fields p.0, row_forms place subsets p.1) refl

pub own_at : (fields : List Field) (k : ℕ) (f : Field) → k < length fields → f ≡ get_or fields k f
    → list_all has_own_form fields ≡ true → has_own_form f ≡ true
own_at fields k f less is e =
    ap has_own_form is
    ∙ All-get_or (λ g. has_own_form g ≡ true) fields k f less
    (AllPass-from_list_all has_own_form fields e)

-- the column of the next place
pub record PlaceHere (f : Field) (fs : List Field) (others : List Subset) (place : ℕ) : Type 0 where
  pub like : list_all (begins_like f) (rows_from place others) ≡ true
  pub can : can_be_column f.spec (values_from f (rows_from place others)) ≡ true
  pub next : columns_of (place + 1 + 1) fs (rows_from (place + 1) others)
      ≡ Ok (columns_here fs (rows_from (place + 1) others))

pub place_here : (f : Field) (fs : List Field) (others : List Subset) (place : ℕ) (cs : List Column)
    → columns_of (place + 1) (f ∷ fs) (rows_from place others) ≡ Ok cs → PlaceHere f fs others place
place_here f fs others place cs e =
    let h = taken (place + 1) f fs (rows_from place others) cs e in
    let rest : columns_of (place + 1 + 1) fs (rows_from (place + 1) others) ≡ Ok h.behind =
    ap (columns_of (place + 1 + 1) fs) (sym (rows_next place others)) ∙ h.rest in
    record {
      like = h.like;
      can = h.can;
      next =
          rest
          ∙ ap (λ xs. Ok xs)
          (are_here (place + 1 + 1) fs (rows_from (place + 1) others) h.behind rest);
    }

pub best_next : (f : Field) (fs : List Field) (others : List Subset) (place : ℕ)
    → best_bits (columns_here (f ∷ fs) (rows_from place others))
    ≡ best f.spec (values_from f (rows_from place others)) ++ best_bits
    (columns_here fs (rows_from (place + 1) others))
unfolding columns_here
best_next f fs others place =
    ap (λ rows. best f.spec (values_from f (rows_from place others))
    ++ best_bits (columns_here fs rows)) (rows_next place others)

pub best_none : (rows : List (List Field)) → best_bits (columns_here [] rows) ≡ []
unfolding columns_here
best_none rows = refl

pub columns_step : (fields : List Field) (others : List Subset) (place : ℕ) (f : Field)
    → place < length fields → f ≡ get_or fields place f
    → columns_of (place + 1) (drop place fields) (rows_from place others)
    ≡ Ok (columns_here (drop place fields) (rows_from place others))
    → PlaceHere f (drop (place + 1) fields) others place
columns_step fields others place f less is can =
    place_here f (drop (place + 1) fields) others place _
    (subst (λ fs. columns_of (place + 1) fs (rows_from place others) ≡ Ok
    (columns_here fs (rows_from place others))) (left_is fields place f less is) can)

one_fits : (tree : Tree) (j n : ℕ) (s : Subset) (subsets : List Subset)
    → items_of j 1 (course tree 0) s.fields ≡ Ok n
    → each_fits tree j (s ∷ subsets) ≡ each_fits tree (j + 1) subsets
one_fits tree j n s subsets e = rw e refl

one_fails : (tree : Tree) (j : ℕ) (s : Subset) (subsets : List Subset) (fault : MisfitFault)
    → items_of j 1 (course tree 0) s.fields ≡ Err fault → each_fits tree j (s ∷ subsets) ≡ Err fault
one_fails tree j s subsets fault e = rw e refl

pub each_next : (tree : Tree) (k n : ℕ) (subsets : List Subset) (s : Subset) → k < length subsets
    → s ≡ get_or subsets k s → items_of (k + 1) 1 (course tree 0) s.fields ≡ Ok n
    → each_fits tree (k + 1) (drop k subsets) ≡ each_fits tree (k + 1 + 1) (drop (k + 1) subsets)
each_next tree k n subsets s less is e =
    ap (each_fits tree (k + 1)) (left_is subsets k s less is)
    ∙ one_fits tree (k + 1) n s (drop (k + 1) subsets) e

pub each_fails : (tree : Tree) (k : ℕ) (subsets : List Subset) (s : Subset)
    (failure : Failure MisfitFault) → k < length subsets → s ≡ get_or subsets k s
    → Fails failure (items_of (k + 1) 1 (course tree 0) s.fields)
    → each_fits tree 1 subsets ≡ each_fits tree (k + 1) (drop k subsets)
    → Fails failure (each_fits tree 1 subsets)
each_fails tree k subsets s OutOfMemory less is fails so_far = tt
each_fails tree k subsets s (Fault fault) less is fails so_far =
    so_far ∙ ap (each_fits tree (k + 1)) (left_is subsets k s less is)
    ∙ one_fails tree (k + 1) s (drop (k + 1) subsets) fault fails

pub each_end : (tree : Tree) (k : ℕ) (subsets : List Subset) → length subsets ≤ k
    → each_fits tree (k + 1) (drop k subsets) ≡ Ok tt
each_end tree k subsets done = ap (each_fits tree (k + 1)) (drop_all k subsets done)

pub each_has_form : (tree : Tree) (j : ℕ) (subsets : List Subset) (u : Unit {0})
    → each_fits tree j subsets ≡ Ok u
    → list_all (λ (s : Subset). list_all has_own_form s.fields) subsets ≡ true
each_has_form tree j [] u e = refl
each_has_form tree j (s ∷ subsets) u e =
    let h = bind_ok (items_of j 1 (course tree 0) s.fields) _ u e in
    rw (
      counted_forms j 1 (course tree 0) s.fields h.0 h.1,
      each_has_form tree (j + 1) subsets u h.2,
    ) refl

pub put_two : (old mid new a b : List Bool) → mid ≡ old ++ a → new ≡ mid ++ b
    → new ≡ old ++ (a ++ b ++ [])
put_two old mid new a b first second =
    second ∙ ap (λ bs. bs ++ b) first ∙ append_assoc old a b
    ∙ ap (λ bs. old ++ bs) (sym (append-nil (a ++ b)))

pub increments_push : (width minimum k : ℕ) (ns : List ℕ) (i : ℕ) → i < length ns
    → map (increment_of width minimum k) (take (i + 1) ns)
    ≡ map (increment_of width minimum k) (take i ns) ++ increment_of width minimum k
    (get_or ns i 0) ∷ []
increments_push width minimum k ns i less =
    map_grown (increment_of width minimum k) (take i ns) (take (i + 1) ns) (get_or ns i 0)
    (take_more ns i 0 less)

pub numbers_put_of : (width : ℕ) (ns : List ℕ) (minimum greatest_of difference k : ℕ) → width ≤ 63
    → list_all (λ n. nat_lt n (2 ^ width)) ns ≡ true → minimum ≡ least (present width ns)
    → greatest_of ≡ greatest (present width ns) → difference ≡ greatest_of - minimum
    → k ≡ fewest_bits 63 1 difference → NumbersPut width ns minimum k
numbers_put_of width ns minimum greatest_of difference k short forms low high apart is =
    let same : fewest_bits 63 1 (greatest (present width ns) - least (present width ns)) ≡ k =
    sym (is ∙ ap (fewest_bits 63 1) (apart ∙ (λ t. high t - low t))) in
    subst (λ m. NumbersPut width ns m k) (sym low)
    (subst (λ n. NumbersPut width ns (least (present width ns)) n) same
    (numbers_put width ns short forms))

pub zeros_are : (k n : ℕ) → k ≤ n → take {A = ℕ} k (replicate n 0) ≡ replicate k 0
zeros_are zero n le = refl
zeros_are (suc k) zero le = absurd (omega (arith, le))
zeros_are (suc k) (suc n) le = ap (λ (xs : List ℕ). 0 ∷ xs) (zeros_are k n (omega (arith, le)))

-- the first subset
abbrev pub first_in : List Subset → Subset → Subset
first_in subsets d = get_or subsets 0 d

-- the subsets after it
abbrev pub others_in : List Subset → List Subset
others_in subsets = take (length subsets - 1) (drop 1 subsets)

-- the columns of subsets
abbrev pub columns_in : List Subset → Subset → List Column
columns_in subsets d = columns_here (first_in subsets d).fields (rows_from 0 (others_in subsets))

whole_is : (subsets : List Subset) (d : Subset) → (length subsets == 0) ≡ false
    → subsets ≡ first_in subsets d ∷ others_in subsets
whole_is [] d some = absurd cc
whole_is (s ∷ subsets) d some =
    let all : length subsets ≤ suc (length subsets) - 1 = omega arith in
    ap (λ ss. s ∷ ss) (sym (take_all (suc (length subsets) - 1) subsets all))

length_here : (fs : List Field) (rows : List (List Field))
    → length (columns_here fs rows) ≡ length fs
unfolding columns_here
length_here [] rows = refl
length_here (f ∷ fs) rows = ap suc (length_here fs (map (drop 1) rows))

pub written_past : (tree : Tree) (subsets : List Subset) (d : Subset) (u : Unit {0})
    → (length subsets == 0) ≡ false → each_fits tree 1 subsets ≡ Ok u
    → columns_of 1 (first_in subsets d).fields (rows_from 0 (others_in subsets))
    ≡ Ok (columns_in subsets d)
    → most_values < length (first_in subsets d).fields * length subsets
    → written_bits tree true subsets ≡ Err misfits.TooLarge
written_past tree subsets d u some fit can past =
    let cs = columns_in subsets d in
    let all : columns_of_all subsets ≡ Ok cs = ap columns_of_all (whole_is subsets d some) ∙ can in
    let lt : most_values < length cs * length subsets =
    subst (λ n. most_values < n * length subsets)
    (sym (length_here (first_in subsets d).fields (rows_from 0 (others_in subsets)))) past in
    rw (fit, all, lt-ltb most_values (length cs * length subsets) lt) refl

pub written_whole : (tree : Tree) (subsets : List Subset) (d : Subset) (u : Unit {0})
    → (length subsets == 0) ≡ false → each_fits tree 1 subsets ≡ Ok u
    → columns_of 1 (first_in subsets d).fields (rows_from 0 (others_in subsets))
    ≡ Ok (columns_in subsets d)
    → length (first_in subsets d).fields * length subsets ≤ most_values
    → written_bits tree true subsets ≡ Ok (best_bits (columns_in subsets d))
written_whole tree subsets d u some fit can room =
    let cs = columns_in subsets d in
    let all : columns_of_all subsets ≡ Ok cs = ap columns_of_all (whole_is subsets d some) ∙ can in
    let le : length cs * length subsets ≤ most_values =
    subst (λ n. n * length subsets ≤ most_values)
    (sym (length_here (first_in subsets d).fields (rows_from 0 (others_in subsets)))) room in
    rw (fit, all, le-ltb most_values (length cs * length subsets) le) refl

pub first_forms : (tree : Tree) (subsets : List Subset) (d : Subset) (u : Unit {0})
    → (length subsets == 0) ≡ false → each_fits tree 1 subsets ≡ Ok u
    → (list_all has_own_form (first_in subsets d).fields ≡ true)
    × (list_all (λ (t : Subset). list_all has_own_form t.fields) (others_in subsets) ≡ true)
first_forms tree subsets d u some fit =
    and_parts (list_all has_own_form (first_in subsets d).fields) _
    (ap (list_all (λ (t : Subset). list_all has_own_form t.fields)) (sym (whole_is subsets d some))
    ∙ each_has_form tree 1 subsets u fit)

pub put_text_head : (old first second third : List Bool) (octets : ℕ) (zeros : List ℕ) (raw : Raw)
    → zeros ≡ replicate octets 0 → first ≡ old ++ bits zeros → second ≡ first ++ bin 6 octets
    → third ≡ second ++ bits (octets_of raw)
    → third
    ≡ old ++ (bits (replicate octets 0) ++ bin 6 octets ++ flat_map bits (octets_of raw ∷ []))
put_text_head old first second third octets zeros raw are one two three =
    three
    ∙ ap (λ bs. bs ++ bits (octets_of raw))
    (two ∙ ap (λ bs. bs ++ bin 6 octets) (one ∙ ap (λ os. old ++ bits os) are)
    ∙ append_assoc old (bits (replicate octets 0)) (bin 6 octets))
    ∙ append_assoc old (bits (replicate octets 0) ++ bin 6 octets) (bits (octets_of raw))
    ∙ ap (λ bs. old ++ (bits (replicate octets 0) ++ bin 6 octets ++ bs))
    (sym (append-nil (bits (octets_of raw))))
