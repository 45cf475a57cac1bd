-- Compressed subsets are read as those that the bits hold, and written bits hold their subsets.
use Rattle.std.proofs.Common.{◌≡◌, ℕ, zero, suc, ◌+◌, ◌*◌, ◌<◌, ◌≤◌, Bool, true, false, cond, List}
use Rattle.std.proofs.Common.{[], ◌∷◌, ◌++◌, length, map, drop, get_or, Result, Ok, Err, refl, sym}
use Rattle.std.proofs.Common.{ap, subst, ◌∙◌, arith}
use Rattle.std.specs.Prelude.{◌==◌, ◌&&◌, nat_lt}
use Rattle.std.specs.List.{AllByRecursion, flat_map, list_all}
use Rattle.std.proofs.lemmas.Bool.{and_parts, ltb-false, eqb-true}
use Rattle.std.proofs.lemmas.List.{length-map, get_or-map}
use Rattle.bufr_base.specs.Answers.{result_map}
use Rattle.bufr_base.specs.AnswerLaws.{bind_ok, guard_ok, ok_is}
use Rattle.bufr_expand.specs.declared.operators.Spec.{Spec}
use Rattle.bufr_expand.specs.Trees.{Tree}
use Rattle.bufr_expand.specs.Courses.{course}
use Rattle.bufr_fields.specs.declared.field.Raw.{Raw}
use Rattle.bufr_fields.specs.declared.field.Raw.TheVariants.{Number}
use Rattle.bufr_fields.specs.declared.field.Field.{Field}
use Rattle.bufr_fields.specs.declared.field.Subset.{Subset}
use Rattle.bufr_fields.specs.declared.fault.MisfitFault.{MisfitFault}
use Rattle.bufr_fields.specs.declared.fault.MisfitFault.TheVariants as misfits
use Rattle.bufr_fields.specs.Forms.{items_of, same_spec}
use Rattle.bufr_fields.specs.Fits.{HasForm, FitsAlone}
use Rattle.bufr_data.specs.Compressed.{Column, AreColumns, field_of, subsets_from, Packed}
use Rattle.bufr_data.specs.Compressed.Reading.{ColumnsFound, columns_at}
use Rattle.bufr_data.specs.Compressed.Best.{best, can_be_column, begins_like, first_raw, is_empty}
use Rattle.bufr_data.specs.Compressed.Best.{column_or, columns_of, columns_of_all, packed}
use Rattle.bufr_data.specs.Data.{BeginsWithData, subsets_in, each_fits, written_bits}
use Rattle.std.proofs.lemmas.List.Elements.{All-from_get_or, All-get_or, recursion_from_All}
use Rattle.std.proofs.lemmas.List.Sums.{AllPass-from_list_all}
use Rattle.bufr_data.specs.Compressed.Causes.{BeginsLike}
use Rattle.bufr_data.proofs.AnswerFacts.{map_ok}
use Rattle.bufr_fields.specs.FitLaws.{counted_fit, fitting_counted}
use Rattle.bufr_expand.specs.Steady.{course_steady}
use Rattle.bufr_data.proofs.CompressedFacts.Walks.{AllForm, columns_again, columns_found}
use Rattle.bufr_data.proofs.CompressedFacts.Best.{best_column, one_count}
use Rattle.bufr_fields.specs.Limits.{most_values}
use Rattle.bufr_fields.specs.FormLaws.{same_spec_is}
use Rattle.bufr_fields.specs.CourseLaws.{AreUnrolled, AreAllowed}

pub length-from : (k n : ℕ) (columns : List Column) → length (subsets_from k n columns) ≡ n
length-from k zero columns = refl
length-from k (suc n) columns = ap suc (length-from (k + 1) n columns)

fit_from : AreUnrolled → (tree : Tree) (n k m : ℕ) (columns : List Column) (items : ℕ) → k + m ≤ n
    → ((j l : ℕ) → l < n → items_of j 1 (course tree 0) (map (field_of l) columns) ≡ Ok items)
    → AllByRecursion (FitsAlone tree) (subsets_from k m columns)
fit_from law tree n k zero columns items within asked = tt
fit_from law tree n k (suc m) columns items within asked = (
  (
    items,
    counted_fit law tree 1 0 items (map (field_of k) columns) (omega arith)
        (asked 1 k (omega (arith, within))),
  ),
  fit_from law tree n (k + 1) m columns items (omega (arith, within)) asked,
)

packed_from : (n : ℕ) (columns : List Column) (content : List Bool)
    → length columns * suc n ≤ most_values → AreColumns (suc n) columns content
    → Packed (subsets_from 0 (suc n) columns) content
packed_from n columns content room are =
    let many : suc n ≡ length (subsets_from 0 (suc n) columns) =
    sym (length-from 0 (suc n) columns) in
    subst (λ l. (cs : List Column) × (subsets_from 0 (suc n) columns ≡ subsets_from 0 l cs)
    × (length cs * l ≤ most_values) × AreColumns l cs content) many (columns, refl, room, are)

pub compressed_stand : AreUnrolled
    → (tree : Tree) (n : ℕ) (front : List Bool) (found : List Subset × List Bool)
    → subsets_in tree true n front ≡ Ok found → BeginsWithData tree true n front found
compressed_stand law tree zero front found e =
    subst (λ h. BeginsWithData tree true 0 front h) (ok_is _ _ e) ([], (tt, refl), refl, refl)
compressed_stand law tree (suc n) front found e =
    let h =
    map_ok (λ (f : ColumnsFound). (subsets_from 0 (suc n) f.columns, f.rest))
    (columns_at (suc n) 1 (course tree 0) front) found e in
    let walk =
    columns_found (suc n) 1 0 (course tree 0) front h.0 (course_steady tree 0)
    (omega arith) h.1 in
    let fit = fit_from law tree (suc n) 0 (suc n) h.0.columns h.0.items (omega arith) walk.asked in
    subst (λ g. BeginsWithData tree true (suc n) front g) h.2 (
      walk.packed,
      (fit, packed_from n h.0.columns walk.packed (omega (arith, walk.room)) walk.columns),
      length-from 0 (suc n) h.0.columns,
      walk.spelt,
    )

pub cons_head : (s t : Subset) (ss ts : List Subset) → s ∷ ss ≡ t ∷ ts → s ≡ t
cons_head s t ss ts e = cc

compressed_read_by : AreAllowed
    → (tree : Tree) (n : ℕ) (content rest : List Bool) (s : Subset) (subsets : List Subset)
    → length (s ∷ subsets) ≡ suc n → FitsAlone tree s → Packed (s ∷ subsets) content
    → subsets_in tree true (suc n) (content ++ rest) ≡ Ok (s ∷ subsets, rest)
compressed_read_by law tree n content rest s subsets many fit pack =
    let columns = pack.0 in
    let from : s ∷ subsets ≡ subsets_from 0 (suc n) columns =
    pack.1 ∙ ap (λ l. subsets_from 0 l columns) many in
    let first : s.fields ≡ map (field_of 0) columns =
    ap (λ (t : Subset). t.fields) (cons_head _ _ _ _ from) in
    let counted : items_of 1 1 (course tree 0) (map (field_of 0) columns) ≡ Ok fit.0 =
    subst (λ fs. items_of 1 1 (course tree 0) fs ≡ Ok fit.0) first
    (fitting_counted law tree 1 0 fit.0 s.fields fit.1) in
    let are : AreColumns (suc n) columns content =
    subst (λ l. AreColumns l columns content) many pack.3 in
    let room : length columns * suc n ≤ most_values =
    subst (λ l. length columns * l ≤ most_values) many pack.2 in
    let read =
    columns_again (suc n) 1 1 (course tree 0) columns fit.0 content rest
    (omega arith) are counted (omega (arith, room)) in
    ap (λ x. result_map (λ (f : ColumnsFound). (subsets_from 0 (suc n) f.columns, f.rest)) x) read
    ∙ ap (λ ss. Ok (ss, rest)) (sym from)

pub compressed_read : AreAllowed
    → (tree : Tree) (n : ℕ) (content rest : List Bool) (subsets : List Subset) → length subsets ≡ n
    → AllByRecursion (FitsAlone tree) subsets → Packed subsets content
    → subsets_in tree true n (content ++ rest) ≡ Ok (subsets, rest)
compressed_read law tree zero content rest [] many fit pack = ap (λ xs. Ok ([], xs ++ rest)) pack
compressed_read law tree zero content rest (s ∷ subsets) many fit pack =
    absurd (omega (arith, many))
compressed_read law tree (suc n) content rest [] many fit pack = absurd (omega (arith, many))
compressed_read law tree (suc n) content rest (s ∷ subsets) many fit pack =
    compressed_read_by law tree n content rest s subsets many fit.0 pack

none_like : (others : List (List Field)) (k : ℕ) → list_all is_empty others ≡ true
    → get_or others k [] ≡ []
none_like [] k e = refl
none_like ([] ∷ others) zero e = refl
none_like ((f ∷ fs) ∷ others) zero e = absurd cc
none_like ([] ∷ others) (suc k) e = none_like others k e
none_like ((f ∷ fs) ∷ others) (suc k) e = absurd cc

pub like_is : (f : Field) (gs : List Field) → begins_like f gs ≡ true → BeginsLike f gs
like_is f [] e = absurd cc
like_is f (g ∷ gs) e =
    let p = and_parts (f.fxy == g.fxy) (same_spec g.spec f.spec) e in
    (eqb-true _ _ p.0, same_spec_is _ _ p.1)

own_value : (f : Field) (fs : List Field) → begins_like f fs ≡ true
    → fs ≡ record { fxy = f.fxy; spec = f.spec; raw = first_raw fs } ∷ drop 1 fs
own_value f [] e = absurd cc
own_value f (g ∷ gs) e =
    let like = like_is f (g ∷ gs) e in
    λ i. (record { fxy = sym like.0 i; spec = like.1 i; raw = g.raw }) ∷ gs

-- one field of all subsets as a column
pub record Taken (i : ℕ) (f : Field) (fs : List Field) (others : List (List Field))
    (columns : List Column) : Type 0 where
  pub behind : List Column
  pub is : columns ≡ record { fxy = f.fxy; spec = f.spec; values = f.raw ∷ map first_raw others }
      ∷ behind
  pub like : list_all (begins_like f) others ≡ true
  pub can : can_be_column f.spec (f.raw ∷ map first_raw others) ≡ true
  pub rest : columns_of (i + 1) fs (map (drop 1) others) ≡ Ok behind

column_taken : (i : ℕ) (b : Bool) (c : Column) (others : Result (List Column) MisfitFault)
    (columns : List Column) → column_or i b c others ≡ Ok columns
    → (behind : List Column) × (b ≡ true) × (others ≡ Ok behind) × (columns ≡ c ∷ behind)
column_taken i true c (Ok cs) columns e = (cs, refl, refl, sym (ok_is _ _ e))
column_taken i true c (Err g) columns e = absurd cc
column_taken i false c others columns e = absurd cc

pub column_passes : (i : ℕ) (b : Bool) (c : Column) (others : Result (List Column) MisfitFault)
    (cs : List Column) → b ≡ true → others ≡ Ok cs → column_or i b c others ≡ Ok (c ∷ cs)
column_passes i b c others cs e f = rw (e, f) refl

pub column_behind : (i : ℕ) (b : Bool) (c : Column) (others : Result (List Column) MisfitFault)
    (fault : MisfitFault) → b ≡ true → others ≡ Err fault → column_or i b c others ≡ Err fault
column_behind i b c others fault e f = rw (e, f) refl

pub taken : (i : ℕ) (f : Field) (fs : List Field) (others : List (List Field))
    (columns : List Column) → columns_of i (f ∷ fs) others ≡ Ok columns
    → Taken i f fs others columns
unfolding columns_of
taken i f fs others columns e =
    let h =
    column_taken i
    (list_all (begins_like f) others && can_be_column f.spec (f.raw ∷ map first_raw others)) _
    (columns_of (i + 1) fs (map (drop 1) others)) columns e in
    let p = and_parts (list_all (begins_like f) others) _ h.1 in
    record { behind = h.0; is = h.3; like = p.0; can = p.1; rest = h.2 }

none_taken_by : (i : ℕ) (b : Bool) (columns : List Column)
    → cond b (Ok []) (Err (misfits.NotCompressible i)) ≡ Ok columns → (b ≡ true) × (columns ≡ [])
none_taken_by i true columns e = (refl, sym (ok_is _ _ e))
none_taken_by i false columns e = absurd cc

pub none_taken : (i : ℕ) (others : List (List Field)) (columns : List Column)
    → columns_of i [] others ≡ Ok columns → (list_all is_empty others ≡ true) × (columns ≡ [])
unfolding columns_of
none_taken i others columns e = none_taken_by i (list_all is_empty others) columns e

pub rows : (i : ℕ) (fs : List Field) (others : List (List Field)) (columns : List Column)
    → columns_of i fs others ≡ Ok columns → (k : ℕ) → k < 1 + length others
    → get_or (fs ∷ others) k [] ≡ map (field_of k) columns
rows i [] others columns e zero short =
    ap (map (field_of 0)) (sym (none_taken i others columns e).1)
rows i [] others columns e (suc k) short =
    let h =
    none_taken i others columns e in none_like others k h.0
    ∙ ap (map (field_of (suc k))) (sym h.1)
rows i (f ∷ fs) others columns e zero short =
    let h = taken i f fs others columns e in
    let behind = rows (i + 1) fs (map (drop 1) others) h.behind h.rest 0 (omega arith) in
    ap (λ gs. f ∷ gs) behind ∙ ap (map (field_of 0)) (sym h.is)
rows i (f ∷ fs) others columns e (suc k) short =
    let h = taken i f fs others columns e in
    let inside : k < length others = omega (arith, short) in
    let many : length (map (drop {A = Field} 1) others) ≡ length others =
    length-map others (drop 1) in
    let behind =
    rows (i + 1) fs (map (drop 1) others) h.behind h.rest (suc k)
    (omega (arith, inside, many)) in
    let like = All-get_or (λ gs. begins_like f gs ≡ true) others k [] inside
    (AllPass-from_list_all (begins_like f) others h.like) in
    let here = own_value f (get_or others k []) like in
    let own : get_or (map first_raw others) k (Number 0) ≡ first_raw (get_or others k []) =
    get_or-map first_raw others k [] (Number 0) inside in
    let after : drop 1 (get_or others k []) ≡ map (field_of (suc k)) h.behind =
    sym (get_or-map (drop 1) others k [] [] inside) ∙ behind in
    here ∙ (λ t. (record { fxy = f.fxy; spec = f.spec; raw = sym own t }) ∷ after t)
    ∙ ap (map (field_of (suc k))) (sym h.is)

pub each_row : (k : ℕ) (subsets : List Subset) (columns : List Column)
    → ((l : ℕ) → l < length subsets
    → get_or (map (λ (t : Subset). t.fields) subsets) l [] ≡ map (field_of (k + l)) columns)
    → subsets ≡ subsets_from k (length subsets) columns
each_row k [] columns h = refl
each_row k (s ∷ subsets) columns h =
    let here : s.fields ≡ map (field_of k) columns =
    h 0 (omega arith) ∙ ap (λ n. map (field_of n) columns) (omega arith) in
    let others =
    each_row (k + 1) subsets columns
    (λ l short. h (suc l) (omega (arith, short))
    ∙ ap (λ n. map (field_of n) columns) (omega arith)) in
    λ t. (record { fields = here t }) ∷ others t

pub columns_whole : (s : Subset) (subsets : List Subset) (columns : List Column)
    → columns_of 1 s.fields (map (λ (t : Subset). t.fields) subsets) ≡ Ok columns
    → s ∷ subsets ≡ subsets_from 0 (length (s ∷ subsets)) columns
columns_whole s subsets columns e =
    let others = map (λ (t : Subset). t.fields) subsets in
    let many : length others ≡ length subsets = length-map subsets (λ (t : Subset). t.fields) in
    each_row 0 (s ∷ subsets) columns (λ l short.
    rows 1 s.fields others columns e l (omega (arith, short, many))
    ∙ ap (λ n. map (field_of n) columns) (omega arith))

-- every raw value fits its spec
abbrev AreFormed : List Field → Type 0
AreFormed fields = AllByRecursion (λ f. HasForm f.spec f.raw) fields

-- every value of n subsets fits its spec
abbrev Formed : ℕ → List Column → Type 0
Formed n columns = (k : ℕ) → k < n → AreFormed (map (field_of k) columns)

all_formed : (spec : Spec) (values : List Raw)
    → ((k : ℕ) → k < length values → HasForm spec (get_or values k (Number 0)))
    → AllForm spec values
all_formed spec values h =
    recursion_from_All (HasForm spec) values (All-from_get_or (HasForm spec) values (Number 0) h)

are_columns : (i : ℕ) (fs : List Field) (others : List (List Field)) (columns : List Column)
    → columns_of i fs others ≡ Ok columns → Formed (1 + length others) columns
    → AreColumns (1 + length others) columns (flat_map (λ c. best c.spec c.values) columns)
are_columns i [] others columns e formed =
    let none = (none_taken i others columns e).1 in
    subst (λ cs. AreColumns (1 + length others) cs (flat_map (λ c. best c.spec c.values) cs))
    (sym none) refl
are_columns i (f ∷ fs) others columns e formed =
    let h = taken i f fs others columns e in
    let values = f.raw ∷ map first_raw others in
    let c : Column = record { fxy = f.fxy; spec = f.spec; values = values } in
    let both = subst (Formed (1 + length others)) h.is formed in
    let size : length values ≡ 1 + length others = omega (arith, length-map others first_raw) in
    let form = all_formed f.spec values (λ k short. (both k (omega (arith, short, size))).0) in
    let many : length (map (drop {A = Field} 1) others) ≡ length others =
    length-map others (drop 1) in
    let after =
    are_columns (i + 1) fs (map (drop 1) others) h.behind h.rest
    (λ k short. (both k (omega (arith, short, many))).1) in
    let behind =
    subst (λ l. AreColumns (1 + l) h.behind
    (flat_map (λ c. best c.spec c.values) h.behind)) many after in
    subst (λ cs. AreColumns (1 + length others) cs (flat_map (λ c. best c.spec c.values) cs))
    (sym h.is) (
      best f.spec values,
      flat_map (λ c. best c.spec c.values) h.behind,
      refl,
      size,
      best_column f.spec values (omega (arith, size)) form h.can,
      one_count f.spec values h.can,
      behind,
    )

pub each_fit : AreUnrolled → (tree : Tree) (j : ℕ) (subsets : List Subset) (u : Unit {0})
    → each_fits tree j subsets ≡ Ok u → AllByRecursion (FitsAlone tree) subsets
each_fit law tree j [] u e = tt
each_fit law tree j (s ∷ subsets) u e =
    let h = bind_ok (items_of j 1 (course tree 0) s.fields) _ u e in (
      (h.0, counted_fit law tree j 0 h.0 s.fields (omega arith) h.1),
      each_fit law tree (j + 1) subsets u h.2,
    )

formed_at : (tree : Tree) (subsets : List Subset) (k : ℕ) → AllByRecursion (FitsAlone tree) subsets
    → k < length subsets → AreFormed (get_or (map (λ (t : Subset). t.fields) subsets) k [])
formed_at tree [] k fit short = absurd (omega (arith, short))
formed_at tree (s ∷ subsets) zero fit short = fit.0.1.1.formed
formed_at tree (s ∷ subsets) (suc k) fit short =
    formed_at tree subsets k fit.1 (omega (arith, short))

-- the bits written of subsets hold them
abbrev pub WrittenHold : Tree → List Subset → List Bool → Type 0
WrittenHold tree subsets content = AllByRecursion (FitsAlone tree) subsets × Packed subsets content

written_pack : (tree : Tree) (s : Subset) (subsets : List Subset) (columns : List Column)
    (content : List Bool) → AllByRecursion (FitsAlone tree) (s ∷ subsets)
    → columns_of 1 s.fields (map (λ (t : Subset). t.fields) subsets) ≡ Ok columns
    → packed (length (s ∷ subsets)) columns ≡ Ok content → Packed (s ∷ subsets) content
written_pack tree s subsets columns content fit e p =
    let others = map (λ (t : Subset). t.fields) subsets in
    let many : length others ≡ length subsets = length-map subsets (λ (t : Subset). t.fields) in
    let row = rows 1 s.fields others columns e in
    let formed : Formed (1 + length others) columns =
    λ k short. subst AreFormed (row k short)
    (formed_at tree (s ∷ subsets) k fit (omega (arith, short, many))) in
    let are = are_columns 1 s.fields others columns e formed in
    let size : 1 + length others ≡ length (s ∷ subsets) = omega (arith, many) in
    let g = guard_ok (nat_lt most_values (length columns * length (s ∷ subsets))) _ _ content p in
    let bits_are = ok_is _ _ g.1 in (
      columns,
      columns_whole s subsets columns e,
      ltb-false _ _ g.0,
      subst (λ b. AreColumns (length (s ∷ subsets)) columns b) bits_are
          (subst (λ l. AreColumns l columns (flat_map (λ c. best c.spec c.values) columns)) size
          are),
    )

pub compressed_hold : AreUnrolled → (tree : Tree) (subsets : List Subset) (content : List Bool)
    → written_bits tree true subsets ≡ Ok content → WrittenHold tree subsets content
compressed_hold law tree [] content e = (tt, sym (ok_is _ _ e))
compressed_hold law tree (s ∷ subsets) content e =
    let a = bind_ok (each_fits tree 1 (s ∷ subsets)) _ content e in
    let b = bind_ok (columns_of_all (s ∷ subsets)) _ content a.2 in
    let fit = each_fit law tree 1 (s ∷ subsets) a.0 a.1 in
    (fit, written_pack tree s subsets b.0 content fit b.1 b.2)
