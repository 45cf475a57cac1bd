-- The subsets that are written compressed have the best columns.
use Rattle.std.proofs.Common.{◌≡◌, ℕ, zero, suc, ◌+◌, ◌*◌, Bool, true, List, [], ◌∷◌, length, map}
use Rattle.std.proofs.Common.{drop, get_or, Ok, refl, sym, ap, subst, ◌∙◌, arith}
use Rattle.std.specs.Prelude.{nat_lt}
use Rattle.std.specs.List.{AllByRecursion, list_all}
use Rattle.std.proofs.lemmas.Bool.{and_from, le-ltb, ltb-false, eq-eqb}
use Rattle.std.proofs.lemmas.List.{at_drop_more, drop_all, length-map}
use Rattle.bufr_base.specs.AnswerLaws.{bind_ok, guard_ok, ok_is}
use Rattle.bufr_expand.specs.Trees.{Tree}
use Rattle.bufr_fields.specs.declared.field.Raw.{Raw}
use Rattle.bufr_fields.specs.declared.field.Raw.TheVariants.{Number}
use Rattle.bufr_fields.specs.declared.field.Field.{Field}
use Rattle.bufr_fields.specs.declared.field.Subset.{Subset}
use Rattle.bufr_fields.specs.Forms.{same_spec}
use Rattle.bufr_data.specs.Compressed.{Column, field_of, subsets_from}
use Rattle.bufr_data.specs.Compressed.Best.{can_be_column, begins_like, first_raw, is_empty, columns_of}
use Rattle.bufr_data.specs.Compressed.Best.{columns_of_all, packed, best_bits, CanBeWritten}
use Rattle.bufr_data.specs.Compressed.Best.{AreBestColumns}
use Rattle.bufr_fields.specs.Fits.{FitsAlone}
use Rattle.bufr_data.specs.Data.{each_fits, written_bits}
use Rattle.bufr_fields.specs.FitLaws.{fitting_counted}
use Rattle.bufr_data.proofs.CompressedFacts.Packed.{taken, none_taken, column_passes, columns_whole, each_fit}
use Rattle.bufr_fields.specs.Limits.{most_values}
use Rattle.bufr_fields.specs.FormLaws.{spec_is_same}
use Rattle.bufr_fields.specs.CourseLaws.{AreUnrolled, AreAllowed}

-- the fields of m subsets from index k on
abbrev fields_from : ℕ → ℕ → List Column → List (List Field)
fields_from k m columns = map (λ (t : Subset). t.fields) (subsets_from k m columns)

all_empty : (k m : ℕ) → list_all is_empty (fields_from k m []) ≡ true
all_empty k zero = refl
all_empty k (suc m) = all_empty (k + 1) m

all_like : (k m : ℕ) (f : Field) (c : Column) (cs : List Column) → f.fxy ≡ c.fxy → f.spec ≡ c.spec
    → list_all (begins_like f) (fields_from k m (c ∷ cs)) ≡ true
all_like k zero f c cs d s = refl
all_like k (suc m) f c cs d s =
    let same : same_spec c.spec f.spec ≡ true =
    ap (λ t. same_spec c.spec t) s ∙ spec_is_same c.spec in
    rw (eq-eqb f.fxy c.fxy d, same, all_like (k + 1) m f c cs d s) refl

all_behind : (k m : ℕ) (c : Column) (cs : List Column)
    → map (drop 1) (fields_from k m (c ∷ cs)) ≡ fields_from k m cs
all_behind k zero c cs = refl
all_behind k (suc m) c cs = ap (λ rows. map (field_of k) cs ∷ rows) (all_behind (k + 1) m c cs)

values_behind : (k m : ℕ) (c : Column) (cs : List Column) → length c.values ≡ k + m
    → map first_raw (fields_from k m (c ∷ cs)) ≡ drop k c.values
values_behind k zero c cs size = sym (drop_all k c.values (omega (arith, size)))
values_behind k (suc m) c cs size =
    ap (λ vs. get_or c.values k (Number 0) ∷ vs) (values_behind (k + 1) m c cs
    (omega (arith, size))) ∙ sym (at_drop_more (λ (vs : List Raw). vs) c.values k (Number 0)
    (omega (arith, size)))

pub columns_written : (i m : ℕ) (columns : List Column)
    → AllByRecursion (CanBeWritten (suc m)) columns
    → columns_of i (map (field_of 0) columns) (fields_from 1 m columns) ≡ Ok columns
unfolding columns_of
columns_written i m [] all = rw (all_empty 1 m) refl
columns_written i m (c ∷ cs) all =
    let here : get_or c.values 0 (Number 0) ∷ map first_raw (fields_from 1 m (c ∷ cs)) ≡ c.values =
    ap (λ vs. get_or c.values 0 (Number 0) ∷ vs) (values_behind 1 m c cs (omega (arith, all.0.0)))
    ∙ sym (at_drop_more (λ (vs : List Raw). vs) c.values 0 (Number 0) (omega (arith, all.0.0))) in
    let can : can_be_column c.spec
    (get_or c.values 0 (Number 0) ∷ map first_raw (fields_from 1 m (c ∷ cs)))
    ≡ true = ap (can_be_column c.spec) here ∙ all.0.1 in
    column_passes i _ _ _ cs (and_from _ _ (all_like 1 m (field_of 0 c) c cs refl refl) can)
    (ap (columns_of (i + 1) (map (field_of 0) cs)) (all_behind 1 m c cs)
    ∙ columns_written (i + 1) m cs all.1)
    ∙ (λ t. Ok (record { fxy = c.fxy; spec = c.spec; values = here t } ∷ cs))

pub each_counted : AreAllowed → (tree : Tree) (j : ℕ) (subsets : List Subset)
    → AllByRecursion (FitsAlone tree) subsets → each_fits tree j subsets ≡ Ok tt
each_counted law tree j [] fit = refl
each_counted law tree j (s ∷ subsets) fit =
    rw (fitting_counted law tree j 0 fit.0.0 s.fields fit.0.1)
    (each_counted law tree (j + 1) subsets fit.1)

pub fitting_columns_written : AreAllowed
    → (tree : Tree) (subsets : List Subset) (columns : List Column)
    → AllByRecursion (FitsAlone tree) subsets → AreBestColumns subsets columns
    → written_bits tree true subsets ≡ Ok (best_bits columns)
fitting_columns_written law tree [] columns fit are = ap (λ cs. Ok (best_bits cs)) (sym are)
fitting_columns_written law tree (s ∷ subsets) columns fit are =
    let whole : subsets_from 0 (suc (length subsets)) columns ≡ s ∷ subsets = sym are.0 in
    let found : columns_of_all (s ∷ subsets) ≡ Ok columns =
    ap columns_of_all are.0 ∙ columns_written 1 (length subsets) columns are.2 in
    rw (
      each_counted law tree 1 (s ∷ subsets) fit,
      found,
      le-ltb most_values (length columns * length (s ∷ subsets)) are.1,
    ) refl

all_can : (i : ℕ) (fs : List Field) (others : List (List Field)) (columns : List Column)
    → columns_of i fs others ≡ Ok columns
    → AllByRecursion (CanBeWritten (1 + length others)) columns
all_can i [] others columns e =
    subst (λ cs. AllByRecursion (CanBeWritten (1 + length others)) cs)
    (sym (none_taken i others columns e).1) tt
all_can i (f ∷ fs) others columns e =
    let h = taken i f fs others columns e in
    let size : length (f.raw ∷ map first_raw others) ≡ 1 + length others =
    omega (arith, length-map others first_raw) in
    let many : length (map (drop {A = Field} 1) others) ≡ length others =
    length-map others (drop 1) in
    let after =
    subst (λ l. AllByRecursion (CanBeWritten (1 + l)) h.behind) many
    (all_can (i + 1) fs (map (drop 1) others) h.behind h.rest) in
    subst (λ cs. AllByRecursion (CanBeWritten (1 + length others)) cs) (sym h.is)
    ((size, h.can), after)

pub subsets_can : (s : Subset) (subsets : List Subset) (columns : List Column)
    → columns_of 1 s.fields (map (λ (t : Subset). t.fields) subsets) ≡ Ok columns
    → AllByRecursion (CanBeWritten (length (s ∷ subsets))) columns
subsets_can s subsets columns e =
    let others = map (λ (t : Subset). t.fields) subsets in
    let size : 1 + length others ≡ length (s ∷ subsets) =
    omega (arith, length-map subsets (λ (t : Subset). t.fields)) in
    subst (λ l. AllByRecursion (CanBeWritten l) columns) size (all_can 1 s.fields others columns e)

best_pack : (s : Subset) (subsets : List Subset) (columns : List Column) (content : List Bool)
    → columns_of 1 s.fields (map (λ (t : Subset). t.fields) subsets) ≡ Ok columns
    → packed (length (s ∷ subsets)) columns ≡ Ok content
    → AreBestColumns (s ∷ subsets) columns × (content ≡ best_bits columns)
best_pack s subsets columns content e p =
    let g = guard_ok (nat_lt most_values (length columns * length (s ∷ subsets))) _ _ content p in (
      (columns_whole s subsets columns e, ltb-false _ _ g.0, subsets_can s subsets columns e),
      sym (ok_is _ _ g.1),
    )

pub written_best : AreUnrolled → (tree : Tree) (subsets : List Subset) (content : List Bool)
    → written_bits tree true subsets ≡ Ok content
    → AllByRecursion (FitsAlone tree) subsets × (columns : List Column)
    × AreBestColumns subsets columns × (content ≡ best_bits columns)
written_best law tree [] content e = (tt, [], refl, sym (ok_is _ _ e))
written_best law tree (s ∷ subsets) content e =
    let a = bind_ok (each_fits tree 1 (s ∷ subsets)) _ content e in
    let b = bind_ok (columns_of_all (s ∷ subsets)) _ content a.2 in
    let is = best_pack s subsets b.0 content b.1 b.2 in
    (each_fit law tree 1 (s ∷ subsets) a.0 a.1, b.0, is.0, is.1)
