-- The fault of writing compressed subsets is that of the first field that can't be one column.
use Rattle.std.proofs.Common.{◌≡◌, ℕ, ◌+◌, Bool, true, false, cond, List, [], ◌∷◌, map, drop}
use Rattle.std.proofs.Common.{Result, Ok, Err, refl, sym, ap, ◌∙◌, ◌⊎◌, inl, inr}
use Rattle.std.specs.Prelude.{◌&&◌, ◌||◌, not, nat_le}
use Rattle.std.specs.List.{AllByRecursion, list_all}
use Rattle.std.proofs.lemmas.Bool.{and_from, and_parts, or_right, le-leb, leb-true, eq-eqb}
use Rattle.bufr_tables.specs.declared.element.Kind.TheVariants as kinds
use Rattle.bufr_tables.specs.Elements.{same_kind}
use Rattle.bufr_base.specs.AnswerLaws.{err_is}
use Rattle.bufr_expand.specs.declared.operators.Spec.{Spec}
use Rattle.bufr_fields.specs.declared.field.Raw.{Raw}
use Rattle.bufr_fields.specs.declared.field.Field.{Field}
use Rattle.bufr_fields.specs.declared.fault.MisfitFault.{MisfitFault}
use Rattle.bufr_fields.specs.declared.fault.MisfitFault.TheVariants as misfits
use Rattle.bufr_fields.specs.Forms.{same_spec}
use Rattle.bufr_data.specs.Compressed.{Column}
use Rattle.bufr_data.specs.Compressed.Reading.{all_equal}
use Rattle.bufr_data.specs.Compressed.Best.{can_be_column, widest, begins_like, first_raw, is_empty}
use Rattle.bufr_data.specs.Compressed.Best.{column_or, columns_of}
use Rattle.bufr_data.specs.Compressed.Causes.{BeginsLike, CanBeColumn, same, narrow, FirstApart}
use Rattle.bufr_fields.specs.FormLaws.{spec_is_same}
use Rattle.bufr_data.proofs.CompressedFacts.Walks.{all_equal_is, all_equal_again}
use Rattle.bufr_data.proofs.KindFacts.{kinds_differ, other_kind}
use Rattle.bufr_data.proofs.CompressedFacts.Packed.{column_behind, like_is}

like_passes : (f : Field) (gs : List Field) → BeginsLike f gs → begins_like f gs ≡ true
like_passes f [] h = absurd h
like_passes f (g ∷ gs) h =
    let spec : same_spec g.spec f.spec ≡ true =
    ap (same_spec g.spec) (sym h.1) ∙ spec_is_same g.spec in
    rw (eq-eqb f.fxy g.fxy h.0, spec) refl

all_like_pass : (f : Field) (others : List (List Field)) → AllByRecursion (BeginsLike f) others
    → list_all (begins_like f) others ≡ true
all_like_pass f [] h = refl
all_like_pass f (gs ∷ others) h = rw (like_passes f gs h.0, all_like_pass f others h.1) refl

all_like_is : (f : Field) (others : List (List Field)) → list_all (begins_like f) others ≡ true
    → AllByRecursion (BeginsLike f) others
all_like_is f [] e = tt
all_like_is f (gs ∷ others) e =
    let p = and_parts (begins_like f gs) (list_all (begins_like f) others) e in
    (like_is f gs p.0, all_like_is f others p.1)

pub can_passes : (spec : Spec) (values : List Raw) → CanBeColumn spec values
    → can_be_column spec values ≡ true
can_passes spec values (same v all) = rw (all_equal_again v values all) refl
can_passes spec values (narrow other short) =
    let inner : (not (same_kind spec.kind kinds.Count) && nat_le (widest spec) 63) ≡ true =
    rw (other_kind spec.kind kinds.Count other, le-leb (widest spec) 63 short) refl in
    or_right (all_equal values)
    (not (same_kind spec.kind kinds.Count) && nat_le (widest spec) 63) inner

can_is_by : (spec : Spec) (values : List Raw) (b c : Bool) → all_equal values ≡ b
    → same_kind spec.kind kinds.Count ≡ c → (b || (not c && nat_le (widest spec) 63)) ≡ true
    → CanBeColumn spec values
can_is_by spec values true c e k can = let h = all_equal_is values e in same h.0 h.1
can_is_by spec values false true e k can = absurd cc
can_is_by spec values false false e k can =
    narrow (kinds_differ spec.kind kinds.Count k) (leb-true _ _ can)

can_is : (spec : Spec) (values : List Raw) → can_be_column spec values ≡ true
    → CanBeColumn spec values
can_is spec values e = can_is_by spec values _ _ refl refl e

all_empty_passes : (others : List (List Field)) → AllByRecursion (λ fs. fs ≡ []) others
    → list_all is_empty others ≡ true
all_empty_passes [] h = refl
all_empty_passes (fs ∷ others) h = rw (h.0, all_empty_passes others h.1) refl

all_empty_is : (others : List (List Field)) → list_all is_empty others ≡ true
    → AllByRecursion (λ fs. fs ≡ []) others
all_empty_is [] e = tt
all_empty_is ([] ∷ others) e = (refl, all_empty_is others e)
all_empty_is ((f ∷ fs) ∷ others) e = absurd cc

ended_err : (i : ℕ) (others : List (List Field)) (b : Bool) (fault : MisfitFault)
    → list_all is_empty others ≡ b
    → ◌≡◌ {A = Result (List Column) MisfitFault} (cond b (Ok []) (Err (misfits.NotCompressible i)))
    (Err fault) → (AllByRecursion (λ fs. fs ≡ []) others → ⊥) × (fault ≡ misfits.NotCompressible i)
ended_err i others true fault e h = absurd cc
ended_err i others false fault e h = (
  (λ all. let yes = all_empty_passes others all in let bad = sym yes ∙ e in cc),
  sym (err_is _ _ h),
)

column_err : (i : ℕ) (b : Bool) (c : Column) (others : Result (List Column) MisfitFault)
    (fault : MisfitFault) → column_or i b c others ≡ Err fault
    → ((b ≡ false) × (fault ≡ misfits.NotCompressible i)) ⊎ ((b ≡ true) × (others ≡ Err fault))
column_err i true c (Ok cs) fault e = absurd cc
column_err i true c (Err g) fault e = inr (refl, ap (λ f. Err f) (err_is _ _ e))
column_err i false c others fault e = inl (refl, sym (err_is _ _ e))

pub columns_apart : (i : ℕ) (fs : List Field) (others : List (List Field)) (fault : MisfitFault)
    → columns_of i fs others ≡ Err fault → FirstApart i fs others fault
unfolding columns_of
columns_apart i [] others fault e = ended_err i others _ fault refl e
columns_apart i (f ∷ fs) others fault e =
    elim
    (column_err i
    (list_all (begins_like f) others && can_be_column f.spec
    (f.raw ∷ map first_raw others)) _ _ fault e) [
      | inl none ↦
          inl (
            (λ h. let yes = and_from _ _ (all_like_pass f others h.0)
                (can_passes f.spec (f.raw ∷ map first_raw others) h.1) in let bad = sym yes
                ∙ none.0 in cc),
            none.1,
          )
      | inr one ↦
          inr (
            (
              all_like_is f others (and_parts _ _ one.0).0,
              can_is f.spec
                  (f.raw ∷ map first_raw others) (and_parts (list_all (begins_like f) others) _
                  one.0).1,
            ),
            columns_apart (i + 1) fs (map (drop 1) others) fault one.1,
          )
    ]

apart_by : (i : ℕ) (b : Bool) (c : Column) (others : Result (List Column) MisfitFault)
    (fault : MisfitFault) → (b ≡ true → ⊥) → fault ≡ misfits.NotCompressible i
    → column_or i b c others ≡ Err fault
apart_by i true c others fault none is = absurd (none refl)
apart_by i false c others fault none is = ap (λ f. Err f) (sym is)

ended_again : (i : ℕ) (others : List (List Field)) (b : Bool) (fault : MisfitFault)
    → list_all is_empty others ≡ b → (AllByRecursion (λ fs. fs ≡ []) others → ⊥)
    → fault ≡ misfits.NotCompressible i
    → ◌≡◌ {A = Result (List Column) MisfitFault} (cond b (Ok []) (Err (misfits.NotCompressible i)))
    (Err fault)
ended_again i others true fault e none is = absurd (none (all_empty_is others e))
ended_again i others false fault e none is = ap (λ f. Err f) (sym is)

pub apart_columns : (i : ℕ) (fs : List Field) (others : List (List Field)) (fault : MisfitFault)
    → FirstApart i fs others fault → columns_of i fs others ≡ Err fault
unfolding columns_of
apart_columns i [] others fault h = ended_again i others _ fault refl h.0 h.1
apart_columns i (f ∷ fs) others fault (inl h) =
    apart_by i
    (list_all (begins_like f) others && can_be_column f.spec
    (f.raw ∷ map first_raw others)) _ _ fault
    (λ e. h.0 (
      all_like_is f others (and_parts _ _ e).0,
      can_is f.spec
          (f.raw ∷ map first_raw others) (and_parts (list_all (begins_like f) others) _ e).1,
    )) h.1
apart_columns i (f ∷ fs) others fault (inr h) =
    column_behind i (list_all (begins_like f) others && can_be_column f.spec
    (f.raw ∷ map first_raw others)) _ _ fault
    (and_from _ _ (all_like_pass f others h.0.0) (can_passes f.spec
    (f.raw ∷ map first_raw others) h.0.1))
    (apart_columns (i + 1) fs (map (drop 1) others) fault h.1)
