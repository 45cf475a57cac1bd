-- The compressed subsets that can be written.
use Rattle.std.proofs.Common.{◌≡◌, ℕ, suc, ◌*◌, ◌≤◌, Bool, true, List, [], ◌∷◌, length, map, refl}
use Rattle.std.proofs.Common.{sym, ap, subst, ◌∙◌, inl, inr}
use Rattle.std.specs.List.{AllByRecursion}
use Rattle.std.proofs.lemmas.List.{length-map}
use Rattle.bufr_tables.specs.declared.element.Kind.TheVariants as kinds
use Rattle.bufr_tables.specs.Elements.{same_kind}
use Rattle.bufr_expand.specs.Trees.{Tree}
use Rattle.bufr_fields.specs.declared.field.Field.{Field}
use Rattle.bufr_fields.specs.declared.field.Subset.{Subset}
use Rattle.bufr_data.specs.Compressed.{Column, HaveOneCount, AreColumns, field_of, subsets_from}
use Rattle.bufr_data.specs.Compressed.Best.{widest, can_be_column, CanBeWritten, best_bits}
use Rattle.bufr_data.specs.Compressed.Causes.{same, narrow}
use Rattle.bufr_data.specs.Data.{PackedDataCanBeBare, NarrowDataCanBePacked}
use Rattle.bufr_data.proofs.CompressedFacts.Misfits.{can_passes}
use Rattle.std.proofs.lemmas.Bool.{cases_Bool}
use Rattle.bufr_fields.specs.FormLaws.{same_kind_is}
use Rattle.bufr_data.proofs.KindFacts.{kinds_differ}
use Rattle.bufr_data.proofs.CompressedFacts.Packed.{cons_head}
use Rattle.bufr_fields.specs.Limits.{most_values}

as_many : (s : Subset) (subsets : List Subset) (n m : ℕ) (a b : List Column)
    → s ∷ subsets ≡ subsets_from 0 (suc n) a → s ∷ subsets ≡ subsets_from 0 (suc m) b
    → length a ≡ length b
as_many s subsets n m a b e f =
    let fields : map (field_of 0) a ≡ map (field_of 0) b =
    ap (λ (t : Subset). t.fields) (sym (cons_head _ _ _ _ e) ∙ cons_head _ _ _ _ f) in
    sym (length-map a (field_of 0)) ∙ ap (λ (fs : List Field). length fs) fields
    ∙ length-map b (field_of 0)

pub packed_can_be_bare : (tree : Tree) (subsets : List Subset) (columns : List Column)
    (data_bits : List Bool) → PackedDataCanBeBare tree subsets columns data_bits
packed_can_be_bare tree [] columns data_bits h can = ([], (h.0, [], refl, refl))
packed_can_be_bare tree (s ∷ subsets) columns data_bits h can =
    let many : length h.1.0 ≡ length columns =
    as_many s subsets (length subsets) (length subsets) h.1.0 columns h.1.1 can.0 in
    let room : length columns * length (s ∷ subsets) ≤ most_values =
    subst (λ k. k * length (s ∷ subsets) ≤ most_values) many h.1.2 in
    (best_bits columns, (h.0, columns, (can.0, room, can.1), refl))

narrow_column : (c : Column) → HaveOneCount c → widest c.spec ≤ 63
    → can_be_column c.spec c.values ≡ true
narrow_column c one short =
    elim (cases_Bool (same_kind c.spec.kind kinds.Count)) [
      | inl is ↦
          let v = one (same_kind_is c.spec.kind kinds.Count is) in
          can_passes c.spec c.values (same v.0 v.1)
      | inr other ↦
          can_passes c.spec c.values (narrow (kinds_differ c.spec.kind kinds.Count other) short)
    ]

narrow_columns : (n : ℕ) (columns : List Column) (front : List Bool) → AreColumns n columns front
    → AllByRecursion (λ f. widest f.spec ≤ 63) (map (field_of 0) columns)
    → AllByRecursion (CanBeWritten n) columns
narrow_columns n [] front are short = tt
narrow_columns n (c ∷ cs) front are short =
    ((are.3, narrow_column c are.5 short.0), narrow_columns n cs are.1 are.6 short.1)

pub narrow_can_be_packed : (tree : Tree) (subsets : List Subset) (data_bits : List Bool)
    → NarrowDataCanBePacked tree subsets data_bits
narrow_can_be_packed tree [] data_bits h short = ([], (refl, tt))
narrow_can_be_packed tree (s ∷ subsets) data_bits h short =
    let fields : s.fields ≡ map (field_of 0) h.1.0 =
    ap (λ (t : Subset). t.fields) (cons_head _ _ _ _ h.1.1) in (
      h.1.0,
      (
        h.1.1,
        narrow_columns (length (s ∷ subsets)) h.1.0 data_bits h.1.3
            (subst (λ fs. AllByRecursion (λ f. widest f.spec ≤ 63) fs) fields short.0),
      ),
    )
