-- Octets written into a row before others, and the value of a field with a number.
use Rattle.std.proofs.Common.{◌≡◌, ℕ, ◌+◌, ◌≤◌, List, ◌∷◌}
use Rattle.std.proofs.Common.{length, drop, set, refl, ap, ◌∙◌}
use Rattle.std.proofs.Common.{arith}
use Rattle.std.specs.Prelude.{◌+ℤ◌, pos, false}
use Rattle.std.proofs.lemmas.List.{drop-set}
use Rattle.bufr_fields.specs.Values.{decimal_within, is_missing, value_by}
use Rattle.bufr_fields.specs.declared.field.Field.{Field}
use Rattle.bufr_fields.specs.declared.field.Raw.TheVariants.{Number}
use Rattle.bufr_tables.specs.declared.element.Kind.{Kind}
use Rattle.bufr_tables.specs.declared.element.Kind.TheVariants as kinds

-- one octet more, before the others
pub octet_before : (row : List ℕ) (octet at end : ℕ) → at + 1 ≡ end → end ≤ length row
    → drop at (set row at octet) ≡ octet ∷ drop end row
octet_before row octet at end next inside =
    drop-set row at octet (omega (arith, next, inside)) ∙ ap (λ n. octet ∷ drop n row) next

-- the value of a number that is there
pub value_other : (kind : Kind) (n : ℕ) (f : Field) → (kind ≡ kinds.Text → ⊥) → is_missing f ≡ false
    → value_by kind (Number n) f ≡ decimal_within (pos n +ℤ f.spec.reference) f.spec.scale
value_other kinds.Text n f other there = absurd (other refl)
value_other kinds.Code n f other there = rw there refl
value_other kinds.Flag n f other there = rw there refl
value_other kinds.Quantity n f other there = rw there refl
value_other kinds.Count n f other there = rw there refl
