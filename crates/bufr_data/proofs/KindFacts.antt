-- Kinds that the test tells apart differ.
use Rattle.std.proofs.Common.{◌≡◌, false, ap, inl, inr, ◌∙◌}
use Rattle.std.proofs.lemmas.Bool.{cases_Bool, both_ways}
use Rattle.bufr_tables.specs.declared.element.Kind.{Kind}
use Rattle.bufr_tables.specs.Elements.{same_kind}
use Rattle.bufr_fields.specs.FormLaws.{same_kind_is, kind_is_same}

pub other_kind : (a b : Kind) → (a ≡ b → ⊥) → same_kind a b ≡ false
other_kind a b other =
    elim (cases_Bool (same_kind a b)) [
      | inl e ↦ absurd (other (same_kind_is a b e))
      | inr e ↦ e
    ]

pub kinds_differ : (a b : Kind) → same_kind a b ≡ false → a ≡ b → ⊥
kinds_differ a b e is =
    both_ways (same_kind a b) e (ap (λ k. same_kind k b) is ∙ kind_is_same b)
