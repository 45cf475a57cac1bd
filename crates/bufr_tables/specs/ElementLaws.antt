-- The tests of elements decide their equality.
use Rattle.std.proofs.Common.{◌≡◌, ◌∙◌, ℕ, ◌&&◌, Bool, refl, ap, ℤ, pos, negsuc}
use Rattle.std.proofs.lemmas.Bool.Decides.{Decides-and, Decides-eqb}
use Rattle.std.specs.Bool.{Decides}
use Rattle.bufr_tables.specs.Elements.{same_kind, same_integer, same_element}
use Rattle.bufr_tables.specs.declared.element.Element.{Element}
use Rattle.bufr_tables.specs.declared.element.Kind.{Kind}
use Rattle.bufr_tables.specs.declared.element.Kind.TheVariants as kinds

-- `same_kind` decides equality
pub same_kind-Decides : (a b : Kind) → Decides (same_kind a b) (a ≡ b)
same_kind-Decides kinds.Text kinds.Text = (λ _. refl, λ _. refl)
same_kind-Decides kinds.Code kinds.Code = (λ _. refl, λ _. refl)
same_kind-Decides kinds.Flag kinds.Flag = (λ _. refl, λ _. refl)
same_kind-Decides kinds.Quantity kinds.Quantity = (λ _. refl, λ _. refl)
same_kind-Decides kinds.Count kinds.Count = (λ _. refl, λ _. refl)
same_kind-Decides _ _ = (λ h. cc, λ h. cc)

-- `same_integer` decides equality
pub same_integer-Decides : (a b : ℤ) → Decides (same_integer a b) (a ≡ b)
same_integer-Decides (pos a) (pos b) =
    (λ h. ap pos ((Decides-eqb a b).0 h), λ h. (Decides-eqb a b).1 (cc))
same_integer-Decides (negsuc a) (negsuc b) =
    (λ h. ap negsuc ((Decides-eqb a b).0 h), λ h. (Decides-eqb a b).1 (cc))
same_integer-Decides (pos a) (negsuc b) = (λ h. cc, λ h. cc)
same_integer-Decides (negsuc a) (pos b) = (λ h. cc, λ h. cc)

-- elements with equal parts are equal
of_parts : (a b : Element) → a.kind ≡ b.kind → a.scale ≡ b.scale → a.reference ≡ b.reference
    → a.width ≡ b.width → a ≡ b
of_parts a b k s r w =
    ap {B = Element}
    (λ (x : Kind).
    record { kind = x; scale = a.scale; reference = a.reference; width = a.width }) k
    ∙ ap {B = Element}
    (λ (x : ℤ). record { kind = b.kind; scale = x; reference = a.reference; width = a.width }) s
    ∙ ap {B = Element}
    (λ (x : ℤ). record { kind = b.kind; scale = b.scale; reference = x; width = a.width }) r
    ∙ ap {B = Element}
    (λ (x : ℕ). record { kind = b.kind; scale = b.scale; reference = b.reference; width = x }) w

-- four tests of parts decide whether elements are equal
pub parts-Decides : (a b : Element) (x y z w : Bool) → Decides x (a.kind ≡ b.kind)
    → Decides y (a.scale ≡ b.scale) → Decides z (a.reference ≡ b.reference)
    → Decides w (a.width ≡ b.width) → Decides (x && (y && (z && w))) (a ≡ b)
parts-Decides a b x y z w p q r s =
    let all = Decides-and x (y && (z && w)) p (Decides-and y (z && w) q (Decides-and z w r s)) in (
      λ h. of_parts a b (all.0 h).0 (all.0 h).1.0 (all.0 h).1.1.0 (all.0 h).1.1.1,
      λ h. all.1 (
        ap (λ (e : Element). e.kind) h,
        (
          ap (λ (e : Element). e.scale) h,
          (ap (λ (e : Element). e.reference) h, ap (λ (e : Element). e.width) h),
        ),
      ),
    )

-- `same_element` decides equality
pub same_element-Decides : (a b : Element) → Decides (same_element a b) (a ≡ b)
same_element-Decides a b =
    parts-Decides a b _ _ _ _ (same_kind-Decides a.kind b.kind)
    (same_integer-Decides a.scale b.scale) (same_integer-Decides a.reference b.reference)
    (Decides-eqb a.width b.width)
