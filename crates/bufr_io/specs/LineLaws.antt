-- Laws of whole lines: what engines have written when memory ran out.
use Rattle.std.proofs.Common.{◌≡◌, ℕ, inl, inr, List, [], ◌∷◌, ◌++◌, refl, sym, ap, ◌∙◌, subst}
use Rattle.std.proofs.Common.{append_assoc}
use Rattle.std.specs.List.{flat_map}
use Rattle.std.proofs.lemmas.List.{append-nil}
use Rattle.bufr_io.specs.Lines.{AreWholeLines}

-- a text that ends with a line feed is whole lines
pub line_whole : (before : List ℕ) → AreWholeLines (before ++ 10 ∷ [])
line_whole before = inr (before, refl)

-- octets that end in whole lines
pub end_whole : (a b : List ℕ) (before : List ℕ) → b ≡ before ++ 10 ∷ [] → AreWholeLines (a ++ b)
end_whole a b before is =
    let whole = ap (λ (t : List ℕ). a ++ t) is ∙ sym (append_assoc a before (10 ∷ [])) in
    inr (a ++ before, whole)

-- whole lines after whole lines
pub both_whole : (a b : List ℕ) → AreWholeLines a → AreWholeLines b → AreWholeLines (a ++ b)
both_whole a b one (inl none) =
    subst AreWholeLines (sym (ap (λ (t : List ℕ). a ++ t) none ∙ append-nil a)) one
both_whole a b one (inr last) = end_whole a b last.0 last.1

-- whole lines of each element
pub all_whole : {A : Type 0} (f : A → List ℕ) (xs : List A) → ((x : A) → AreWholeLines (f x))
    → AreWholeLines (flat_map f xs)
all_whole f [] each = inl refl
all_whole f (x ∷ xs) each = both_whole (f x) (flat_map f xs) (each x) (all_whole f xs each)
