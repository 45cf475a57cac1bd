-- Facts of each member of a list.
use Rattle.std.proofs.Common.{ℕ, List, [], ◌∷◌, ◌++◌, take}
use Rattle.std.specs.List.{AllByRecursion}
use Rattle.std.proofs.lemmas.List.Elements.{All-from_recursion, recursion_from_All, All-take}

pub both : {A : Type 0} (P : A → Type 0) (xs ys : List A) → AllByRecursion P xs
    → AllByRecursion P ys → AllByRecursion P (xs ++ ys)
both P [] ys p q = q
both P (x ∷ xs) ys p q = (p.0, both P xs ys p.1 q)

pub each_of : {A : Type 0} (P : A → Type 0) (xs ys : List A) → AllByRecursion P (xs ++ ys)
    → AllByRecursion P xs × AllByRecursion P ys
each_of P [] ys p = (tt, p)
each_of P (x ∷ xs) ys p = let r = each_of P xs ys p.1 in ((p.0, r.0), r.1)

pub front_of : {A : Type 0} (P : A → Type 0) (n : ℕ) (xs : List A) → AllByRecursion P xs
    → AllByRecursion P (take n xs)
front_of P n xs p =
    recursion_from_All P (take n xs) (All-take P n xs (All-from_recursion P xs p))
