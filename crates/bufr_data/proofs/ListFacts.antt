-- Lists that grow at their end, their rests, and what holds of each element.
use Rattle.std.proofs.Common.{◌≡◌, ℕ, suc, ◌+◌, ◌<◌, Bool, List, [], ◌∷◌, ◌++◌, length, map, take}
use Rattle.std.proofs.Common.{drop, get_or, sym, ap, subst, ◌∙◌, add-one, append_assoc, append-nil}
use Rattle.std.proofs.Common.{drop-cons, replicate}
use Rattle.std.specs.List.{AllByRecursion, flat_map}
use Rattle.std.proofs.lemmas.Grind.{flat_map-append}
use Rattle.std.proofs.lemmas.List.{map-append, take_more}
use Rattle.std.proofs.lemmas.List.Elements.{All-append, All-get_or, All-replicate}
use Rattle.std.proofs.lemmas.List.Elements.{All-from_recursion, recursion_from_All}

pub front_is : {X : Type 0} → (xs : List X) (k : ℕ) (x : X) → k < length xs → x ≡ get_or xs k x
    → take (k + 1) xs ≡ take k xs ++ x ∷ []
front_is xs k x h is = take_more xs k x h ∙ ap (λ y. take k xs ++ y ∷ []) (sym is)

pub left_is : {X : Type 0} → (xs : List X) (k : ℕ) (x : X) → k < length xs → x ≡ get_or xs k x
    → drop k xs ≡ x ∷ drop (k + 1) xs
left_is xs k x h is =
    rw (add-one k) (drop-cons xs k x h ∙ ap (λ y. y ∷ drop (suc k) xs) (sym is))

pub map_grown : {X Y : Type 0} → (f : X → Y) (xs grown : List X) (x : X) → grown ≡ xs ++ x ∷ []
    → map f grown ≡ map f xs ++ f x ∷ []
map_grown f xs grown x is = ap (map f) is ∙ map-append f xs (x ∷ [])

pub all_replicated : {X : Type 0} → (P : X → Type 0) (n : ℕ) (x : X) → P x
    → AllByRecursion P (replicate n x)
all_replicated P n x one = recursion_from_All P (replicate n x) (All-replicate P n x one)

pub all_at : {X : Type 0} → (P : X → Type 0) (xs : List X) (k : ℕ) (d : X) → AllByRecursion P xs
    → k < length xs → P (get_or xs k d)
all_at P xs k d all short = All-get_or P xs k d short (All-from_recursion P xs all)

pub all_joined : {X : Type 0} → (P : X → Type 0) (xs ys : List X) → AllByRecursion P xs
    → AllByRecursion P ys → AllByRecursion P (xs ++ ys)
all_joined P xs ys a b =
    recursion_from_All P (xs ++ ys)
    (All-append P xs ys (All-from_recursion P xs a) (All-from_recursion P ys b))

pub all_grown : {X : Type 0} → (P : X → Type 0) (xs grown : List X) (x : X) → grown ≡ xs ++ x ∷ []
    → AllByRecursion P xs → P x → AllByRecursion P grown
all_grown P xs grown x is all one =
    subst (AllByRecursion P) (sym is) (all_joined P xs (x ∷ []) all (one, tt))

pub put_grown : {X : Type 0}
    → (f : X → List Bool) (xs grown : List X) (x : X) (old mid new : List Bool)
    → grown ≡ xs ++ x ∷ [] → mid ≡ old ++ flat_map f xs → new ≡ mid ++ f x
    → new ≡ old ++ flat_map f grown
put_grown f xs grown x old mid new is so_far put =
    let more : flat_map f grown ≡ flat_map f xs ++ f x =
    ap (flat_map f) is ∙ flat_map-append f xs (x ∷ [])
    ∙ ap (λ bs. flat_map f xs ++ bs) (append-nil (f x)) in
    put ∙ ap (λ bs. bs ++ f x) so_far ∙ append_assoc old (flat_map f xs) (f x)
    ∙ ap (λ bs. old ++ bs) (sym more)
