-- `after` returns the next entry of a shelf: for walks by `Shelf::first` and `Shelf::after`.
use Rattle.std.proofs.Common.{◌≡◌, Option, Some, List, [], ◌∷◌, ◌++◌, refl, sym, ap, ◌∙◌, subst}
use Rattle.std.specs.Option.{option_map}
use Rattle.std.specs.List.{AllByRecursion}
use Rattle.std.specs.List.Sorted.{IsStrictlySortedBy}
use Rattle.std.specs.Ordering.{ordering_reverse}
use Rattle.std.specs.Cmp.{tied_itself}
use Rattle.std.specs.declared.cmp.Ordering.TheVariants.{Less, Greater}
use Rattle.bufr_entries.specs.Keeping.{first_of}
use Rattle.bufr_entries.specs.Entries.{slot_cmp, kept, entry_after}
use Rattle.bufr_entries.specs.Orders.{slots_total, kept-are}
use Rattle.bufr_shelves.specs.Shelves.{lent}
use Rattle.bufr_entries.specs.declared.entry.Entry.{Entry}
use Rattle.bufr_shelves.specs.declared.held.Held.{Held}

all_mid : (P : Entry → Type 0) (xs ys : List Entry) (e : Entry)
    → AllByRecursion P (xs ++ e ∷ ys) → P e
all_mid P [] ys e a = a.0
all_mid P (x ∷ xs) ys e a = all_mid P xs ys e a.1

next : (xs ys : List Entry) (e : Entry) → IsStrictlySortedBy slot_cmp (xs ++ e ∷ ys)
    → entry_after (xs ++ e ∷ ys) e ≡ first_of ys
unfolding IsStrictlySortedBy
next [] [] e s = rw (tied_itself slots_total e) refl
next [] (y ∷ ys) e s = rw (tied_itself slots_total e) (rw (s.0.0) refl)
next (x ∷ xs) ys e s =
    let before : slot_cmp x e ≡ Less = all_mid (λ z. slot_cmp x z ≡ Less) xs ys e s.0 in
    let g : slot_cmp e x ≡ Greater = slots_total.antisymm e x ∙ ap ordering_reverse before in
    rw g (next xs ys e s.1)

pub after-in-order : (es xs ys : List Entry) (e : Entry) → kept es ≡ es → es ≡ xs ++ e ∷ ys
    → entry_after es e ≡ first_of ys
after-in-order es xs ys e k q =
    ap (λ zs. entry_after zs e) q
    ∙ next xs ys e (subst (IsStrictlySortedBy slot_cmp) (k ∙ q) (kept-are es).ordered)

pub goes-on : (r : Option Held) (h : Held) (todo : List Entry) → r ≡ Some h
    → option_map lent r ≡ first_of todo → (rest : List Entry) × (todo ≡ lent h ∷ rest)
goes-on r h [] q e =
    let z : Some (lent h) ≡ first_of [] = ap (option_map lent) (sym q) ∙ e in cc
goes-on r h (x ∷ xs) q e =
    let z : Some x ≡ Some (lent h) = sym e ∙ ap (option_map lent) q in
    let x_is : x ≡ lent h = cc in
    (xs, ap (λ y. y ∷ xs) x_is)
