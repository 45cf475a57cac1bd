-- Trimmed fields of a record.
use Rattle.std.proofs.Common.{◌≡◌, ◌≢◌, ◌∙◌, ℕ, zero, suc, ◌==◌, ◌&&◌, Bool, true, false, List, []}
use Rattle.std.proofs.Common.{◌∷◌, ◌++◌, get_or, map, take, drop, reverse, Some, None, refl}
use Rattle.std.proofs.Common.{ap, sym, arith, nat_eq}
use Rattle.std.proofs.lemmas.List.{reverse-append, reverse-reverse}
use Rattle.csv.specs.Records.{field_at}
use Rattle.std.proofs.lemmas.Bool.Decides.{nat_tests}
use Rattle.std.specs.Cmp.Lexicographic.{pointwise}
use Rattle.csv.specs.Reading.{strip_bom}
use Rattle.bufr_tables.specs.Fields.{skip_spaces, without_spaces, used_fields}

pub skip_spaces-space : (rest : List ℕ) → skip_spaces (32 ∷ rest) ≡ skip_spaces rest
unfolding skip_spaces
skip_spaces-space rest = refl

pub skip_spaces-other : (c : ℕ) (rest : List ℕ) → c ≢ 32 → skip_spaces (c ∷ rest) ≡ c ∷ rest
unfolding skip_spaces
skip_spaces-other c rest h = let e : (c == 32) ≡ false = grind (arith, nat_tests) in rw e

pub skip_spaces-none : skip_spaces [] ≡ []
unfolding skip_spaces
skip_spaces-none = refl

three_tests : (x y z b : Bool) → x && (y && (z && true)) ≡ b → (x && y) && z ≡ b
three_tests true true true b h = h
three_tests true true false b h = h
three_tests true false z b h = h
three_tests false y z b h = h

pub strip_bom-mark : (t : List ℕ) → pointwise nat_eq (take 3 t) (0xEF ∷ 0xBB ∷ 0xBF ∷ []) ≡ true
    → strip_bom t ≡ drop 3 t
unfolding strip_bom
strip_bom-mark [] h = cc
strip_bom-mark (a ∷ []) h = absurd (false_and (a == 0xEF) h)
  where
    false_and : (x : Bool) → x && false ≡ true → ⊥
    false_and true h = cc
    false_and false h = cc
strip_bom-mark (a ∷ b ∷ []) h = absurd (false_and (a == 0xEF) (b == 0xBB) h)
  where
    false_and : (x y : Bool) → x && (y && false) ≡ true → ⊥
    false_and true true h = cc
    false_and true false h = cc
    false_and false y h = cc
strip_bom-mark (a ∷ b ∷ c ∷ rest) h = rw (three_tests (a == 0xEF) (b == 0xBB) (c == 0xBF) true h)

pub strip_bom-none : (t : List ℕ) → pointwise nat_eq (take 3 t) (0xEF ∷ 0xBB ∷ 0xBF ∷ []) ≡ false
    → strip_bom t ≡ t
unfolding strip_bom
strip_bom-none [] h = refl
strip_bom-none (a ∷ []) h = refl
strip_bom-none (a ∷ b ∷ []) h = refl
strip_bom-none (a ∷ b ∷ c ∷ rest) h = rw (three_tests (a == 0xEF) (b == 0xBB) (c == 0xBF) false h)

pub get_or-field_at : (fs : List (List ℕ)) (i : ℕ) (f : List ℕ) → field_at fs i ≡ Some f
    → get_or fs i [] ≡ f
unfolding field_at
get_or-field_at [] i f h = absurd (cc)
get_or-field_at (g ∷ fs) zero f h = cc
get_or-field_at (g ∷ fs) (suc i) f h = get_or-field_at fs i f h

pub get_or-field_at-none : (fs : List (List ℕ)) (i : ℕ) → field_at fs i ≡ None → get_or fs i [] ≡ []
unfolding field_at
get_or-field_at-none [] i h = refl
get_or-field_at-none (g ∷ fs) zero h = absurd (cc)
get_or-field_at-none (g ∷ fs) (suc i) h = get_or-field_at-none fs i h

nothing-left : without_spaces [] ≡ []
unfolding skip_spaces
nothing-left = refl

pub used_fields-first : (fs : List (List ℕ))
    → get_or (used_fields fs) 0 [] ≡ without_spaces (strip_bom (get_or fs 0 []))
unfolding strip_bom skip_spaces
used_fields-first [] = refl
used_fields-first (f ∷ fs) = refl

get_or-trimmed : (fs : List (List ℕ)) (i : ℕ)
    → get_or (map without_spaces fs) i [] ≡ without_spaces (get_or fs i [])
get_or-trimmed [] i = sym nothing-left
get_or-trimmed (f ∷ fs) zero = refl
get_or-trimmed (f ∷ fs) (suc i) = get_or-trimmed fs i

pub used_fields-later : (fs : List (List ℕ)) (i : ℕ) → i ≢ 0
    → get_or (used_fields fs) i [] ≡ without_spaces (get_or fs i [])
used_fields-later [] i h = sym nothing-left
used_fields-later (f ∷ fs) zero h = absurd (h refl)
used_fields-later (f ∷ fs) (suc i) h = get_or-trimmed fs i

reverse-push : (xs : List ℕ) (c : ℕ) → reverse (xs ++ c ∷ []) ≡ c ∷ reverse xs
reverse-push xs c = reverse-append xs (c ∷ [])

pub skip_back-space : (xs : List ℕ)
    → skip_spaces (reverse (xs ++ 32 ∷ [])) ≡ skip_spaces (reverse xs)
skip_back-space xs = ap skip_spaces (reverse-push xs 32) ∙ skip_spaces-space (reverse xs)

pub skip_back-other : (xs : List ℕ) (c : ℕ) → c ≢ 32
    → reverse (skip_spaces (reverse (xs ++ c ∷ []))) ≡ xs ++ c ∷ []
skip_back-other xs c h =
    ap (λ (t : List ℕ). reverse (skip_spaces t)) (reverse-push xs c)
    ∙ ap reverse (skip_spaces-other c (reverse xs) h) ∙ ap reverse (sym (reverse-push xs c))
    ∙ reverse-reverse (xs ++ c ∷ [])

pub skip_back-none : reverse (skip_spaces (reverse [])) ≡ []
unfolding skip_spaces
skip_back-none = refl
