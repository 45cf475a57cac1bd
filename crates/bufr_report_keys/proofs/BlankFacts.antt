-- Octets without the blanks at their end: for `without_last_blanks`, `key_in` and
-- `laws::usable_values`.
use Rattle.std.proofs.Common.{◌≡◌, ◌⊎◌, inl, inr, ℕ, true, false, cond, Some, List, [], ◌∷◌, ◌++◌}
use Rattle.std.proofs.Common.{refl, sym, ap, ◌∙◌, append_assoc, length, take, ◌==◌}
use Rattle.std.proofs.Math.Seq.{take-append_seam}
use Rattle.std.proofs.lemmas.List.{append-nil}
use Rattle.std.specs.List.{AllByRecursion}
use Rattle.bufr_report_keys.specs.Usable.{is_blank, unless_last_blank, without_last_blanks, some_octets}

-- all octets are blanks
abbrev pub AreBlank : List ℕ → Type 0
AreBlank bs = AllByRecursion (λ x. is_blank x ≡ true) bs

-- the last octet is no blank
abbrev pub Ends : List ℕ → Type 0
Ends xs = (front : List ℕ) × (last : ℕ) × (xs ≡ front ++ last ∷ []) × (is_blank last ≡ false)

-- ---- more at the end

pub blank_is_cut : (xs : List ℕ) (b : ℕ) → is_blank b ≡ true
    → without_last_blanks (xs ++ b ∷ []) ≡ without_last_blanks xs
blank_is_cut [] b h = rw h refl
blank_is_cut (x ∷ xs) b h = ap (unless_last_blank x) (blank_is_cut xs b h)

pub blanks_are_cut : (xs bs : List ℕ) → AreBlank bs
    → without_last_blanks (xs ++ bs) ≡ without_last_blanks xs
blanks_are_cut xs [] a = ap (λ (t : List ℕ). without_last_blanks t) (append-nil xs)
blanks_are_cut xs (b ∷ bs) a =
    ap (λ (t : List ℕ). without_last_blanks t) (sym (append_assoc xs (b ∷ []) bs))
    ∙ blanks_are_cut (xs ++ b ∷ []) bs a.1 ∙ blank_is_cut xs b a.0

not_empty : (x : ℕ) (xs : List ℕ) (b : ℕ)
    → unless_last_blank x (xs ++ b ∷ []) ≡ x ∷ xs ++ b ∷ []
not_empty x [] b = refl
not_empty x (y ∷ ys) b = refl

pub other_is_kept : (xs : List ℕ) (b : ℕ) → is_blank b ≡ false
    → without_last_blanks (xs ++ b ∷ []) ≡ xs ++ b ∷ []
other_is_kept [] b h = rw h refl
other_is_kept (x ∷ xs) b h = ap (unless_last_blank x) (other_is_kept xs b h) ∙ not_empty x xs b

-- ---- the blanks, and the octets before them

step : (x : ℕ) (w bs xs : List ℕ) → AreBlank bs → xs ≡ w ++ bs
    → (cs : List ℕ) × AreBlank cs × (x ∷ xs ≡ unless_last_blank x w ++ cs)
step x [] bs xs a e =
    elim (is_blank x) as (λ b. is_blank x ≡ b
    → (cs : List ℕ) × AreBlank cs × (x ∷ xs ≡ cond b [] (x ∷ []) ++ cs)) [
      | true ↦ λ q. (x ∷ bs, (q, a), ap (λ zs. x ∷ zs) e)
      | false ↦ λ q. (bs, a, ap (λ zs. x ∷ zs) e)
    ] refl
step x (y ∷ ys) bs xs a e = (bs, a, ap (λ zs. x ∷ zs) e)

pub left_and_blanks : (xs : List ℕ)
    → (bs : List ℕ) × AreBlank bs × (xs ≡ without_last_blanks xs ++ bs)
left_and_blanks [] = ([], tt, refl)
left_and_blanks (x ∷ xs) =
    let s = left_and_blanks xs in step x (without_last_blanks xs) s.0 xs s.1 s.2

end_step : (x : ℕ) (w : List ℕ) → (w ≡ []) ⊎ Ends w
    → (unless_last_blank x w ≡ []) ⊎ Ends (unless_last_blank x w)
end_step x [] h =
    elim (is_blank x) as (λ b. is_blank x ≡ b
    → (cond b [] (x ∷ []) ≡ []) ⊎ Ends (cond b [] (x ∷ []))) [
      | true ↦ λ q. inl refl
      | false ↦ λ q. inr ([], x, refl, q)
    ] refl
end_step x (y ∷ ys) (inl e) = absurd cc
end_step x (y ∷ ys) (inr t) = inr (x ∷ t.0, t.1, ap (λ zs. x ∷ zs) t.2, t.3)

pub left_ends : (xs : List ℕ) → (without_last_blanks xs ≡ []) ⊎ Ends (without_last_blanks xs)
left_ends [] = inl refl
left_ends (x ∷ xs) = end_step x (without_last_blanks xs) (left_ends xs)

pub ends_are_some : (front : List ℕ) (last : ℕ)
    → some_octets (front ++ last ∷ []) ≡ Some (front ++ last ∷ [])
ends_are_some [] last = refl
ends_are_some (x ∷ front) last = refl

pub left_is_taken : (xs : List ℕ)
    → take (length (without_last_blanks xs)) xs ≡ without_last_blanks xs
left_is_taken xs =
    let parts = left_and_blanks xs in
    let w = without_last_blanks xs in
    ap (take (length w)) parts.2 ∙ take-append_seam w parts.0

are_some : (w : List ℕ) → (length w == 0) ≡ false → Some w ≡ some_octets w
are_some [] h = absurd cc
are_some (x ∷ xs) h = refl

pub some_left : (xs left : List ℕ) → left ≡ take (length (without_last_blanks xs)) xs
    → (length left == 0) ≡ false → Some left ≡ some_octets (without_last_blanks xs)
some_left xs left e h =
    are_some left h ∙ ap (λ (t : List ℕ). some_octets t) (e ∙ left_is_taken xs)
