-- Without `BUFR` no frame begins: for the search of `feed`, `finish` and `take_next`.
use Rattle.std.proofs.Common.{◌≡◌, ℕ, zero, suc, ◌+◌, ◌-◌, ◌<◌, ◌≤◌, true, false, cond, eqb, eq-eqb}
use Rattle.std.proofs.Common.{Some, None, List, [], ◌∷◌, length, drop, get_or, refl, sym, ap, ◌∙◌}
use Rattle.std.proofs.Common.{subst, arith}
use Rattle.std.proofs.lemmas.List.{length-drop, get_or-drop}
use Rattle.std.proofs.lemmas.Bool.{eqb-true}
use Rattle.memchr.specs.Find.{FindsNeedle, OccursAt}
use Rattle.bufr_frame.specs.declared.places.Start.TheVariants.{Other}
use Rattle.bufr_frame.specs.Starts.{agrees, bufr, start_of}

pub no_mark : (t : List ℕ) → agrees t bufr ≡ false → start_of t ≡ Other
no_mark t h = rw h refl

agrees_at : (xs ys : List ℕ) (i : ℕ) → agrees xs ys ≡ true → i < length xs → i < length ys
    → get_or xs i 0 ≡ get_or ys i 0
agrees_at [] ys i h a b = absurd (omega arith)
agrees_at (x ∷ xs) [] i h a b = absurd (omega arith)
agrees_at (x ∷ xs) (y ∷ ys) zero h a b =
    elim (eqb x y) as (λ v. eqb x y ≡ v → cond v (agrees xs ys) false ≡ true → x ≡ y)
    [ true ↦ λ same _. eqb-true x y same | false ↦ λ _ rest. cc ] refl h
agrees_at (x ∷ xs) (y ∷ ys) (suc i) h a b =
    elim (eqb x y) as (λ v. cond v (agrees xs ys) false ≡ true → get_or xs i 0 ≡ get_or ys i 0)
    [ true ↦ λ rest. agrees_at xs ys i rest (omega arith) (omega arith) | false ↦ λ rest. cc ] h

occurs : (s : List ℕ) (from j : ℕ) → (from + j) + 4 ≤ length s
    → agrees (drop (from + j) s) bufr ≡ true → OccursAt (drop from s) bufr j
occurs s from j room h = record {
  fits = omega (arith, length-drop from s);
  reads =
      λ i l. get_or-drop from s (j + i) 0
      ∙ ap (λ k. get_or s k 0) (let e : from + (j + i) ≡ (from + j) + i = omega arith in e)
      ∙ sym (get_or-drop (from + j) s i 0)
      ∙ agrees_at (drop (from + j) s) bufr i h
      (let r : i < length (drop (from + j) s) = omega (arith, length-drop (from + j) s, l) in
      r) l;
}

passed : (s : List ℕ) (from j : ℕ) → (from + j) + 4 ≤ length s → (OccursAt (drop from s) bufr j → ⊥)
    → agrees (drop (from + j) s) bufr ≡ false
passed s from j room nowhere =
    elim (agrees (drop (from + j) s) bufr) as
    (λ b. agrees (drop (from + j) s) bufr ≡ b → b ≡ false) [
      | true ↦ λ h. absurd (nowhere (occurs s from j room h))
      | false ↦ λ h. refl
    ] refl

-- before the first `BUFR` of a search no frame begins
pub found_others : (s needle : List ℕ) (from further : ℕ) → needle ≡ bufr → from ≤ length s
    → FindsNeedle (drop from s) needle 0 (Some further) → (k : ℕ) → from ≤ k → k < from + further
    → agrees (drop k s) bufr ≡ false
found_others s needle from further e within found k low high =
    let f : FindsNeedle (drop from s) bufr 0 (Some further) =
    subst (λ n. FindsNeedle (drop from s) n 0 (Some further)) e found in
    let fits = f.1.fits in
    let whole : from + (k - from) ≡ k = omega arith in
    subst (λ p. agrees (drop p s) bufr ≡ false) whole
    (passed s from (k - from) (omega (arith, length-drop from s))
    (f.0.before (k - from) (omega arith) (omega arith)))

pub none_others : (s needle : List ℕ) (from : ℕ) → needle ≡ bufr → from ≤ length s
    → FindsNeedle (drop from s) needle 0 None → (k : ℕ) → from ≤ k → k + 4 ≤ length s
    → agrees (drop k s) bufr ≡ false
none_others s needle from e within found k low room =
    let f : FindsNeedle (drop from s) bufr 0 None =
    subst (λ n. FindsNeedle (drop from s) n 0 None) e found in
    let whole : from + (k - from) ≡ k = omega arith in
    subst (λ p. agrees (drop p s) bufr ≡ false) whole
    (passed s from (k - from) (omega arith)
    (f (k - from) (omega arith) (omega (arith, length-drop from s))))

agrees_by_octets : (xs ys : List ℕ)
    → ((i : ℕ) → i < length xs → i < length ys → get_or xs i 0 ≡ get_or ys i 0)
    → agrees xs ys ≡ true
agrees_by_octets [] ys h = refl
agrees_by_octets (x ∷ xs) [] h = refl
agrees_by_octets (x ∷ xs) (y ∷ ys) h =
    rw (eq-eqb x y (h 0 (omega arith) (omega arith)))
    (agrees_by_octets xs ys (λ i a b. h (suc i) (omega arith) (omega arith)))

pub found_mark : (s needle : List ℕ) (from further : ℕ) → needle ≡ bufr
    → FindsNeedle (drop from s) needle 0 (Some further)
    → agrees (drop (from + further) s) bufr ≡ true
found_mark s needle from further e found =
    let f : FindsNeedle (drop from s) bufr 0 (Some further) =
    subst (λ n. FindsNeedle (drop from s) n 0 (Some further)) e found in
    agrees_by_octets (drop (from + further) s) bufr
    (λ i a b. get_or-drop (from + further) s i 0
    ∙ ap (λ k. get_or s k 0)
    (let e : (from + further) + i ≡ from + (further + i) = omega arith in e)
    ∙ sym (get_or-drop from s (further + i) 0) ∙ f.1.reads i b)
