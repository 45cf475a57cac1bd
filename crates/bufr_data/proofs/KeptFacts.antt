-- Templates that are kept: what holds of each, and how many there are, when one is taken out or put
-- in front.
use Rattle.std.proofs.Common.{ℕ, ◌<◌, ◌≤◌, zero, suc, List, [], ◌∷◌, ◌++◌, length, take, drop, get_or}
use Rattle.std.proofs.Common.{◌≡◌, arith, Bool, true, false, if◌then◌else◌, sym, subst, ap, ◌∙◌}
use Rattle.std.specs.List.{AllByRecursion, insert}
use Rattle.bufr_tables.specs.Entries.{Entries}
use Rattle.bufr_data.specs.declared.template_cache.CachedTemplate.{CachedTemplate}
use Rattle.bufr_data.specs.Kept.{AreKept, IsOf}

-- of the first n
all_taken : {X : Type 0} (P : X → Type 0) (n : ℕ) (xs : List X) → AllByRecursion P xs
    → AllByRecursion P (take n xs)
all_taken P zero xs all = tt
all_taken P (suc n) [] all = tt
all_taken P (suc n) (x ∷ xs) all = (all.0, all_taken P n xs all.1)

all_left : {X : Type 0} (P : X → Type 0) (i : ℕ) (xs : List X) → AllByRecursion P xs
    → AllByRecursion P (take i xs ++ drop (suc i) xs)
all_left P zero [] all = tt
all_left P (suc i) [] all = tt
all_left P zero (x ∷ xs) all = all.1
all_left P (suc i) (x ∷ xs) all = (all.0, all_left P i xs all.1)

all_at : {X : Type 0} (P : X → Type 0) (i : ℕ) (xs : List X) (d : X) → i < length xs
    → AllByRecursion P xs → P (get_or xs i d)
all_at P i [] d h all = absurd (omega arith)
all_at P zero (x ∷ xs) d h all = all.0
all_at P (suc i) (x ∷ xs) d h all = all_at P i xs d (omega (arith, h)) all.1

-- the first n are at most n
few_taken : {X : Type 0} (n : ℕ) (xs : List X) → length (take n xs) ≤ n
few_taken zero xs = omega arith
few_taken (suc n) [] = omega arith
few_taken (suc n) (x ∷ xs) = let h = few_taken n xs in omega (arith, h)

-- those that stay are no more than there were
few_left : {X : Type 0} (i : ℕ) (xs : List X) → length (take i xs ++ drop (suc i) xs) ≤ length xs
few_left zero [] = omega arith
few_left (suc i) [] = omega arith
few_left zero (x ∷ xs) = omega arith
few_left (suc i) (x ∷ xs) = let h = few_left i xs in omega (arith, h)

-- the others stay when one is taken out
pub kept_left : (tables : Entries) (i : ℕ) (ks : List CachedTemplate) → AreKept tables ks
    → AreKept tables (take i ks ++ drop (suc i) ks)
kept_left tables i ks are = record {
  each = all_left (IsOf tables) i ks are.each;
  few = let h = few_left i ks in let f = are.few in omega (arith, h, f);
}

-- the one that is taken out is of its list
pub kept_at : (tables : Entries) (i : ℕ) (ks : List CachedTemplate) (d : CachedTemplate) → i < length ks
    → AreKept tables ks → IsOf tables (get_or ks i d)
kept_at tables i ks d h are = all_at (IsOf tables) i ks d h are.each

-- the first three stay behind one that is put in front, or alone
pub kept_behind : (tables : Entries) (k : CachedTemplate) (ks ys zs : List CachedTemplate) (put : Bool)
    → ys ≡ take 3 ks → zs ≡ (if put then insert ys 0 k else ys) → AreKept tables ks → IsOf tables k
    → AreKept tables zs
kept_behind tables k ks ys zs true cut is are one =
    subst (AreKept tables) (sym (is ∙ ap (λ l. k ∷ l) cut)) (record {
      each = (one, all_taken (IsOf tables) 3 ks are.each);
      few = let h = few_taken 3 ks in omega (arith, h);
    })
kept_behind tables k ks ys zs false cut is are one =
    subst (AreKept tables) (sym (is ∙ cut)) (record {
      each = all_taken (IsOf tables) 3 ks are.each;
      few = let h = few_taken 3 ks in omega (arith, h);
    })
