-- A text that grows by one list element at a time, and its old octets when a growth fails: for
-- `push_subset` and `push_quoted`.
use Rattle.std.proofs.Common.{◌≡◌, List, ◌++◌, length, take, Result, Ok, Err, OnErr, ap, ◌∙◌, ℕ}
use Rattle.std.proofs.Common.{append_assoc, get_or, ◌+◌, ◌<◌, sym}
use Rattle.std.specs.Prelude.{if◌then◌else◌, is_ok, is_err, false, OnOk}
use Rattle.std.specs.List.{flat_map}
use Rattle.std.proofs.lemmas.List.{flat_map_more, take_more}
use Rattle.std.proofs.Math.Seq.{take-append_seam}

-- the next element's text follows
pub one_more : {X : Type 0} (f : X → List ℕ) (xs : List X) (k : ℕ) (d x : X)
    (old mid new : List ℕ) → k < length xs → x ≡ get_or xs k d
    → mid ≡ old ++ flat_map f (take k xs) → new ≡ mid ++ f x
    → new ≡ old ++ flat_map f (take (k + 1) xs)
one_more f xs k d x old mid new h is so_far added =
    added ∙ ap (λ z. z ++ f x) so_far ∙ (λ i. (old ++ flat_map f (take k xs)) ++ f (is i))
    ∙ flat_map_more f old (take k xs) (get_or xs k d)
    ∙ ap (λ z. old ++ flat_map f z) (sym (take_more xs k d h))

-- two additions keep the old octets at the start
pub front_kept : (old first mid more last : List ℕ) → mid ≡ old ++ first → last ≡ mid ++ more
    → take (length old) last ≡ old
front_kept old first mid more last p q =
    ap (λ z. take (length old) z)
    (q ∙ ap (λ z. z ++ more) p ∙ append_assoc old first more)
    ∙ take-append_seam old (first ++ more)

pub front_kept_where_failed : {A E : Type 0} (r : Result A E)
    (old first mid more last full now : List ℕ) → mid ≡ old ++ first → last ≡ mid ++ more
    → now ≡ (if is_ok r then full else last) → OnErr r (take (length old) now ≡ old)
front_kept_where_failed (Ok a) old first mid more last full now p q is = tt
front_kept_where_failed (Err e) old first mid more last full now p q is =
    ap (λ z. take (length old) z) is ∙ front_kept old first mid more last p q

-- after a failed growth, cutting back to the old length restores the old octets
pub cut_back : {A E : Type 0} (r : Result A E) (old first mid more last now cut : List ℕ) (n : ℕ)
    → n ≡ length old → mid ≡ old ++ first → last ≡ mid ++ more → OnErr r (now ≡ last)
    → cut ≡ take n now → OnErr r (cut ≡ old)
cut_back (Ok a) old first mid more last now cut n len p q h is = tt
cut_back (Err e) old first mid more last now cut n len p q h is =
    is ∙ (λ i. take (len i) (h i)) ∙ front_kept old first mid more last p q

pub unless_failed : {A E P : Type 0} (r : Result A E) → false ≡ is_err r → OnOk r P → P
unless_failed (Ok a) h p = p
unless_failed (Err e) h p = absurd cc
