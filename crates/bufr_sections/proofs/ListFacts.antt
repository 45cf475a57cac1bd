-- Octets and the descriptors that they list: for `descriptors_of` and `are_listed`.
use Rattle.std.proofs.Common.{◌≡◌, ◌≢◌, ℕ, ◌+◌, ◌-◌, ◌<◌, ◌≤◌, List, [], ◌∷◌, ◌++◌, length, take, drop}
use Rattle.std.proofs.Common.{get_or, refl, ap, ◌∙◌, sym, arith, append_assoc, append-nil}
use Rattle.std.proofs.Common.{length-append}
use Rattle.std.proofs.lemmas.List.{length-take-le, take_more, take_all, get_or-append_right}
use Rattle.bufr_sections.specs.Sections.{two, descriptors_of}

pub descriptors_more : (before rest : List ℕ) (d : ℕ) (all : List ℕ) → 2 ≤ length rest
    → before ++ descriptors_of rest ≡ all → d ≡ two (get_or rest 0 0) (get_or rest 1 0)
    → (before ++ d ∷ []) ++ descriptors_of (drop 2 rest) ≡ all
unfolding descriptors_of
descriptors_more before (a ∷ b ∷ rest) d all h e is =
    append_assoc before (d ∷ []) (descriptors_of rest)
    ∙ ap (λ n. before ++ n ∷ descriptors_of rest) is ∙ e
descriptors_more before _ d all h e is = absurd (omega arith)

pub descriptors_none : (rest : List ℕ) → length rest < 2 → descriptors_of rest ≡ []
unfolding descriptors_of
descriptors_none (a ∷ b ∷ rest) h = absurd (omega arith)
descriptors_none _ h = refl

some_descriptor : (rest : List ℕ) → 2 ≤ length rest → 1 ≤ length (descriptors_of rest)
unfolding descriptors_of
some_descriptor (a ∷ b ∷ rest) h = omega arith
some_descriptor _ h = absurd (omega arith)

-- ---- the first `i` of a list, and the descriptors of the octets left, are what the octets list

-- the next descriptor is the list's next
pub listed_more : (ds rest all : List ℕ) (i d : ℕ) → 2 ≤ length rest → i < length ds
    → take i ds ++ descriptors_of rest ≡ all → d ≡ two (get_or rest 0 0) (get_or rest 1 0)
    → d ≡ get_or ds i d → take (i + 1) ds ++ descriptors_of (drop 2 rest) ≡ all
listed_more ds rest all i d long inside e is here =
    rw (take_more ds i d inside, ← here) (descriptors_more (take i ds) rest d all long e is)

-- the octets end before the list
pub others_short : (ds rest all : List ℕ) (i : ℕ) → length rest < 2 → i < length ds
    → take i ds ++ descriptors_of rest ≡ all → all ≢ ds
others_short ds rest all i short inside e same =
    omega (
      arith,
      ap length (e ∙ same),
      length-append (take i ds) (descriptors_of rest),
      length-take-le i ds (omega (arith, inside)),
      ap length (descriptors_none rest short),
    )

-- the octets go on after the list
pub others_long : (ds rest all : List ℕ) (i : ℕ) → 2 ≤ length rest → length ds ≤ i
    → take i ds ++ descriptors_of rest ≡ all → all ≢ ds
others_long ds rest all i long ended e same =
    omega (
      arith,
      ap length (e ∙ same),
      length-append (take i ds) (descriptors_of rest),
      ap length (take_all i ds ended),
      some_descriptor rest long,
    )

-- both end together
pub same_ended : (ds rest all : List ℕ) (i : ℕ) → length rest < 2 → length ds ≤ i
    → take i ds ++ descriptors_of rest ≡ all → all ≡ ds
same_ended ds rest all i short ended e =
    sym e ∙ rw (take_all i ds ended, descriptors_none rest short) (append-nil ds)

first_listed : (rest : List ℕ) (d : ℕ) → 2 ≤ length rest
    → get_or (descriptors_of rest) 0 d ≡ two (get_or rest 0 0) (get_or rest 1 0)
unfolding descriptors_of
first_listed (a ∷ b ∷ rest) d h = refl
first_listed _ d h = absurd (omega arith)

-- the next descriptor is not the list's next
pub others_here : (ds rest all : List ℕ) (i d : ℕ) → 2 ≤ length rest → i < length ds
    → take i ds ++ descriptors_of rest ≡ all → two (get_or rest 0 0) (get_or rest 1 0) ≢ d
    → d ≡ get_or ds i d → all ≢ ds
others_here ds rest all i d long inside e other here same =
    let front : length (take i ds) ≡ i = length-take-le i ds (omega (arith, inside)) in
    let there : get_or ds i d ≡ get_or (descriptors_of rest) (i - i) d =
    ap (λ l. get_or l i d) (sym (e ∙ same))
    ∙ get_or-append_right (take i ds) (descriptors_of rest) i i d front (omega arith) in
    let first : get_or (descriptors_of rest) (i - i) d ≡ two (get_or rest 0 0) (get_or rest 1 0) =
    let none : i - i ≡ 0 = omega arith in rw none (first_listed rest d long) in
    other (sym (here ∙ there ∙ first))
