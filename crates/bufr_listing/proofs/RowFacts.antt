-- Rows filled with digits up to the line's end: for `push_numbers`.
use Rattle.std.proofs.Common.{◌≡◌, ℕ, ◌+◌, ◌-◌, ◌<◌, ◌≤◌, List, [], ◌∷◌, ◌++◌}
use Rattle.std.proofs.Common.{◌∙◌, ◌^◌, ◌*◌, length, take, drop, set, decimal, ap}
use Rattle.std.proofs.Common.{sym, map, get_or, arith, append_assoc}
use Rattle.std.specs.List.{flat_map}
use Rattle.std.proofs.lemmas.List.{take_all}
use Rattle.std.proofs.lemmas.List.{drop-set}
use Rattle.std.proofs.lemmas.List.{length-drop}
use Rattle.std.proofs.lemmas.List.{drop_more}
use Rattle.std.proofs.lemmas.Fmt.{length-decimal-le, decimal_nonempty}
use Rattle.bufr_listing.specs.Listings.{line, words}
use Rattle.bufr_listing.proofs.ListingFacts.{words_behind}

-- ---- numbers after spaces

abbrev spaced_number : ℕ → List ℕ
spaced_number n = 32 ∷ decimal n

-- a number of 16 bits leaves room for its space
pub room_before : (n first end : ℕ) → n < 2 ^ 16 → 6 ≤ end → first + length (decimal n) ≡ end
    → (1 ≤ first) × (first - 1 < end) × (end ≤ first - 1 + 6)
room_before n first end small room all =
    let short = length-decimal-le 5 n (omega arith) (omega (arith, small)) (omega (arith, small)) in
    let some = decimal_nonempty n (omega (arith, small)) in
    (omega arith, omega arith, omega arith)

space_put : (row rest : List ℕ) (n first : ℕ) → 1 ≤ first → first ≤ length row
    → drop first row ≡ decimal n ++ rest
    → drop (first - 1) (set row (first - 1) 32) ≡ 32 ∷ decimal n ++ rest
space_put row rest n first some within behind =
    let next : first - 1 + 1 ≡ first = omega arith in
    drop-set row (first - 1) 32 (omega arith)
    ∙ ap (λ zs. 32 ∷ zs) (ap (λ k. drop k row) next ∙ behind)

-- the number before those in the row
number_before : (row rest ns : List ℕ) (k : ℕ) → 0 < k → k ≤ length ns
    → row ≡ 32 ∷ decimal (get_or ns (k - 1) 0) ++ rest
    → rest ≡ flat_map spaced_number (drop k ns) ++ 10 ∷ []
    → row ≡ flat_map spaced_number (drop (k - 1) ns) ++ 10 ∷ []
number_before row rest ns k some within is behind =
    let number = get_or ns (k - 1) 0 in
    let next : k - 1 + 1 ≡ k = omega arith in
    let parts : drop (k - 1) ns ≡ number ∷ drop k ns =
    drop_more ns (k - 1) 0 (omega arith) ∙ ap (λ j. number ∷ drop j ns) next in
    is ∙ ap (λ zs. spaced_number number ++ zs) behind
    ∙ sym (append_assoc (spaced_number number) (flat_map spaced_number (drop k ns)) (10 ∷ []))
    ∙ ap (λ zs. flat_map spaced_number zs ++ 10 ∷ []) (sym parts)

pub number_put : (old new ns : List ℕ) (k end first n : ℕ) → 0 < k → k ≤ length ns
    → drop end old ≡ flat_map spaced_number (drop k ns) ++ 10 ∷ []
    → 6 * k ≤ end → end ≤ 48 → n ≡ get_or ns (k - 1) 0 → n < 2 ^ 16 → length new ≡ 49
    → first + length (decimal n) ≡ end → drop first new ≡ decimal n ++ drop end old
    → (drop (first - 1) (set new (first - 1) 32)
    ≡ flat_map spaced_number (drop (k - 1) ns) ++ 10 ∷ [])
    × (6 * (k - 1) ≤ first - 1) × (first - 1 ≤ 48) × (k - 1 ≤ length ns)
number_put old new ns k end first n some within behind low high is small long all written =
    let room = room_before n first end small (omega arith) all in
    let put = space_put new (drop end old) n first room.0 (omega (arith, long)) written in (
      number_before _ _ ns k some within
          (put ∙ ap (λ m. 32 ∷ decimal m ++ drop end old) is) behind,
      omega (arith, room.2),
      omega (arith, room.1),
      omega arith,
    )

-- the first word and the row are the line of the numbers
pub numbers_written : (old mid title row ns : List ℕ) (first left : ℕ) → length row ≡ 49
    → first ≤ 48 → left ≡ 0
    → drop first row ≡ flat_map spaced_number (drop left ns) ++ 10 ∷ []
    → mid ≡ old ++ title
    → mid ++ take (49 - first) (drop first row) ≡ old ++ line (words title (map decimal ns))
numbers_written old mid title row ns first left long within none behind is =
    let all : take (49 - first) (drop first row) ≡ flat_map spaced_number ns ++ 10 ∷ [] =
    take_all (49 - first) (drop first row) (omega (arith, long, length-drop first row))
    ∙ behind ∙ ap (λ k. flat_map spaced_number (drop k ns) ++ 10 ∷ []) none in
    (λ i. is i ++ all i)
    ∙ sym (append_assoc (old ++ title) (flat_map spaced_number ns) (10 ∷ []))
    ∙ words_behind decimal old title ns
