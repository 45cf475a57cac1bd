-- Rows filled with digits up to their end: for `push_digits`.
use Rattle.std.proofs.Common.{◌≡◌, ℕ, zero, suc, pos, ◌+◌, ◌-◌, ◌<◌, ◌≤◌, List, ◌∷◌, ◌++◌}
use Rattle.std.proofs.Common.{◌∙◌, length, take, drop, replicate, set, min, decimal, refl, ap}
use Rattle.std.proofs.Common.{sym, arith, append_assoc}
use Rattle.std.proofs.lemmas.List.{take-append-drop, take-replicate, take_all}
use Rattle.std.proofs.lemmas.List.{drop-append-le, drop-replicate, drop-set, drop-drop}
use Rattle.std.proofs.lemmas.List.{length-replicate, length-drop, length-set, length-append}
use Rattle.bufr_fields.specs.Values.{pointed, digits_by}

-- from `start` on the row has zeros and the digits
padded : (row digits : List ℕ) (first start : ℕ) → start ≤ first → first ≤ 31
    → take first row ≡ take first (replicate 31 48) → drop first row ≡ digits
    → drop start row ≡ replicate (first - start) 48 ++ digits
padded row digits first start before within same behind =
    let zeros : take first row ≡ replicate first 48 = same ∙ take-replicate first 31 48 within in
    let whole : row ≡ replicate first 48 ++ digits =
    sym (take-append-drop first row) ∙ (λ i. zeros i ++ behind i) in
    ap (drop start) whole
    ∙ drop-append-le start (replicate first 48) _
    (omega (arith, length-replicate {A = ℕ} first 48))
    ∙ ap (λ zs. zs ++ digits) (drop-replicate start first 48)

-- the row up to the point, and from the point on
with_point : (row digits : List ℕ) (start places : ℕ) → 0 < places → places < length digits
    → start + length digits ≡ 31 → length row ≡ 31
    → drop start row ≡ digits
    → take (31 - places - start) (drop start row)
    ++ take (31 - (31 - places - 1)) (drop (31 - places - 1) (set row (31 - places - 1) 46))
    ≡ pointed places digits
with_point row digits start places some less all long stands =
    let at = 31 - places - 1 in
    let front_of = length digits - places in
    let next : at + 1 ≡ start + front_of = omega arith in
    let count : 31 - places - start ≡ front_of = omega arith in
    let front : take (31 - places - start) (drop start row) ≡ take front_of digits =
    (λ i. take (count i) (stands i)) in
    let back : drop (at + 1) row ≡ drop front_of digits =
    ap (λ n. drop n row) next ∙ sym (drop-drop front_of start row) ∙ ap (drop front_of) stands in
    let written : drop at (set row at 46) ≡ 46 ∷ drop front_of digits =
    drop-set row at 46 (omega (arith, long)) ∙ ap (λ zs. 46 ∷ zs) back in
    let kept : take (31 - at) (drop at (set row at 46)) ≡ drop at (set row at 46) =
    take_all (31 - at) (drop at (set row at 46))
    (omega (arith, long, length-drop at (set row at 46), length-set row at 46)) in
    (λ i. front i ++ (kept ∙ written) i)

pointed_by : (places n : ℕ) → 0 < places → digits_by (pos places) n
    ≡ pointed places (replicate (suc places - length (decimal n)) 48 ++ decimal n)
pointed_by zero n none = absurd (omega (arith, none))
pointed_by (suc s) n some = refl

-- the digits before the point, and the row from the point on, are those of the number
pub point_written : (old mid row : List ℕ) (n first start places : ℕ) → 0 < places → places ≤ 20
    → first + length (decimal n) ≡ 31 → start ≡ min first (31 - places - 1) → length row ≡ 31
    → take first row ≡ take first (replicate 31 48)
    → drop first row ≡ decimal n
    → mid ≡ old ++ take (31 - places - start) (drop start row)
    → mid ++ take (31 - (31 - places - 1)) (drop (31 - places - 1) (set row (31 - places - 1) 46))
    ≡ old ++ digits_by (pos places) n
point_written old mid row n first start places some few all least long same behind is =
    let at = 31 - places - 1 in
    let zeros : first - start ≡ suc places - length (decimal n) = omega arith in
    let digits = replicate (first - start) 48 ++ decimal n in
    let count : length digits ≡ first - start + length (decimal n) =
    length-append (replicate (first - start) 48) (decimal n)
    ∙ ap (λ k. k + length (decimal n)) (length-replicate {A = ℕ} (first - start) 48) in
    let stands = padded row (decimal n) first start (omega arith) (omega arith) same behind in
    (λ i. is i ++ take (31 - at) (drop at (set row at 46)))
    ∙ append_assoc old _ _
    ∙ ap (λ zs. old ++ zs)
    (with_point row digits start places some (omega arith) (omega arith) long stands
    ∙ ap (λ k. pointed places (replicate k 48 ++ decimal n)) zeros
    ∙ sym (pointed_by places n some))
