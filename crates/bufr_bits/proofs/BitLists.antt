-- Bits of octets taken apart and joined: a field within its octets, a number's octets, one octet
-- from two neighbours.
use Rattle.std.proofs.Common.{◌≡◌, ℕ, zero, suc, ◌+◌, ◌-◌, ◌*◌, ◌/◌, ◌%◌, ◌^◌, ◌<◌, ◌≤◌, Bool, true}
use Rattle.std.proofs.Common.{false, List, [], ◌∷◌, ◌++◌, length, take, drop, replicate, get_or}
use Rattle.std.proofs.Common.{refl, inl, inr, lit<, sym, ap, subst, ◌∙◌, arith, length-append}
use Rattle.std.proofs.Common.{length-drop, append_assoc}
use Rattle.std.specs.Prelude.{bit_and}
use Rattle.std.specs.Int.{byte_at, bytes_high_first}
use Rattle.std.proofs.Math.Nat.{pow-suc, pow-le-pow_right}
use Rattle.std.proofs.lemmas.Nat.{pow_pos, pow-add, one_shl, and_mask, shl-shr, shr-shr, shr_high}
use Rattle.std.proofs.lemmas.Nat.{mod_low, mod_below}
use Rattle.std.proofs.lemmas.List.{append-nil, take_at, drop_at, take-append-drop, length-take}
use Rattle.std.proofs.lemmas.List.{length-take-le}
use Rattle.std.proofs.lemmas.List.{length-replicate, drop-drop, take-take, drop-take, get_or-take}
use Rattle.std.proofs.lemmas.List.{get_or-drop, get_or_past, drop_more, take_more}
use Rattle.std.proofs.lemmas.Bool.{cases_lt}
use Rattle.bufr_bits.specs.Bits.{bin, bits, number, numbers}
use Rattle.bufr_bits.specs.BitLaws.{length-bin, number_below, number-bin, number_same, small_mod}
use Rattle.bufr_bits.specs.OctetLaws.{length-bits, bits-append, numbers-bits}

pub take-bits : (k n : ℕ) (xs : List ℕ) → n ≡ 8 * k → k ≤ length xs
    → take n (bits xs) ≡ bits (take k xs)
take-bits k n xs e le =
    let len : length (bits (take k xs)) ≡ n =
    omega (arith, length-bits (take k xs), length-take-le k xs le) in
    subst (λ (ys : List ℕ). take n (bits ys) ≡ bits (take k xs)) (take-append-drop k xs)
    (rw (bits-append (take k xs) (drop k xs)) (take_at (bits (take k xs)) (bits (drop k xs)) n len))

pub drop-bits : (k n : ℕ) (xs : List ℕ) → n ≡ 8 * k → k ≤ length xs
    → drop n (bits xs) ≡ bits (drop k xs)
drop-bits k n xs e le =
    let len : length (bits (take k xs)) ≡ n =
    omega (arith, length-bits (take k xs), length-take-le k xs le) in
    subst (λ (ys : List ℕ). drop n (bits ys) ≡ bits (drop k xs)) (take-append-drop k xs)
    (rw (bits-append (take k xs) (drop k xs)) (drop_at (bits (take k xs)) (bits (drop k xs)) n len))

pub number-append : (xs ys : List Bool) → number (xs ++ ys) ≡ number xs * 2 ^ length ys + number ys
unfolding number
number-append [] ys = omega arith
number-append (true ∷ xs) ys =
    omega (
      arith,
      number-append xs ys,
      ap (λ k. 2 ^ k) (length-append xs ys),
      pow-add 2 (length xs) (length ys),
    )
number-append (false ∷ xs) ys = omega (arith, number-append xs ys)

pub number_middle : (x y z : List Bool) (after width : ℕ) → length z ≡ after → length y ≡ width
    → number (x ++ (y ++ z)) / 2 ^ after % 2 ^ width ≡ number y
number_middle x y z after width lz ly =
    let small : number z < 2 ^ after = subst (λ k. number z < 2 ^ k) lz (number_below z) in
    let small_y : number y < 2 ^ width = subst (λ k. number y < 2 ^ k) ly (number_below y) in
    let e : number (x ++ (y ++ z)) ≡ number (x ++ y) * 2 ^ after + number z =
    ap number (sym (append_assoc x y z)) ∙ number-append (x ++ y) z
    ∙ ap (λ k. number (x ++ y) * 2 ^ k + number z) lz in
    let f : number (x ++ y) ≡ number x * 2 ^ width + number y =
    number-append x y ∙ ap (λ k. number x * 2 ^ k + number y) ly in
    rw (e, shr_high (number (x ++ y)) after (number z) small, f)
    (mod_low (number x) width (number y) small_y)

pub bin-split : (t v w n : ℕ) → t ≡ v + w → bin t n ≡ bin v (n / 2 ^ w) ++ bin w n
unfolding bin
bin-split t zero w n e = ap (λ k. bin k n) (omega arith)
bin-split zero (suc v) w n e = absurd (omega arith)
bin-split (suc t) (suc v) w n e =
    let rest : t ≡ v + w = omega arith in
    let turned : t ≡ w + v = omega arith in
    let same : n / 2 ^ w / 2 ^ v ≡ n / 2 ^ t = shr-shr n w v ∙ ap (λ k. n / 2 ^ k) (sym turned) in
    rw (same, bin-split t v w n rest) refl

pub bin-mod : (w n : ℕ) → bin w (n % 2 ^ w) ≡ bin w n
bin-mod w n =
    let below : n % 2 ^ w < 2 ^ w = mod_below n (2 ^ w) (pow_pos w) in
    number_same (bin w (n % 2 ^ w)) (bin w n) (length-bin w (n % 2 ^ w) ∙ sym (length-bin w n))
    (number-bin w (n % 2 ^ w) ∙ small_mod (n % 2 ^ w) (2 ^ w) below ∙ sym (number-bin w n))

pub bin_same : (w a b : ℕ) → a % 2 ^ w ≡ b % 2 ^ w → bin w a ≡ bin w b
bin_same w a b e = sym (bin-mod w a) ∙ ap (bin w) e ∙ bin-mod w b

pub number-zeros : (n : ℕ) → number (replicate n false) ≡ 0
unfolding number
number-zeros zero = refl
number-zeros (suc n) = omega (arith, number-zeros n)

pub bin-zeros : (w n : ℕ) → n % 2 ^ w ≡ 0 → bin w n ≡ replicate w false
bin-zeros w n e =
    number_same (bin w n) (replicate w false) (length-bin w n ∙ sym (length-replicate w false))
    (number-bin w n ∙ e ∙ sym (number-zeros w))

pub bin-shifted : (t w z n : ℕ) → t ≡ w + z → bin t (n * 2 ^ z) ≡ bin w n ++ replicate z false
bin-shifted t w z n e =
    let high : n * 2 ^ z / 2 ^ z ≡ n = shl-shr n z in
    let same : n * 2 ^ z + 0 ≡ n * 2 ^ z = omega arith in
    let low : n * 2 ^ z % 2 ^ z ≡ 0 = subst (λ m. m % 2 ^ z ≡ 0) same (mod_low n z 0 (pow_pos z)) in
    rw (bin-split t w z (n * 2 ^ z) e, high, bin-zeros z (n * 2 ^ z) low) refl

two_to_8 : (k : ℕ) → 256 ^ k ≡ 2 ^ (8 * k)
two_to_8 zero = refl
two_to_8 (suc k) =
    let split : 2 ^ (8 * suc k) ≡ 2 ^ 8 * 2 ^ (8 * k) =
    ap (λ j. 2 ^ j) (omega arith) ∙ pow-add 2 8 (8 * k) in
    rw (split, pow-suc 256 k, two_to_8 k) (omega arith)

byte_at_bits : (k n : ℕ) → byte_at k n ≡ n / 2 ^ (8 * k) % 2 ^ 8
byte_at_bits zero n = omega arith
byte_at_bits (suc k) n = ap (λ p. n / p % 256) (two_to_8 (suc k))

bin_none : (n : ℕ) → bin 0 n ≡ []
unfolding bin
bin_none n = refl

pub bits-bytes : (k t n : ℕ) → t ≡ 8 * k → bits (bytes_high_first k n) ≡ bin t n
bits-bytes zero t n e = let none : t ≡ 0 = omega arith in rw none (sym (bin_none n))
bits-bytes (suc k) t n e =
    rw (bits-bytes k (8 * k) n refl, byte_at_bits k n, bin-mod 8 (n / 2 ^ (8 * k)))
    (sym (bin-split t 8 (8 * k) n (omega arith)))

pub take-more : {X : Type 0} → (a b : ℕ) (xs : List X)
    → take (a + b) xs ≡ take a xs ++ take b (drop a xs)
take-more a b xs =
    sym (take-append-drop a (take (a + b) xs))
    ∙ ap (λ ys. ys ++ drop a (take (a + b) xs)) (take-take a (a + b) xs (omega arith))
    ∙ ap (λ ys. take a xs ++ ys) (drop-take a b xs)

pub field_is : (octets : List ℕ) (first end place width spare : ℕ) → 8 * first ≤ place
    → place + width + spare ≡ 8 * end → end ≤ length octets
    → number (bits (take (end - first) (drop first octets))) / 2 ^ spare % 2 ^ width
    ≡ number (take width (drop place (bits octets)))
field_is octets first end place width spare begins ends within =
    let a = place - 8 * first in
    let all = bits (drop first octets) in
    let inner : first ≤ length octets = omega arith in
    let room : end - first ≤ length (drop first octets) = omega (arith, length-drop first octets) in
    let total : a + (width + spare) ≡ 8 * (end - first) = omega arith in
    let long : length all ≡ 8 * (length octets - first) =
    length-bits (drop first octets) ∙ ap (λ k. 8 * k) (length-drop first octets) in
    let start : drop (8 * first) (bits octets) ≡ all =
    drop-bits first (8 * first) octets refl inner in
    let e1 : bits (take (end - first) (drop first octets)) ≡ take (a + (width + spare)) all =
    sym (take-bits (end - first) (a + (width + spare)) (drop first octets) total room) in
    let e2 : take (a + (width + spare)) all ≡ take a all
    ++ (take width (drop a all) ++ take spare (drop width (drop a all))) =
    take-more a (width + spare) all
    ∙ ap (λ ys. take a all ++ ys) (take-more width spare (drop a all)) in
    let e3 : drop a all ≡ drop place (bits octets) =
    ap (λ ys. drop a ys) (sym start) ∙ drop-drop a (8 * first) (bits octets)
    ∙ ap (λ k. drop k (bits octets)) (omega arith) in
    let l1 : length (take width (drop a all)) ≡ width =
    length-take-le width (drop a all) (omega (arith, length-drop a all)) in
    let l2 : length (take spare (drop width (drop a all))) ≡ spare =
    length-take-le spare (drop width (drop a all))
    (omega (arith, length-drop width (drop a all), length-drop a all)) in
    rw (e1, e2)
    (number_middle (take a all) (take width (drop a all))
    (take spare (drop width (drop a all))) spare width l2 l1
    ∙ ap (λ ys. number (take width ys)) e3)

pub number_push : (xs : List ℕ) (x : ℕ) → x < 256
    → number (bits (xs ++ x ∷ [])) ≡ number (bits xs) * 256 + x
number_push xs x h =
    let one : number (bits (x ∷ [])) ≡ x =
    ap number (append-nil (bin 8 x)) ∙ number-bin 8 x ∙ small_mod x (2 ^ 8) h in
    let len : length (bits (x ∷ [])) ≡ 8 = length-bits (x ∷ []) in
    rw (bits-append xs (x ∷ []), number-append (bits xs) (bits (x ∷ [])), one, len) refl

pub number_of_octets : (xs : List ℕ) (k : ℕ) → length xs ≤ k → number (bits xs) < 2 ^ (8 * k)
number_of_octets xs k h =
    let small = number_below (bits xs) in
    let more : 2 ^ length (bits xs) ≤ 2 ^ (8 * k) =
    pow-le-pow_right (omega arith) (omega (arith, length-bits xs)) in
    omega arith

pub field_masked : (octets : List ℕ) (n first end place width spare wide : ℕ)
    → n ≡ number (bits (take (end - first) (drop first octets))) → 8 * first ≤ place
    → place + width + spare ≡ 8 * end → end ≤ length octets → width < wide
    → bit_and (n / 2 ^ spare) (1 * 2 ^ width % 2 ^ wide - 1)
    ≡ number (take width (drop place (bits octets)))
field_masked octets n first end place width spare wide spelt begins ends within narrow =
    rw (one_shl width wide narrow, and_mask (n / 2 ^ spare) width, spelt)
    (field_is octets first end place width spare begins ends within)

number_nil : number [] ≡ 0
unfolding number
number_nil = refl

octet_more : (octets : List ℕ) (first k at : ℕ) → at ≡ first + k → at < length octets
    → ((i : ℕ) → get_or octets i 0 < 256)
    → number (bits (take (k + 1) (drop first octets)))
    ≡ number (bits (take k (drop first octets))) * 256 + get_or octets at 0
octet_more octets first k at is below small =
    let there : get_or (drop first octets) k 0 ≡ get_or octets at 0 =
    get_or-drop first octets k 0 ∙ ap (λ j. get_or octets j 0) (sym is) in
    ap (λ (ys : List ℕ). number (bits ys))
    (take_more (drop first octets) k 0 (omega (arith, length-drop first octets))
    ∙ ap (λ (y : ℕ). take k (drop first octets) ++ y ∷ []) there)
    ∙ number_push (take k (drop first octets)) (get_or octets at 0) (small at)

pub number_of_eight : (octets : List ℕ) (i : ℕ) → i + 8 ≤ length octets
    → ((j : ℕ) → get_or octets j 0 < 256)
    → get_or octets i 0 * 72057594037927936 + get_or octets (i + 1) 0 * 281474976710656
    + get_or octets (i + 2) 0 * 1099511627776 + get_or octets (i + 3) 0 * 4294967296
    + get_or octets (i + 4) 0 * 16777216 + get_or octets (i + 5) 0 * 65536
    + get_or octets (i + 6) 0 * 256 + get_or octets (i + 7) 0
    ≡ number (bits (take 8 (drop i octets)))
number_of_eight octets i within small =
    omega (
      arith,
      number_nil,
      octet_more octets i 0 i (omega arith) (omega arith) small,
      octet_more octets i 1 (i + 1) (omega arith) (omega arith) small,
      octet_more octets i 2 (i + 2) (omega arith) (omega arith) small,
      octet_more octets i 3 (i + 3) (omega arith) (omega arith) small,
      octet_more octets i 4 (i + 4) (omega arith) (omega arith) small,
      octet_more octets i 5 (i + 5) (omega arith) (omega arith) small,
      octet_more octets i 6 (i + 6) (omega arith) (omega arith) small,
      octet_more octets i 7 (i + 7) (omega arith) (omega arith) small,
    )

pub number_of_four : (octets : List ℕ) (i : ℕ) → i + 4 ≤ length octets
    → ((j : ℕ) → get_or octets j 0 < 256)
    → get_or octets i 0 * 16777216 + get_or octets (i + 1) 0 * 65536
    + get_or octets (i + 2) 0 * 256 + get_or octets (i + 3) 0
    ≡ number (bits (take 4 (drop i octets)))
number_of_four octets i within small =
    omega (
      arith,
      number_nil,
      octet_more octets i 0 i (omega arith) (omega arith) small,
      octet_more octets i 1 (i + 1) (omega arith) (omega arith) small,
      octet_more octets i 2 (i + 2) (omega arith) (omega arith) small,
      octet_more octets i 3 (i + 3) (omega arith) (omega arith) small,
    )

-- a number of at most 16 bits
pub short_below : (width place : ℕ) (octets : List ℕ) → width ≤ 16
    → number (take width (drop place (bits octets))) < 65536
short_below width place octets narrow =
    let taken = take width (drop place (bits octets)) in
    let small = number_below taken in
    let few : length taken ≤ 16 =
    omega (arith, length-take width (drop place (bits octets)), narrow) in
    let more : 2 ^ length taken ≤ 2 ^ 16 = pow-le-pow_right (omega arith) few in
    omega arith

pub numbers-more : (k width t : ℕ) (text : List Bool) → t ≡ k * width
    → numbers (k + 1) width text ≡ numbers k width text ++ number (take width (drop t text)) ∷ []
unfolding numbers
numbers-more zero width t text e = let none : t ≡ 0 = omega arith in rw none refl
numbers-more (suc k) width t text e =
    let before : t ≡ width + k * width = omega arith in
    let at : drop (k * width) (drop width text) ≡ drop t text =
    drop-drop (k * width) width text ∙ ap (λ j. drop j text) (sym before) in
    let one : suc k + 1 ≡ suc (k + 1) = omega arith in
    rw (one, ← at)
    (ap (λ ys. number (take width text) ∷ ys)
    (numbers-more k width (k * width) (drop width text) refl))

pub numbers_aligned : (octets : List ℕ) (first n place : ℕ) → place ≡ 8 * first
    → first + n ≤ length octets → ((i : ℕ) → get_or octets i 0 < 256)
    → numbers n 8 (drop place (bits octets)) ≡ take n (drop first octets)
numbers_aligned octets first n place e within small =
    let xs = take n (drop first octets) in
    let rest = bits (drop n (drop first octets)) in
    let len : length xs ≡ n =
    length-take-le n (drop first octets) (omega (arith, length-drop first octets)) in
    let text : drop place (bits octets) ≡ bits xs ++ rest =
    drop-bits first place octets e (omega arith)
    ∙ ap bits (sym (take-append-drop n (drop first octets)))
    ∙ bits-append xs (drop n (drop first octets)) in
    let below : (i : ℕ) → get_or xs i 0 < 256 = λ i. elim (cases_lt i n) [
      | inl lt ↦
          rw (get_or-take n (drop first octets) i 0 lt, get_or-drop first octets i 0)
          (small (first + i))
      | inr le ↦ rw (get_or_past xs i 0 (omega (arith, len))) (lit< tt)
    ] in
    rw text (subst (λ k. numbers k 8 (bits xs ++ rest) ≡ xs) len (numbers-bits xs rest below))

two_octets : (xs : List ℕ) (k : ℕ) → k + 1 < length xs
    → take 2 (drop k xs) ≡ get_or xs k 0 ∷ get_or xs (k + 1) 0 ∷ []
two_octets xs k h =
    rw (drop_more xs k 0 (omega arith), drop_more xs (k + 1) 0 h) refl

pub number_of_two : (octets : List ℕ) (k shift spare a b : ℕ) → shift + spare ≡ 8
    → k + 1 < length octets → a ≡ get_or octets k 0 → b ≡ get_or octets (k + 1) 0 → a < 256
    → b < 256
    → (a * 256 + b) / 2 ^ spare % 256 ≡ number (take 8 (drop (8 * k) (drop shift (bits octets))))
number_of_two octets k shift spare a b e within a_is b_is a_small b_small =
    let two : take 2 (drop k octets) ≡ a ∷ b ∷ [] =
    two_octets octets k within ∙ ap (λ x. x ∷ get_or octets (k + 1) 0 ∷ []) (sym a_is)
    ∙ ap (λ y. a ∷ y ∷ []) (sym b_is) in
    let one : number (bits (a ∷ [])) ≡ a = omega (arith, number_push [] a a_small, number_nil) in
    let both : k + 2 - k ≡ 2 = omega arith in
    let later : shift + 8 * k ≡ 8 * k + shift = omega arith in
    let spelt : number (bits (take (k + 2 - k) (drop k octets))) ≡ a * 256 + b =
    ap (λ j. number (bits (take j (drop k octets)))) both ∙ ap (λ ys. number (bits ys)) two
    ∙ number_push (a ∷ []) b b_small ∙ ap (λ m. m * 256 + b) one in
    let there : drop (8 * k) (drop shift (bits octets)) ≡ drop (8 * k + shift) (bits octets) =
    drop-drop (8 * k) shift (bits octets) ∙ ap (λ j. drop j (bits octets)) later in
    rw (← spelt, there)
    (field_is octets k (k + 2) (8 * k + shift) 8 spare (omega arith) (omega arith)
    (omega arith))
