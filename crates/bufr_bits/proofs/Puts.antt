-- Octets that grow by bits, are cut and filled, for `BitSink`.
use Rattle.std.proofs.Common.{◌≡◌, ℕ, zero, suc, ◌+◌, ◌-◌, ◌*◌, ◌/◌, ◌%◌, ◌^◌, ◌<◌, ◌≤◌, Bool}
use Rattle.std.proofs.Common.{false, List, [], ◌∷◌, ◌++◌, length, take, drop, replicate, get_or}
use Rattle.std.proofs.Common.{set, refl, sym, ap, subst, ◌∙◌, lit<, arith, length-append}
use Rattle.std.proofs.Common.{append_assoc}
use Rattle.std.proofs.Math.Nat.{pow-le-pow_right}
use Rattle.std.specs.Int.{bytes_high_first, div_ceil}
use Rattle.std.proofs.lemmas.Nat.{pow_pos, one_shl, pow-add, div_below, mul-add-lt, shl_whole}
use Rattle.std.proofs.lemmas.Nat.{shr_high, mod_low, shr_split, shl_below, shr_below}
use Rattle.std.proofs.lemmas.List.{append-nil, take_at, drop_at, take_all, take_more}
use Rattle.std.proofs.lemmas.List.{length-take-le, length-replicate, set_at, get_or_read}
use Rattle.std.proofs.lemmas.List.{get_or_append_left, drop_all, take-append-drop, take-take}
use Rattle.bufr_bits.specs.Bits.{bin, bits, number}
use Rattle.bufr_bits.specs.Filled.{IsFilled}
use Rattle.bufr_bits.specs.BitLaws.{length-bin, number-bin}
use Rattle.bufr_bits.specs.OctetLaws.{length-bits, bits-append}
use Rattle.bufr_bits.proofs.BitLists.{bin-split, bin_same, bin-shifted, bits-bytes, number-zeros}
use Rattle.bufr_bits.proofs.BitLists.{take-bits}

pub closed : (octets : List ℕ) (text : List Bool) (len zeros : ℕ)
    → bits octets ≡ text ++ replicate zeros false → length text ≡ len
    → (take len (bits octets) ≡ text) × (8 * length octets ≡ len + zeros)
    × (drop len (bits octets) ≡ replicate (8 * length octets - len) false)
closed octets text len zeros e l =
    let long : 8 * length octets ≡ len + zeros =
    omega (
      arith,
      length-bits octets,
      ap length e,
      length-append text (replicate zeros false),
      length-replicate zeros false,
    ) in
    let count : 8 * length octets - len ≡ zeros = omega arith in (
      rw e (take_at text (replicate zeros false) len l),
      long,
      rw (e, count) (drop_at text (replicate zeros false) len l),
    )

pub last_apart : (octets : List ℕ) (i : ℕ) → i + 1 ≡ length octets
    → octets ≡ take i octets ++ get_or octets i 0 ∷ []
last_apart octets i e =
    let all : take (i + 1) octets ≡ octets = take_all (i + 1) octets (omega arith) in
    sym all ∙ take_more octets i 0 (omega arith)

pub last_split : (octets : List ℕ) (i len free : ℕ) → i + 1 ≡ length octets → free ≤ 8
    → len + free ≡ 8 * length octets
    → (take len (bits octets) ≡ bits (take i octets)
    ++ bin (8 - free) (get_or octets i 0 / 2 ^ free))
    × (drop len (bits octets) ≡ bin free (get_or octets i 0))
last_split octets i len free e few ends =
    let a = take i octets in
    let l = get_or octets i 0 in
    let front = bits a ++ bin (8 - free) (l / 2 ^ free) in
    let one : bits (l ∷ []) ≡ bin (8 - free) (l / 2 ^ free) ++ bin free l =
    append-nil (bin 8 l) ∙ bin-split 8 (8 - free) free l (omega arith) in
    let all : bits octets ≡ front ++ bin free l =
    ap bits (last_apart octets i e) ∙ bits-append a (l ∷ []) ∙ ap (λ bs. bits a ++ bs) one
    ∙ sym (append_assoc (bits a) (bin (8 - free) (l / 2 ^ free)) (bin free l)) in
    let long : length front ≡ len =
    omega (
      arith,
      length-append (bits a) (bin (8 - free) (l / 2 ^ free)),
      length-bits a,
      length-take-le i octets (omega arith),
      length-bin (8 - free) (l / 2 ^ free),
    ) in
    (rw all (take_at front (bin free l) len long), rw all (drop_at front (bin free l) len long))

pub filled : (l top free : ℕ) → free ≤ 8 → l % 2 ^ free ≡ 0 → top < 2 ^ free
    → bin 8 (l + top) ≡ bin (8 - free) (l / 2 ^ free) ++ bin free top
filled l top free few clear small =
    let high : l ≡ l / 2 ^ free * 2 ^ free = omega (arith, shr_split l free) in
    let sum : l + top ≡ l / 2 ^ free * 2 ^ free + top = ap (λ m. m + top) high in
    let quotient : (l + top) / 2 ^ free ≡ l / 2 ^ free =
    ap (λ m. m / 2 ^ free) sum ∙ shr_high (l / 2 ^ free) free top small in
    let none : 0 * 2 ^ free + top ≡ top = omega arith in
    let rest : (l + top) % 2 ^ free ≡ top % 2 ^ free =
    ap (λ m. m % 2 ^ free) sum ∙ mod_low (l / 2 ^ free) free top small
    ∙ sym (mod_low 0 free top small) ∙ ap (λ m. m % 2 ^ free) none in
    rw (
      bin-split 8 (8 - free) free (l + top) (omega arith),
      quotient,
      bin_same free (l + top) top rest,
    ) refl

pub low_clear : (l free : ℕ) → bin free l ≡ replicate free false → l % 2 ^ free ≡ 0
low_clear l free e = sym (number-bin free l) ∙ ap number e ∙ number-zeros free

pub last_bytes : (k t m n : ℕ) → t ≡ k + m → drop k (bytes_high_first t n) ≡ bytes_high_first m n
last_bytes zero t m n e = ap (λ j. bytes_high_first j n) (omega arith)
last_bytes (suc k) zero m n e = absurd (omega arith)
last_bytes (suc k) (suc t) m n e = last_bytes k t m n (omega arith)

pub put_whole : (octets new : List ℕ) (width n grown zeros wide : ℕ) → width + zeros ≡ 8 * grown
    → grown ≤ 16 → wide ≡ n * 2 ^ zeros
    → new ≡ octets ++ drop (16 - grown) (bytes_high_first 16 wide)
    → bits new ≡ (bits octets ++ bin width n) ++ replicate zeros false
put_whole octets new width n grown zeros wide ends few wide_is new_is =
    let added : bits (drop (16 - grown) (bytes_high_first 16 wide)) ≡ bin width n
    ++ replicate zeros false =
    ap bits (last_bytes (16 - grown) 16 grown wide (omega arith))
    ∙ bits-bytes grown (8 * grown) wide refl
    ∙ ap (bin (8 * grown)) wide_is ∙ bin-shifted (8 * grown) width zeros n (omega arith) in
    ap bits new_is ∙ bits-append octets (drop (16 - grown) (bytes_high_first 16 wide))
    ∙ ap (λ bs. bits octets ++ bs) added
    ∙ sym (append_assoc (bits octets) (bin width n) (replicate zeros false))

pub put_inside : (octets new : List ℕ) (i len free width n grown zeros wide : ℕ)
    → i + 1 ≡ length octets → free ≤ 8 → len + free ≡ 8 * length octets
    → drop len (bits octets) ≡ replicate free false → width + zeros ≡ 8 * grown + free → grown ≤ 16
    → n < 2 ^ width → wide ≡ n * 2 ^ zeros
    → new ≡ take i octets ++ (get_or octets i 0 + wide / 2 ^ (8 * grown)) ∷ drop (16 - grown)
    (bytes_high_first 16 wide)
    → bits new ≡ (take len (bits octets) ++ bin width n) ++ replicate zeros false
put_inside octets new i len free width n grown zeros wide e few filled_to clear ends some small
    wide_is new_is =
    let a = take i octets in
    let l = get_or octets i 0 in
    let top = wide / 2 ^ (8 * grown) in
    let split = last_split octets i len free e few filled_to in
    let l_clear : l % 2 ^ free ≡ 0 = low_clear l free (sym split.1 ∙ clear) in
    let sum : width + zeros ≡ free + 8 * grown = omega arith in
    let wide_small : wide < 2 ^ (free + 8 * grown) =
    subst (λ m. m < 2 ^ (free + 8 * grown)) (sym wide_is)
    (subst (λ k. n * 2 ^ zeros < 2 ^ k) sum (shl_below n width zeros small)) in
    let top_small : top < 2 ^ free = shr_below wide free (8 * grown) wide_small in
    let last : bin 8 (l + top) ≡ bin (8 - free) (l / 2 ^ free) ++ bin free top =
    filled l top free few l_clear top_small in
    let added : bits (drop (16 - grown) (bytes_high_first 16 wide)) ≡ bin (8 * grown) wide =
    ap bits (last_bytes (16 - grown) 16 grown wide (omega arith))
    ∙ bits-bytes grown (8 * grown) wide refl in
    let joined : bin free top ++ bin (8 * grown) wide ≡ bin width n ++ replicate zeros false =
    sym (bin-split (free + 8 * grown) free (8 * grown) wide refl)
    ∙ ap (bin (free + 8 * grown)) wide_is
    ∙ bin-shifted (free + 8 * grown) width zeros n (sym sum) in
    let h = bin (8 - free) (l / 2 ^ free) in
    rw (
      new_is,
      bits-append a ((l + top) ∷ drop (16 - grown) (bytes_high_first 16 wide)),
      last,
      added,
      split.0,
    )
    (ap (λ bs. bits a ++ bs)
    (append_assoc h (bin free top) (bin (8 * grown) wide) ∙ ap (λ bs. h ++ bs) joined)
    ∙ sym (append_assoc (bits a) h (bin width n ++ replicate zeros false))
    ∙ sym (append_assoc (bits a ++ h) (bin width n) (replicate zeros false)))

pub closed_filled : (octets : List ℕ) (text : List Bool) (len zeros : ℕ)
    → bits octets ≡ text ++ replicate zeros false → length text ≡ len → zeros < 8
    → (take len (bits octets) ≡ text) × IsFilled len octets
closed_filled octets text len zeros e l few =
    let c = closed octets text len zeros e l in
    (c.0, (omega (arith, c.1), omega (arith, c.1), c.2))

pub sum_fits : (l top free : ℕ) → free ≤ 8 → l < 256 → l % 2 ^ free ≡ 0 → top < 2 ^ free
    → l + top < 256
sum_fits l top free few small clear top_small =
    let high : l ≡ l / 2 ^ free * 2 ^ free = omega (arith, shr_split l free) in
    let e : 8 - free + free ≡ 8 = omega arith in
    let all : 2 ^ (8 - free) * 2 ^ free ≡ 256 =
    sym (pow-add 2 (8 - free) free) ∙ ap (λ k. 2 ^ k) e in
    let quotient : l / 2 ^ free < 2 ^ (8 - free) =
    div_below l (2 ^ free) (2 ^ (8 - free)) (pow_pos free) (omega (arith, all)) in
    omega (
      arith,
      high,
      all,
      mul-add-lt (l / 2 ^ free) (2 ^ free) top (2 ^ (8 - free)) quotient top_small,
    )

pub wide_is : (n width zeros : ℕ) → width ≤ 64 → zeros < 8 → n < 2 ^ width
    → n * 2 ^ zeros % 2 ^ 128 ≡ n * 2 ^ zeros
wide_is n width zeros narrow few small = shl_whole n width zeros 128 small (omega arith)

pub top_below : (n width zeros free grown : ℕ) → n < 2 ^ width → width + zeros ≡ 8 * grown + free
    → n * 2 ^ zeros / 2 ^ (8 * grown) < 2 ^ free
top_below n width zeros free grown small ends =
    let sum : width + zeros ≡ free + 8 * grown = omega arith in
    shr_below (n * 2 ^ zeros) free (8 * grown)
    (subst (λ k. n * 2 ^ zeros < 2 ^ k) sum (shl_below n width zeros small))

pub last_clear : (octets : List ℕ) (i len free : ℕ) → i + 1 ≡ length octets → free ≤ 8
    → len + free ≡ 8 * length octets → drop len (bits octets) ≡ replicate free false
    → get_or octets i 0 % 2 ^ free ≡ 0
last_clear octets i len free e few ends clear =
    low_clear (get_or octets i 0) free (sym (last_split octets i len free e few ends).1 ∙ clear)

length-bytes : (k n : ℕ) → length (bytes_high_first k n) ≡ k
length-bytes zero n = refl
length-bytes (suc k) n = ap suc (length-bytes k n)

last_of_16 : (be : List ℕ) (grown wide : ℕ) → grown ≤ 16 → be ≡ bytes_high_first 16 wide
    → take (16 - (16 - grown)) (drop (16 - grown) be) ≡ drop (16 - grown) (bytes_high_first 16 wide)
last_of_16 be grown wide few e =
    let same : drop (16 - grown) (bytes_high_first 16 wide) ≡ bytes_high_first grown wide =
    last_bytes (16 - grown) 16 grown wide (omega arith) in
    ap (λ bs. take (16 - (16 - grown)) (drop (16 - grown) bs)) e
    ∙ take_all (16 - (16 - grown)) (drop (16 - grown) (bytes_high_first 16 wide))
    (omega (arith, ap length same, length-bytes grown wide))

-- the octets before and after they grow, and the field that goes after `len` bits of them
pub record Putting (octets extended : List ℕ) (len width n count grown zeros : ℕ) : Type 0 where
  pub filled : IsFilled len octets
  pub count_is : count ≡ length octets
  pub narrow : width ≤ 64
  pub fits : n < 2 ^ width
  pub ends : width + zeros ≡ 8 * grown + (8 * count - len)
  pub few : zeros < 8
  pub grown_few : grown ≤ 8
  pub extended_is : extended ≡ octets ++ drop (16 - grown) (bytes_high_first 16 (n * 2 ^ zeros))

pub putting : (octets be extended : List ℕ) (len width n count grown : ℕ) → IsFilled len octets
    → count ≡ length octets → width ≤ 64 → n < 2 ^ width
    → grown ≡ div_ceil (width - (8 * count - len)) 8
    → be ≡ bytes_high_first 16 (n * 2 ^ (8 * grown + (8 * count - len) - width) % 2 ^ 128)
    → extended ≡ octets ++ take (16 - (16 - grown)) (drop (16 - grown) be)
    → Putting octets extended len width n count grown (8 * grown + (8 * count - len) - width)
putting octets be extended len width n count grown filled count_is narrow fits grown_is be_is
    extended_is =
    let free = 8 * count - len in
    let zeros = 8 * grown + free - width in
    let ends : width + zeros ≡ 8 * grown + free = omega arith in
    let few : zeros < 8 = omega (arith, filled.1) in
    let some : grown ≤ 8 = omega arith in
    let whole : be ≡ bytes_high_first 16 (n * 2 ^ zeros) =
    be_is ∙ ap (bytes_high_first 16) (wide_is n width zeros narrow few fits) in
    record {
      filled = filled;
      count_is = count_is;
      narrow = narrow;
      fits = fits;
      ends = ends;
      few = few;
      grown_few = some;
      extended_is =
          extended_is
          ∙ ap (λ bs. octets ++ bs) (last_of_16 be grown (n * 2 ^ zeros) (omega arith) whole);
    }

pub last_read : (octets extended : List ℕ) (len width n count grown zeros x : ℕ)
    → Putting octets extended len width n count grown zeros → len < 8 * count
    → x ≡ get_or extended (count - 1) x → x ≡ get_or octets (count - 1) 0
last_read octets extended len width n count grown zeros x p begun x_is =
    let inside : count - 1 < length octets = omega (arith, p.count_is) in
    let longer : count - 1 < length extended =
    omega (
      arith,
      ap length p.extended_is,
      length-append octets (drop (16 - grown) (bytes_high_first 16 (n * 2 ^ zeros))),
    ) in
    get_or_read extended (count - 1) x longer x_is 0
    ∙ ap (λ xs. get_or xs (count - 1) 0) p.extended_is
    ∙ get_or_append_left octets (drop (16 - grown) (bytes_high_first 16 (n * 2 ^ zeros))) 0
    (count - 1) inside

pub put_last : (octets extended : List ℕ) (len width n count grown zeros x : ℕ)
    → Putting octets extended len width n count grown zeros → len < 8 * count
    → x ≡ get_or extended (count - 1) x
    → (take (len + width) (bits (set extended (count - 1)
    (x + n * 2 ^ zeros % 2 ^ 128 / 2 ^ (8 * grown)))) ≡ take len (bits octets) ++ bin width n)
    × IsFilled (len + width) (set extended (count - 1)
    (x + n * 2 ^ zeros % 2 ^ 128 / 2 ^ (8 * grown)))
put_last octets extended len width n count grown zeros x p begun x_is =
    let i = count - 1 in
    let free = 8 * count - len in
    let new = drop (16 - grown) (bytes_high_first 16 (n * 2 ^ zeros)) in
    let l = get_or octets i 0 in
    let top = n * 2 ^ zeros / 2 ^ (8 * grown) in
    let last : i + 1 ≡ length octets = omega (arith, p.count_is) in
    let apart : extended ≡ take i octets ++ l ∷ new =
    p.extended_is ∙ ap (λ xs. xs ++ new) (last_apart octets i last)
    ∙ append_assoc (take i octets) (l ∷ []) new in
    let value : x + n * 2 ^ zeros % 2 ^ 128 / 2 ^ (8 * grown) ≡ l + top =
    ap (λ m. m + n * 2 ^ zeros % 2 ^ 128 / 2 ^ (8 * grown))
    (last_read octets extended len width n count grown zeros x p begun x_is)
    ∙ ap (λ m. l + m / 2 ^ (8 * grown)) (wide_is n width zeros p.narrow p.few p.fits) in
    let is : set extended i (x + n * 2 ^ zeros % 2 ^ 128 / 2 ^ (8 * grown)) ≡ take i octets
    ++ (l + top) ∷ new =
    ap (λ v. set extended i v) value ∙ ap (λ xs. set xs i (l + top)) apart
    ∙ set_at (take i octets) l new (l + top) i (length-take-le i octets (omega arith)) in
    let count_free : 8 * length octets - len ≡ free = omega (arith, p.count_is) in
    let clear : drop len (bits octets) ≡ replicate free false =
    p.filled.2 ∙ ap (λ k. replicate k false) count_free in
    let all =
    put_inside octets
    (set extended i
    (x + n * 2 ^ zeros % 2 ^ 128 / 2 ^ (8 * grown))) i len free width n grown zeros
    (n * 2 ^ zeros) last
    (omega (arith, p.count_is, p.filled.1)) (omega (arith, p.count_is)) clear p.ends
    (omega (arith, p.grown_few)) p.fits refl is in
    let long : length (take len (bits octets) ++ bin width n) ≡ len + width =
    omega (
      arith,
      length-append (take len (bits octets)) (bin width n),
      length-bin width n,
      length-take-le len (bits octets) (omega (arith, length-bits octets, p.filled.0)),
    ) in
    closed_filled (set extended i (x + n * 2 ^ zeros % 2 ^ 128 / 2 ^ (8 * grown)))
    (take len (bits octets) ++ bin width n) (len + width) zeros all long p.few

pub put_after : (octets extended : List ℕ) (len width n count grown zeros : ℕ)
    → Putting octets extended len width n count grown zeros → 8 * count ≤ len
    → (take (len + width) (bits extended) ≡ take len (bits octets) ++ bin width n)
    × IsFilled (len + width) extended
put_after octets extended len width n count grown zeros p full =
    let same : take len (bits octets) ≡ bits octets =
    take_all len (bits octets) (omega (arith, length-bits octets, p.count_is)) in
    let all =
    put_whole octets extended width n grown zeros (n * 2 ^ zeros) (omega (arith, p.ends))
    (omega (arith, p.grown_few)) refl p.extended_is in
    let long : length (bits octets ++ bin width n) ≡ len + width =
    omega (
      arith,
      length-append (bits octets) (bin width n),
      length-bin width n,
      length-bits octets,
      p.count_is,
      p.filled.0,
    ) in
    rw same (closed_filled extended (bits octets ++ bin width n) (len + width) zeros all long p.few)

pub cast_fits : (octets extended : List ℕ) (len width n count grown zeros : ℕ)
    → Putting octets extended len width n count grown zeros
    → n * 2 ^ zeros % 2 ^ 128 / 2 ^ (8 * grown) < 256
cast_fits octets extended len width n count grown zeros p =
    let free = 8 * count - len in
    let top = top_below n width zeros free grown p.fits p.ends in
    let few : free ≤ 8 = omega (arith, p.filled.1, p.count_is) in
    let most : 2 ^ free ≤ 2 ^ 8 = pow-le-pow_right (lit< tt) few in
    rw (wide_is n width zeros p.narrow p.few p.fits) (omega arith)

pub add_fits : (octets extended : List ℕ) (len width n count grown zeros x : ℕ)
    → Putting octets extended len width n count grown zeros → len < 8 * count
    → x ≡ get_or extended (count - 1) x → x < 256
    → x + n * 2 ^ zeros % 2 ^ 128 / 2 ^ (8 * grown) < 256
add_fits octets extended len width n count grown zeros x p begun x_is small =
    let free = 8 * count - len in
    let i = count - 1 in
    let count_free : 8 * length octets - len ≡ free = omega (arith, p.count_is) in
    let few : free ≤ 8 = omega (arith, p.filled.1, p.count_is) in
    let clear : drop len (bits octets) ≡ replicate free false =
    p.filled.2 ∙ ap (λ k. replicate k false) count_free in
    let l_clear =
    last_clear octets i len free (omega (arith, p.count_is)) few
    (omega (arith, p.count_is)) clear in
    let x_clear : x % 2 ^ free ≡ 0 =
    ap (λ m. m % 2 ^ free)
    (last_read octets extended len width n count grown zeros x p begun x_is) ∙ l_clear in
    rw (wide_is n width zeros p.narrow p.few p.fits)
    (sum_fits x (n * 2 ^ zeros / 2 ^ (8 * grown)) free few small x_clear
    (top_below n width zeros free grown p.fits p.ends))

pub filled_whole : (octets : List ℕ) (all : ℕ) → all ≡ 8 * length octets → IsFilled all octets
filled_whole octets all e =
    let none : 8 * length octets - all ≡ 0 = omega arith in (
      omega arith,
      omega arith,
      drop_all all (bits octets) (omega (arith, length-bits octets))
          ∙ ap (λ k. replicate k false) (sym none),
    )

pub fill_is : (octets : List ℕ) (len all : ℕ) → IsFilled len octets → all ≡ 8 * length octets
    → take all (bits octets)
    ≡ take len (bits octets) ++ replicate ((8 - length (take len (bits octets)) % 8) % 8) false
fill_is octets len all filled e =
    let long : length (take len (bits octets)) ≡ len =
    length-take-le len (bits octets) (omega (arith, length-bits octets, filled.0)) in
    let zeros : 8 * length octets - len ≡ (8 - len % 8) % 8 = omega (arith, filled.0, filled.1) in
    rw long
    (take_all all (bits octets) (omega (arith, length-bits octets))
    ∙ sym (take-append-drop len (bits octets))
    ∙ ap (λ bs. take len (bits octets) ++ bs) (filled.2 ∙ ap (λ k. replicate k false) zeros))

pub cut_front : (octets : List ℕ) (k len : ℕ) → len ≤ 8 * k → k ≤ length octets
    → take len (bits (take k octets)) ≡ take len (bits octets)
cut_front octets k len inside within =
    ap (λ bs. take len bs) (sym (take-bits k (8 * k) octets refl within))
    ∙ take-take len (8 * k) (bits octets) inside

pub cut_whole : (octets cut : List ℕ) (len count : ℕ) → count ≡ length octets
    → len ≤ 8 * length octets → (8 * count - len) % 8 ≡ 0
    → cut ≡ take (count - (8 * count - len) / 8) octets
    → (take len (bits cut) ≡ take len (bits octets)) × IsFilled len cut
cut_whole octets cut len count count_is inside edge cut_is =
    let k = count - (8 * count - len) / 8 in
    let within : k ≤ length octets = omega (arith, count_is) in
    let long : length cut ≡ k = ap length cut_is ∙ length-take-le k octets within in
    let all : len ≡ 8 * length cut = omega (arith, long) in (
      ap (λ xs. take len (bits xs)) cut_is
          ∙ cut_front octets k len (omega (arith, all, long)) within,
      filled_whole cut len all,
    )

pub cut_inside : (octets cut : List ℕ) (len count at x low : ℕ) → count ≡ length octets
    → len ≤ 8 * length octets → low ≡ (8 * count - len) % 8 → 0 < low
    → cut ≡ take (count - (8 * count - len) / 8) octets → at ≡ length cut
    → x ≡ get_or cut (at - 1) x
    → (take len (bits (set cut (at - 1) (x - x % (1 * 2 ^ low % 256)))) ≡ take len (bits octets))
    × IsFilled len (set cut (at - 1) (x - x % (1 * 2 ^ low % 256)))
cut_inside octets cut len count at x low count_is inside low_is some cut_is at_is x_is =
    let k = count - (8 * count - len) / 8 in
    let i = at - 1 in
    let within : k ≤ length octets = omega (arith, count_is) in
    let long : length cut ≡ k = ap length cut_is ∙ length-take-le k octets within in
    let last : i + 1 ≡ length cut = omega (arith, long, at_is) in
    let ends : len + low ≡ 8 * length cut = omega (arith, long) in
    let few : low ≤ 8 = omega arith in
    let l = get_or cut i 0 in
    let read : x ≡ l = get_or_read cut i x (omega arith) x_is 0 in
    let mask : 1 * 2 ^ low % 256 ≡ 2 ^ low = one_shl low 8 (omega arith) in
    let value : x - x % (1 * 2 ^ low % 256) ≡ l / 2 ^ low * 2 ^ low =
    ap (λ m. x - x % m) mask ∙ ap (λ m. m - m % 2 ^ low) read ∙ omega (arith, shr_split l low) in
    let new = set cut i (x - x % (1 * 2 ^ low % 256)) in
    let new_is : new ≡ take i cut ++ (l / 2 ^ low * 2 ^ low) ∷ [] =
    ap (λ v. set cut i v) value
    ∙ ap (λ xs. set xs i (l / 2 ^ low * 2 ^ low)) (last_apart cut i last)
    ∙ set_at (take i cut) l [] (l / 2 ^ low * 2 ^ low) i (length-take-le i cut (omega arith)) in
    let one : bits ((l / 2 ^ low * 2 ^ low) ∷ []) ≡ bin (8 - low) (l / 2 ^ low)
    ++ replicate low false =
    append-nil (bin 8 (l / 2 ^ low * 2 ^ low))
    ∙ bin-shifted 8 (8 - low) low (l / 2 ^ low) (omega arith) in
    let front : take len (bits cut) ≡ bits (take i cut) ++ bin (8 - low) (l / 2 ^ low) =
    (last_split cut i len low last few ends).0 in
    let all : bits new ≡ take len (bits cut) ++ replicate low false =
    ap bits new_is ∙ bits-append (take i cut) ((l / 2 ^ low * 2 ^ low) ∷ [])
    ∙ ap (λ bs. bits (take i cut) ++ bs) one
    ∙ sym (append_assoc (bits (take i cut)) (bin (8 - low) (l / 2 ^ low)) (replicate low false))
    ∙ ap (λ bs. bs ++ replicate low false) (sym front) in
    let whole : length (take len (bits cut)) ≡ len =
    length-take-le len (bits cut) (omega (arith, length-bits cut)) in
    let closing = closed_filled new (take len (bits cut)) len low all whole (omega arith) in (
      closing.0 ∙ ap (λ xs. take len (bits xs)) cut_is
          ∙ cut_front octets k len (omega (arith, long)) within,
      closing.1,
    )
