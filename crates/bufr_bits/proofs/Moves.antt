-- Octets shifted up into the zero bits at the end of the octet before them, for
-- `BitSink::put_bytes`.
use Rattle.std.proofs.Common.{◌≡◌, ℕ, ◌+◌, ◌-◌, ◌*◌, ◌/◌, ◌%◌, ◌^◌, ◌<◌, ◌≤◌, false, List, [], ◌∷◌}
use Rattle.std.proofs.Common.{◌++◌, length, take, drop, replicate, get_or, set, sym, ap, subst, ◌∙◌}
use Rattle.std.proofs.Common.{arith, length-append, length-drop, append_assoc}
use Rattle.std.proofs.lemmas.Nat.{shr_below}
use Rattle.std.proofs.lemmas.List.{append-nil, drop_at, take_all, take-take, take-append-drop}
use Rattle.std.proofs.lemmas.List.{take-append-le, take_more, take_more_set, drop-drop, drop-set-lt}
use Rattle.std.proofs.lemmas.List.{get_or-take, get_or-drop, get_or_append_left, length-take-le}
use Rattle.std.proofs.lemmas.List.{length-replicate, length-set, drop_all}
use Rattle.bufr_bits.specs.Bits.{bin, bits}
use Rattle.bufr_bits.specs.Filled.{IsFilled, moved_up}
use Rattle.bufr_bits.specs.OctetLaws.{length-bits, bits-append}
use Rattle.bufr_bits.proofs.BitLists.{bin-split, bin-mod, bin-zeros, bin-shifted}
use Rattle.bufr_bits.proofs.Puts.{closed, closed_filled, last_split, last_clear, filled, cut_front}
use Rattle.bufr_bits.proofs.Puts.{sum_fits}

pub move_none : (octets : List ℕ) (from free : ℕ) → from < length octets → free < 8
    → get_or octets from 0 % 2 ^ free ≡ 0
    → bits (take (from + 1) octets) ≡ (take (8 * (from + 1) - free) (bits octets)
    ++ bits (take (from - from) (drop (from + 1) octets))) ++ replicate free false
move_none octets from free begun few clear =
    let w = take (from + 1) octets in
    let len = 8 * (from + 1) - free in
    let long : length w ≡ from + 1 = length-take-le (from + 1) octets (omega arith) in
    let read : get_or w from 0 ≡ get_or octets from 0 =
    get_or-take (from + 1) octets from 0 (omega arith) in
    let split =
    last_split w from len free (omega (arith, long)) (omega arith) (omega (arith, long)) in
    let low : drop len (bits w) ≡ replicate free false =
    split.1 ∙ ap (bin free) read ∙ bin-zeros free (get_or octets from 0) clear in
    let front : take len (bits w) ≡ take len (bits octets) =
    cut_front octets (from + 1) len (omega arith) (omega arith) in
    let none : from - from ≡ 0 = omega arith in
    rw none
    (sym (take-append-drop len (bits w)) ∙ ap (λ bs. bs ++ drop len (bits w)) front
    ∙ ap (λ bs. take len (bits octets) ++ bs) low
    ∙ ap (λ bs. bs ++ replicate free false) (sym (append-nil (take len (bits octets)))))

-- the octets up to index `i` are shifted
pub record Moving (octets initial : List ℕ) (from i free : ℕ) : Type 0 where
  pub begun : from ≤ i
  pub within : i + 1 < length octets
  pub same : length octets ≡ length initial
  pub some : 0 < free
  pub few : free < 8
  pub rest : drop (i + 1) octets ≡ drop (i + 1) initial
  pub moved : bits (take (i + 1) octets) ≡ (take (8 * (from + 1) - free) (bits initial)
      ++ bits (take (i - from) (drop (from + 1) initial))) ++ replicate free false

pub moving_last : (octets initial : List ℕ) (from i free : ℕ) → Moving octets initial from i free
    → (get_or octets i 0 % 2 ^ free ≡ 0) × (bits (take i octets)
    ++ bin (8 - free) (get_or octets i 0 / 2 ^ free) ≡ take (8 * (from + 1) - free) (bits initial)
    ++ bits (take (i - from) (drop (from + 1) initial)))
moving_last octets initial from i free m =
    let w = take (i + 1) octets in
    let len = 8 * (i + 1) - free in
    let text =
    take (8 * (from + 1) - free) (bits initial)
    ++ bits (take (i - from) (drop (from + 1) initial)) in
    let long : length w ≡ i + 1 = length-take-le (i + 1) octets (omega (arith, m.within)) in
    let text_long : length text ≡ len =
    omega (
      arith,
      ap length m.moved,
      length-append text (replicate free false),
      length-replicate free false,
      length-bits w,
      long,
      m.few,
    ) in
    let c = closed w text len free m.moved text_long in
    let eight : len + free ≡ 8 * length w = omega (arith, long, m.few) in
    let zeros : 8 * length w - len ≡ free = omega arith in
    let clear : drop len (bits w) ≡ replicate free false =
    c.2 ∙ ap (λ k. replicate k false) zeros in
    let read : get_or w i 0 ≡ get_or octets i 0 = get_or-take (i + 1) octets i 0 (omega arith) in
    let low = last_clear w i len free (omega (arith, long)) (omega (arith, m.few)) eight clear in
    let split = last_split w i len free (omega (arith, long)) (omega (arith, m.few)) eight in
    let front : take i w ≡ take i octets = take-take i (i + 1) octets (omega arith) in (
      ap (λ l. l % 2 ^ free) (sym read) ∙ low,
      ap (λ xs. bits xs ++ bin (8 - free) (get_or octets i 0 / 2 ^ free)) (sym front)
          ∙ ap (λ l. bits (take i w) ++ bin (8 - free) (l / 2 ^ free)) (sym read) ∙ sym split.0
          ∙ c.0,
    )

pub move_fits : (octets initial : List ℕ) (from i free : ℕ) → Moving octets initial from i free
    → get_or octets i 0 < 256 → get_or octets (i + 1) 0 < 256
    → get_or octets i 0 + get_or octets (i + 1) 0 / 2 ^ (8 - free) < 256
move_fits octets initial from i free m a_small x_small =
    let x = get_or octets (i + 1) 0 in
    let all : free + (8 - free) ≡ 8 = omega (arith, m.few) in
    let top : x / 2 ^ (8 - free) < 2 ^ free =
    shr_below x free (8 - free) (subst (λ k. x < 2 ^ k) (sym all) x_small) in
    sum_fits (get_or octets i 0) (x / 2 ^ (8 - free)) free (omega (arith, m.few)) a_small
    (moving_last octets initial from i free m).0 top

pub move_more : (octets initial : List ℕ) (from i free : ℕ) → Moving octets initial from i free
    → get_or octets (i + 1) 0 < 256
    → (drop (i + 1 + 1) (set (set octets i
    (get_or octets i 0 + get_or octets (i + 1) 0 / 2 ^ (8 - free))) (i + 1)
    (get_or octets (i + 1) 0 * 2 ^ free % 256)) ≡ drop (i + 1 + 1) initial)
    × (bits (take (i + 1 + 1) (set (set octets i
    (get_or octets i 0 + get_or octets (i + 1) 0 / 2 ^ (8 - free))) (i + 1)
    (get_or octets (i + 1) 0 * 2 ^ free % 256)))
    ≡ (take (8 * (from + 1) - free) (bits initial)
    ++ bits (take (i + 1 - from) (drop (from + 1) initial))) ++ replicate free false)
move_more octets initial from i free m x_small =
    let a = get_or octets i 0 in
    let x = get_or octets (i + 1) 0 in
    let s = 8 - free in
    let top = x / 2 ^ s in
    let v = a + top in
    let u = x * 2 ^ free % 256 in
    let front = take (8 * (from + 1) - free) (bits initial) in
    let later = drop (from + 1) initial in
    let text = front ++ bits (take (i - from) later) in
    let h = bin s (a / 2 ^ free) in
    let zeros = replicate free false in
    let all : free + s ≡ 8 = omega (arith, m.few) in
    let last = moving_last octets initial from i free m in
    let top_small : top < 2 ^ free =
    shr_below x free s (subst (λ k. x < 2 ^ k) (sym all) x_small) in
    let v_bits : bits (v ∷ []) ≡ h ++ bin free top =
    append-nil (bin 8 v) ∙ filled a top free (omega (arith, m.few)) last.0 top_small in
    let u_bits : bits (u ∷ []) ≡ bin s x ++ zeros =
    append-nil (bin 8 u) ∙ bin-mod 8 (x * 2 ^ free)
    ∙ bin-shifted 8 s free x (omega (arith, m.few)) in
    let x_bits : bin free top ++ bin s x ≡ bits (x ∷ []) =
    sym (bin-split 8 free s x (sym all)) ∙ sym (append-nil (bin 8 x)) in
    let taken : take (i + 1 + 1) (set (set octets i v) (i + 1) u) ≡ (take i octets ++ v ∷ []) ++ u
    ∷ [] =
    take_more_set (set octets i v) (i + 1) u (omega (arith, m.within, length-set octets i v))
    ∙ ap (λ xs. xs ++ u ∷ []) (take_more_set octets i v (omega (arith, m.within))) in
    let inside : i - from < length later =
    omega (arith, m.within, m.same, m.begun, length-drop (from + 1) initial) in
    let at : from + 1 + (i - from) ≡ i + 1 + 0 = omega (arith, m.begun) in
    let at' : i + 1 + 0 ≡ i + 1 = omega arith in
    let x_is : get_or later (i - from) 0 ≡ x =
    get_or-drop (from + 1) initial (i - from) 0 ∙ ap (λ k. get_or initial k 0) at
    ∙ sym (get_or-drop (i + 1) initial 0 0)
    ∙ ap (λ xs. get_or xs 0 0) (sym m.rest) ∙ get_or-drop (i + 1) octets 0 0
    ∙ ap (λ k. get_or octets k 0) at' in
    let count : i + 1 - from ≡ i - from + 1 = omega (arith, m.begun) in
    let next : take (i + 1 - from) later ≡ take (i - from) later ++ x ∷ [] =
    ap (λ k. take k later) count ∙ take_more later (i - from) 0 inside
    ∙ ap (λ y. take (i - from) later ++ y ∷ []) x_is in
    let longer : front ++ bits (take (i + 1 - from) later) ≡ text ++ bits (x ∷ []) =
    ap (λ xs. front ++ bits xs) next
    ∙ ap (λ bs. front ++ bs) (bits-append (take (i - from) later) (x ∷ []))
    ∙ sym (append_assoc front (bits (take (i - from) later)) (bits (x ∷ []))) in
    let b0 = bits (take i octets) in
    let joined : bits ((take i octets ++ v ∷ []) ++ u ∷ []) ≡ (b0 ++ (h ++ bin free top))
    ++ (bin s x ++ zeros) =
    bits-append (take i octets ++ v ∷ []) (u ∷ [])
    ∙ ap (λ bs. bs ++ bits (u ∷ [])) (bits-append (take i octets) (v ∷ []))
    ∙ ap (λ bs. (b0 ++ bs) ++ bits (u ∷ [])) v_bits
    ∙ ap (λ bs. (b0 ++ (h ++ bin free top)) ++ bs) u_bits in
    let turned : (b0 ++ (h ++ bin free top)) ++ (bin s x ++ zeros)
    ≡ ((b0 ++ h) ++ (bin free top ++ bin s x)) ++ zeros = simp append_assoc in
    let moved : ((b0 ++ h) ++ (bin free top ++ bin s x)) ++ zeros
    ≡ (front ++ bits (take (i + 1 - from) later)) ++ zeros =
    ap (λ bs. (bs ++ (bin free top ++ bin s x)) ++ zeros) last.1
    ∙ ap (λ bs. (text ++ bs) ++ zeros) x_bits ∙ ap (λ bs. bs ++ zeros) (sym longer) in
    let after : drop (i + 1 + 1) octets ≡ drop (i + 1 + 1) initial =
    sym (drop-drop 1 (i + 1) octets) ∙ ap (λ xs. drop 1 xs) m.rest
    ∙ drop-drop 1 (i + 1) initial in (
      drop-set-lt (i + 1 + 1) (set octets i v) (i + 1) u (omega arith)
          ∙ drop-set-lt (i + 1 + 1) octets i v (omega arith) ∙ after,
      ap bits taken ∙ joined ∙ turned ∙ moved,
    )

pub written_back : (ws xs : List ℕ) (n : ℕ) → length ws ≡ length xs → n ≡ length xs
    → take n (ws ++ drop (length ws) xs) ≡ ws
written_back ws xs n same all =
    ap (λ k. take n (ws ++ drop k xs)) same
    ∙ ap (λ ys. take n (ws ++ ys)) (drop_all (length xs) xs (omega arith))
    ∙ ap (λ ys. take n ys) (append-nil ws) ∙ take_all n ws (omega arith)

pub put_octets_whole : (octets extended more : List ℕ) (len all count : ℕ) → IsFilled len octets
    → count ≡ length octets → 8 * count ≤ len → all ≡ len + 8 * length more
    → extended ≡ octets ++ more
    → (take all (bits extended) ≡ take len (bits octets) ++ bits more) × IsFilled all extended
put_octets_whole octets extended more len all count filled_to count_is full all_is extended_is =
    let text = take len (bits octets) ++ bits more in
    let same : take len (bits octets) ≡ bits octets =
    take_all len (bits octets) (omega (arith, length-bits octets)) in
    let e : bits extended ≡ text ++ replicate 0 false =
    ap bits extended_is ∙ bits-append octets more ∙ ap (λ bs. bs ++ bits more) (sym same)
    ∙ sym (append-nil text) in
    let long : length text ≡ all =
    omega (
      arith,
      length-append (take len (bits octets)) (bits more),
      ap length same,
      length-bits octets,
      length-bits more,
      filled_to.0,
    ) in
    closed_filled extended text all 0 e long (omega arith)

pub put_octets_moved : (octets extended moved more : List ℕ) (len all count : ℕ)
    → IsFilled len octets → count ≡ length octets → len < 8 * count → all ≡ len + 8 * length more
    → extended ≡ octets ++ more → bits moved ≡ moved_up (count - 1 + 1) (8 * count - len) extended
    → (take all (bits moved) ≡ take len (bits octets) ++ bits more) × IsFilled all moved
put_octets_moved octets extended moved more len all count filled_to count_is begun all_is
    extended_is moved_is =
    let free = 8 * count - len in
    let text = take len (bits octets) ++ bits more in
    let n : 8 * (count - 1 + 1) - free ≡ len = omega arith in
    let c : count - 1 + 1 ≡ count = omega arith in
    let front : take (8 * (count - 1 + 1) - free) (bits extended) ≡ take len (bits octets) =
    ap (λ k. take k (bits extended)) n ∙ ap (λ xs. take len (bits xs)) extended_is
    ∙ ap (λ bs. take len bs) (bits-append octets more)
    ∙ take-append-le len (bits octets) (bits more) (omega (arith, length-bits octets)) in
    let back : drop (count - 1 + 1) extended ≡ more =
    ap (λ k. drop k extended) c ∙ ap (λ xs. drop count xs) extended_is
    ∙ drop_at octets more count (sym count_is) in
    let e : bits moved ≡ text ++ replicate free false =
    moved_is ∙ ap (λ bs. (bs ++ bits (drop (count - 1 + 1) extended)) ++ replicate free false) front
    ∙ ap (λ xs. (take len (bits octets) ++ bits xs) ++ replicate free false) back in
    let long : length text ≡ all =
    omega (
      arith,
      length-append (take len (bits octets)) (bits more),
      length-take-le len (bits octets) (omega (arith, length-bits octets)),
      length-bits more,
    ) in
    closed_filled moved text all free e long (omega (arith, filled_to.1))

pub clear_read : (octets extended more : List ℕ) (len count : ℕ) → IsFilled len octets
    → count ≡ length octets → len < 8 * count → extended ≡ octets ++ more
    → get_or extended (count - 1) 0 % 2 ^ (8 * count - len) ≡ 0
clear_read octets extended more len count filled_to count_is begun extended_is =
    let free = 8 * count - len in
    let i = count - 1 in
    let zeros : 8 * length octets - len ≡ free = omega arith in
    let clear : drop len (bits octets) ≡ replicate free false =
    filled_to.2 ∙ ap (λ k. replicate k false) zeros in
    ap (λ xs. get_or xs i 0 % 2 ^ free) extended_is
    ∙ ap (λ l. l % 2 ^ free) (get_or_append_left octets more 0 i (omega arith))
    ∙ last_clear octets i len free (omega arith) (omega (arith, filled_to.1)) (omega arith) clear
