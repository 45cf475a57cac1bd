-- Bits that are put at the start of a room, in words of eight octets.
use Rattle.std.proofs.Common.{◌≡◌, ℕ, ◌+◌, ◌-◌, ◌*◌, ◌/◌, ◌%◌, ◌^◌, ◌<◌, ◌≤◌, Bool}
use Rattle.std.proofs.Common.{false, List, [], ◌∷◌, ◌++◌, length, take, replicate, subst}
use Rattle.std.proofs.Common.{drop, Some, refl, sym, ap, ◌∙◌, arith}
use Rattle.std.proofs.Common.{append_assoc, append-nil, length-append}
use Rattle.std.proofs.lemmas.Nat.{mod_low, pow_pos, shl-shr}
use Rattle.std.proofs.lemmas.List.{length-drop, length-replicate, length-take-le, drop-drop}
use Rattle.std.proofs.lemmas.List.{take_at, drop_at, take-append-le, replicate-append-replicate}
use Rattle.std.proofs.Math.Seq.{take-add}
use Rattle.bufr_bits.specs.Bits.{bin, bits, number_at}
use Rattle.bufr_bits.specs.BitLaws.{length-bin, number-bin, number_at_is, number_same}
use Rattle.bufr_bits.specs.Ends.{BitPlace, left}
use Rattle.bufr_bits.specs.OctetLaws.{length-bits, bits-append}
use Rattle.bufr_data.specs.Subsets.{filled}
use Rattle.bufr_data.proofs.PlainFacts.Copied.{bits_there, bits_parted, octet_more, low_bits, zeros}

pub eight_octets : (n : ℕ) (octets : List ℕ)
    → octets ≡ n / 2 ^ 56 % 256 ∷ n / 2 ^ 48 % 256 ∷ n / 2 ^ 40 % 256 ∷ n / 2 ^ 32 % 256
    ∷ n / 2 ^ 24 % 256 ∷ n / 2 ^ 16 % 256 ∷ n / 2 ^ 8 % 256 ∷ n % 256 ∷ []
    → bits octets ≡ bin 64 n
eight_octets n octets is =
    let one = n % 256 ∷ [] in
    let two = n / 2 ^ 8 % 256 ∷ one in
    let three = n / 2 ^ 16 % 256 ∷ two in
    let four = n / 2 ^ 24 % 256 ∷ three in
    let five = n / 2 ^ 32 % 256 ∷ four in
    let six = n / 2 ^ 40 % 256 ∷ five in
    let seven = n / 2 ^ 48 % 256 ∷ six in
    ap bits is
    ∙ octet_more 56 n seven (octet_more 48 n six (octet_more 40 n five (octet_more 32 n four
    (octet_more 24 n three (octet_more 16 n two (octet_more 8 n one
    (append-nil (bin 8 (n % 256)) ∙ low_bits n)))))))

shifted : (w z n : ℕ) → w + z ≡ 64 → bin 64 (n * 2 ^ z) ≡ bin w n ++ replicate z false
shifted w z n e =
    let same : n * 2 ^ z + 0 ≡ n * 2 ^ z = omega arith in
    let low : n * 2 ^ z % 2 ^ z ≡ 0 =
    subst (λ m. m % 2 ^ z ≡ 0) same (mod_low n z 0 (pow_pos z)) in
    let none : bin z (n * 2 ^ z) ≡ replicate z false =
    number_same (bin z (n * 2 ^ z)) (replicate z false)
    (length-bin z (n * 2 ^ z) ∙ sym (length-replicate z false))
    (number-bin z (n * 2 ^ z) ∙ low ∙ sym (zeros z)) in
    bits_parted 64 w z (n * 2 ^ z) (sym e) ∙ (λ i. bin w (shl-shr n z i) ++ none i)

first_filled : (w z k n : ℕ) (octets : List ℕ) → w + z ≡ 64 → w ≤ 56 → k ≡ (w + 7) / 8
    → length octets ≡ 8 → bits octets ≡ bin 64 (n * 2 ^ z)
    → bits (take k octets) ≡ filled (bin w n)
first_filled w z k n octets e narrow count size is =
    let zero_bits = replicate (8 * k - w) false in
    let others = replicate (64 - 8 * k) false in
    let sum : 8 * k - w + (64 - 8 * k) ≡ z = omega (arith, e, count, narrow) in
    let parted : bits octets ≡ (bin w n ++ zero_bits) ++ others =
    is ∙ shifted w z n e
    ∙ ap (λ zs. bin w n ++ zs) (ap (λ m. replicate m false) (sym sum)
    ∙ sym (replicate-append-replicate (8 * k - w) (64 - 8 * k) false))
    ∙ sym (append_assoc (bin w n) zero_bits others) in
    let long : length (bin w n ++ zero_bits) ≡ 8 * k =
    omega (
      arith,
      length-append (bin w n) zero_bits,
      length-bin w n,
      length-replicate (8 * k - w) false,
      count,
    ) in
    let few : 8 * k - w ≡ (8 - length (bin w n) % 8) % 8 =
    omega (arith, length-bin w n, count) in
    bits_there 0 k octets (omega (arith, size, count, narrow))
    ∙ ap (take (8 * k)) parted ∙ take_at (bin w n ++ zero_bits) others (8 * k) long
    ∙ ap (λ m. bin w n ++ replicate m false) few

pub filled_whole : (xs : List Bool) → length xs % 8 ≡ 0 → filled xs ≡ xs
filled_whole xs whole =
    let none : (8 - length xs % 8) % 8 ≡ 0 = omega (arith, whole) in
    ap (λ m. xs ++ replicate m false) none ∙ append-nil xs

filled_behind : (xs ys : List Bool) → length xs % 8 ≡ 0 → filled (xs ++ ys) ≡ xs ++ filled ys
filled_behind xs ys whole =
    let few : (8 - length (xs ++ ys) % 8) % 8 ≡ (8 - length ys % 8) % 8 =
    omega (arith, length-append xs ys, whole) in
    ap (λ m. (xs ++ ys) ++ replicate m false) few ∙ append_assoc xs ys _

-- the bits from `from` to the reader's place are at the start of the room, and zero bits up to the
-- end of their last octet
pub record IsFilledSoFar (octets : List ℕ) (from end at more : ℕ) (r : BitPlace) (room : List ℕ)
    : Type 0 where
  pub size : length room ≡ 71
  pub of : r.octets ≡ octets
  pub onward : from ≤ r.place
  pub before : r.place + more ≡ end
  pub whole : 0 < more → 8 * at ≡ r.place - from
  pub put : bits (take ((r.place - from + 7) / 8) room)
      ≡ filled (take (r.place - from) (drop from (bits octets)))

pub none_filled : (octets : List ℕ) (from end more : ℕ) (r : BitPlace) (room : List ℕ)
    → length room ≡ 71 → from ≤ end → more ≡ end - from
    → r ≡ record { octets = octets; place = from } → IsFilledSoFar octets from end 0 more r room
none_filled octets from end more r room size onward all at =
    let here : r.place ≡ from = ap (λ (p : BitPlace). p.place) at in
    let none : r.place - from ≡ 0 = omega (arith, here) in
    record {
      size = size;
      of = ap (λ (p : BitPlace). p.octets) at;
      onward = omega (arith, here);
      before = omega (arith, here, onward, all);
      whole = λ _. sym none;
      put = rw none refl;
    }

pub left_there : (octets : List ℕ) (from end at more : ℕ) (r : BitPlace) (room : List ℕ)
    → end ≤ 8 * length octets → IsFilledSoFar octets from end at more r room
    → more ≤ length (left r)
left_there octets from end at more r room inside so =
    omega (
      arith,
      length-drop r.place (bits r.octets),
      length-bits r.octets,
      ap length so.of,
      inside,
      so.before,
    )

pub one_more_filled : (octets : List ℕ) (from end at more w n : ℕ) (r next : BitPlace)
    (room eight new : List ℕ) → end ≤ 8 * length octets
    → IsFilledSoFar octets from end at more r room → 0 < more → w ≤ more → w ≤ 56
    → (0 < more - w → w ≡ 56) → number_at w (left r) ≡ Some (n, left next)
    → next ≡ record r { place = r.place + w } → length eight ≡ 8
    → bits eight ≡ bin 64 (n * 2 ^ (64 - w)) → at + 8 ≤ 71
    → new ≡ take at room ++ (eight ++ drop 8 (drop at room))
    → IsFilledSoFar octets from end (at + 7) (more - w) next new
one_more_filled octets from end at more w n r next room eight new inside so some few narrow last
    taken moved size word long is =
    let all = drop from (bits octets) in
    let done = r.place - from in
    let k = (w + 7) / 8 in
    let exact : 8 * at ≡ done = so.whole some in
    let begins : from + done ≡ r.place = omega (arith, so.onward) in
    let here : drop done all ≡ left r =
    drop-drop done from (bits octets)
    ∙ (λ i. drop (begins i) (bits (sym so.of i))) in
    let spelt : take w (drop done all) ≡ bin w n =
    ap (take w) (here ∙ (number_at_is w n (left r) (left next) taken).0)
    ∙ take_at (bin w n) (left next) w (length-bin w n) in
    let there : next.place ≡ r.place + w = ap (λ (p : BitPlace). p.place) moved in
    let longer : done + w ≡ next.place - from = omega (arith, so.onward, there) in
    let own : length (take done all) ≡ done =
    length-take-le done all
    (omega (arith, length-drop from (bits octets), length-bits octets, inside, so.before)) in
    let edge : length (take done all) % 8 ≡ 0 = omega (arith, own, exact) in
    let count : (next.place - from + 7) / 8 ≡ at + k = omega (arith, sym longer, exact) in
    let so_far : (done + 7) / 8 ≡ at = omega (arith, exact) in
    let front : bits (take at room) ≡ take done all =
    ap (λ m. bits (take m room)) (sym so_far) ∙ so.put ∙ filled_whole (take done all) edge in
    let rest = drop 8 (drop at room) in
    let first : length (take at room) ≡ at =
    length-take-le at room (omega (arith, long, so.size)) in
    let begun : take (at + k) new ≡ take at room ++ take k eight =
    ap (take (at + k)) is ∙ take-add at k (take at room ++ (eight ++ rest))
    ∙ (λ i. take_at (take at room) (eight ++ rest) at first i
    ++ take k (drop_at (take at room) (eight ++ rest) at first i))
    ∙ ap (λ xs. take at room ++ xs)
    (take-append-le k eight rest (omega (arith, size, narrow))) in
    record {
      size =
          omega (
            arith,
            ap length is,
            length-append (take at room) (eight ++ rest),
            length-append eight rest,
            length-drop 8 (drop at room),
            length-drop at room,
            first,
            size,
            long,
            so.size,
          );
      of = ap (λ (p : BitPlace). p.octets) moved ∙ so.of;
      onward = omega (arith, so.onward, there);
      before = omega (arith, so.before, there, few);
      whole = λ others. omega (arith, last others, exact, longer);
      put = ap (λ m. bits (take m new)) count ∙ ap bits begun ∙ bits-append (take at room) (take k eight)
          ∙ (λ i. front i ++ first_filled w (64 - w) k n eight (omega (arith, narrow)) narrow refl size word i)
          ∙ sym (filled_behind (take done all) (bin w n) edge)
          ∙ ap (λ xs. filled (take done all ++ xs)) (sym spelt)
          ∙ ap filled (sym (take-add done w all))
          ∙ ap (λ m. filled (take m all)) longer;
    }

pub all_filled : (octets : List ℕ) (from end at more count : ℕ) (r : BitPlace) (room : List ℕ)
    → IsFilledSoFar octets from end at more r room → more ≤ 0 → count ≡ (end - from + 7) / 8
    → bits (take count room) ≡ filled (take (end - from) (drop from (bits octets)))
all_filled octets from end at more count r room so done is =
    let same : r.place - from ≡ end - from = omega (arith, so.before, done) in
    ap (λ m. bits (take m room)) (is ∙ ap (λ m. (m + 7) / 8) (sym same)) ∙ so.put
    ∙ ap (λ m. filled (take m (drop from (bits octets)))) same
