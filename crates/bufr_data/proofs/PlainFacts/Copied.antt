-- Bits that are copied or lent.
use Rattle.std.proofs.Common.{◌≡◌, ℕ, zero, suc, ◌+◌, ◌-◌, ◌*◌, ◌/◌, ◌%◌, ◌^◌, ◌<◌, ◌≤◌, Bool}
use Rattle.std.proofs.Common.{false, List, [], ◌∷◌, ◌++◌, length, take, replicate, subst}
use Rattle.std.proofs.Common.{drop, Some, Result, Ok, Err, refl, sym, ap, ◌∙◌, arith}
use Rattle.std.proofs.Common.{append_assoc, append-nil, length-append}
use Rattle.std.specs.Prelude.{OnOk}
use Rattle.std.proofs.lemmas.Nat.{shr-shr}
use Rattle.std.proofs.lemmas.List.{length-drop, length-replicate, length-take-le, drop-drop}
use Rattle.std.proofs.lemmas.List.{take-append-drop, take_at}
use Rattle.std.proofs.Math.Seq.{drop-append_seam, take-add}
use Rattle.bufr_bits.specs.Bits.{bin, bits, number, number_at}
use Rattle.bufr_bits.specs.BitLaws.{length-bin, number-bin, number_at_is, number_below}
use Rattle.bufr_bits.specs.BitLaws.{number_same, small_mod}
use Rattle.bufr_bits.specs.Ends.{BitPlace, left}
use Rattle.bufr_bits.specs.OctetLaws.{length-bits, bits-append}
use Rattle.bufr_data.specs.Subsets.{filled}

-- the bits from `from` to the reader's place are put
pub record IsPutSoFar (octets : List ℕ) (from end : ℕ) (old : List Bool) (r : BitPlace)
    (new : List Bool) : Type 0 where
  pub of : r.octets ≡ octets
  pub onward : from ≤ r.place
  pub before : r.place ≤ end
  pub put : new ≡ old ++ take (r.place - from) (drop from (bits octets))

pub none_put : (octets : List ℕ) (from end : ℕ) (old : List Bool) (r : BitPlace) → from ≤ end
    → r ≡ record { octets = octets; place = from } → IsPutSoFar octets from end old r old
none_put octets from end old r onward at =
    let of : r.octets ≡ octets = ap (λ (p : BitPlace). p.octets) at in
    let here : r.place ≡ from = ap (λ (p : BitPlace). p.place) at in
    let none : r.place - from ≡ 0 = omega (arith, here) in
    record {
      of = of;
      onward = omega (arith, here);
      before = omega (arith, here, onward);
      put = sym (ap (λ n. old ++ take n (drop from (bits octets))) none ∙ append-nil old);
    }

pub left_long : (octets : List ℕ) (from end : ℕ) (old : List Bool) (r : BitPlace)
    (new : List Bool) → end ≤ 8 * length octets → IsPutSoFar octets from end old r new
    → end - r.place ≤ length (left r)
left_long octets from end old r new inside so =
    omega (
      arith,
      length-drop r.place (bits r.octets),
      length-bits r.octets,
      ap length so.of,
      inside,
      so.before,
    )

pub one_more_put : (octets : List ℕ) (from end w n : ℕ) (old mid new : List Bool)
    (r next : BitPlace) → IsPutSoFar octets from end old r mid → r.place + w ≤ end
    → number_at w (left r) ≡ Some (n, left next) → next ≡ record r { place = r.place + w }
    → new ≡ mid ++ bin w n → IsPutSoFar octets from end old next new
one_more_put octets from end w n old mid new r next so room taken moved put =
    let all = drop from (bits octets) in
    let count = r.place - from in
    let begins : from + count ≡ r.place = omega (arith, so.onward) in
    let here : drop count all ≡ left r =
    drop-drop count from (bits octets)
    ∙ (λ i. drop (begins i) (bits (sym so.of i))) in
    let spelt : take w (drop count all) ≡ bin w n =
    ap (take w) (here ∙ (number_at_is w n (left r) (left next) taken).0)
    ∙ take_at (bin w n) (left next) w (length-bin w n) in
    let there : next.place ≡ r.place + w = ap (λ (p : BitPlace). p.place) moved in
    let longer : count + w ≡ next.place - from = omega (arith, so.onward, there) in
    record {
      of = ap (λ (p : BitPlace). p.octets) moved ∙ so.of;
      onward = omega (arith, so.onward, there);
      before = omega (arith, room, there);
      put = put ∙ ap (λ xs. xs ++ bin w n) so.put
          ∙ append_assoc old (take count all) (bin w n)
          ∙ ap (λ xs. old ++ (take count all ++ xs)) (sym spelt)
          ∙ ap (λ xs. old ++ xs) (sym (take-add count w all))
          ∙ ap (λ n. old ++ take n all) longer;
    }

pub all_put : (octets : List ℕ) (from end : ℕ) (old : List Bool) (r : BitPlace)
    (new : List Bool) → IsPutSoFar octets from end old r new → end ≤ r.place
    → new ≡ old ++ take (end - from) (drop from (bits octets))
all_put octets from end old r new so done =
    let same : r.place ≡ end = omega (arith, so.before, done) in
    so.put ∙ ap (λ n. old ++ take (n - from) (drop from (bits octets))) same

pub bits_there : (n k : ℕ) (octets : List ℕ) → n + k ≤ length octets
    → bits (take k (drop n octets)) ≡ take (8 * k) (drop (8 * n) (bits octets))
bits_there n k octets room =
    let behind = drop n octets in
    let long : k ≤ length behind = omega (arith, length-drop n octets) in
    let fore : length (bits (take n octets)) ≡ 8 * n =
    length-bits (take n octets) ∙ ap (λ z. 8 * z) (length-take-le n octets (omega arith)) in
    let own : length (bits (take k behind)) ≡ 8 * k =
    length-bits (take k behind) ∙ ap (λ z. 8 * z) (length-take-le k behind long) in
    let all : bits octets ≡ bits (take n octets) ++ bits behind =
    ap bits (sym (take-append-drop n octets)) ∙ bits-append (take n octets) behind in
    let there : drop (8 * n) (bits octets) ≡ bits behind =
    (λ i. drop (sym fore i) (all i)) ∙ drop-append_seam (bits (take n octets)) (bits behind) in
    let parted : bits behind ≡ bits (take k behind) ++ bits (drop k behind) =
    ap bits (sym (take-append-drop k behind)) ∙ bits-append (take k behind) (drop k behind) in
    sym (ap (take (8 * k)) (there ∙ parted) ∙ take_at (bits (take k behind)) _ (8 * k) own)

pub edge_put : (octets : List ℕ) (from end : ℕ) (old mid new : List Bool) → from ≤ end
    → end ≤ 8 * length octets → from % 8 ≡ 0
    → mid ≡ old ++ bits (take (end / 8 - from / 8) (drop (from / 8) octets))
    → new ≡ mid ++ take (end - (end - end % 8)) (drop (end - end % 8) (bits octets))
    → new ≡ old ++ take (end - from) (drop from (bits octets))
edge_put octets from end old mid new onward inside edge whole then =
    let first = from / 8 in
    let k = end / 8 - first in
    let last = end - end % 8 in
    let few = end - last in
    let all = drop from (bits octets) in
    let begins : 8 * first ≡ from = omega (arith, edge) in
    let fits : first + k ≤ length octets = omega (arith, edge, onward, inside) in
    let sum : from + 8 * k ≡ last = omega (arith, edge, onward) in
    let count : 8 * k + few ≡ end - from = omega (arith, edge, onward) in
    let here : bits (take k (drop first octets)) ≡ take (8 * k) all =
    bits_there first k octets fits ∙ ap (λ z. take (8 * k) (drop z (bits octets))) begins in
    let behind : drop (8 * k) all ≡ drop last (bits octets) =
    drop-drop (8 * k) from (bits octets) ∙ ap (λ z. drop z (bits octets)) sum in
    then ∙ ap (λ xs. xs ++ take few (drop last (bits octets))) whole
    ∙ append_assoc old _ _
    ∙ (λ i. old ++ (here i ++ take few (sym behind i)))
    ∙ ap (λ xs. old ++ xs) (sym (take-add (8 * k) few all))
    ∙ ap (λ z. old ++ take z all) count

pub bits_parted : (t v w n : ℕ) → t ≡ v + w → bin t n ≡ bin v (n / 2 ^ w) ++ bin w n
unfolding bin
bits_parted t zero w n e = ap (λ k. bin k n) (omega (arith, e))
bits_parted zero (suc v) w n e = absurd (omega (arith, e))
bits_parted (suc t) (suc v) w n e =
    let turned : w + v ≡ t = omega (arith, e) in
    let same : n / 2 ^ w / 2 ^ v ≡ n / 2 ^ t = shr-shr n w v ∙ ap (λ k. n / 2 ^ k) turned in
    rw (same, bits_parted t v w n (omega (arith, e))) refl

pub low_bits : (n : ℕ) → bin 8 (n % 256) ≡ bin 8 n
low_bits n =
    number_same (bin 8 (n % 256)) (bin 8 n) (length-bin 8 (n % 256) ∙ sym (length-bin 8 n))
    (number-bin 8 (n % 256) ∙ omega arith ∙ sym (number-bin 8 n))

pub octet_more : (w n : ℕ) (octets : List ℕ) → bits octets ≡ bin w n
    → bits (n / 2 ^ w % 256 ∷ octets) ≡ bin (8 + w) n
octet_more w n octets e =
    (λ i. low_bits (n / 2 ^ w) i ++ e i) ∙ sym (bits_parted (8 + w) 8 w n refl)

pub seven_octets : (w n : ℕ) (octets : List ℕ) → w ≤ 56 → 56 ≤ w
    → octets ≡ n / 2 ^ 56 % 256 ∷ n / 2 ^ 48 % 256 ∷ n / 2 ^ 40 % 256 ∷ n / 2 ^ 32 % 256
    ∷ n / 2 ^ 24 % 256 ∷ n / 2 ^ 16 % 256 ∷ n / 2 ^ 8 % 256 ∷ n % 256 ∷ []
    → bits (take 7 (drop 1 octets)) ≡ bin w n
seven_octets w n octets most least is =
    let wide : 56 ≡ w = omega (arith, most, least) in
    let one = n % 256 ∷ [] in
    let two = n / 2 ^ 8 % 256 ∷ one in
    let three = n / 2 ^ 16 % 256 ∷ two in
    let four = n / 2 ^ 24 % 256 ∷ three in
    let five = n / 2 ^ 32 % 256 ∷ four in
    let six = n / 2 ^ 40 % 256 ∷ five in
    ap (λ os. bits (take 7 (drop 1 os))) is
    ∙ octet_more 48 n six (octet_more 40 n five (octet_more 32 n four (octet_more 24 n three
    (octet_more 16 n two (octet_more 8 n one (append-nil (bin 8 (n % 256)) ∙ low_bits n))))))
    ∙ ap (λ k. bin k n) wide

pub ok_then : {A E P Q : Type 0} (r : Result A E) → (P → Q) → OnOk r P → OnOk r Q
ok_then (Ok x) f p = f p
ok_then (Err e) f p = p

pub zeros : (n : ℕ) → number (replicate n false) ≡ 0
unfolding number
zeros zero = refl
zeros (suc n) = omega (arith, zeros n)

bin_zero : (w : ℕ) → bin w 0 ≡ replicate w false
bin_zero w =
    let below =
    subst (λ k. number (bin w 0) < 2 ^ k) (length-bin w 0) (number_below (bin w 0)) in
    number_same (bin w 0) (replicate w false) (length-bin w 0 ∙ sym (length-replicate w false))
    (number-bin w 0 ∙ small_mod 0 (2 ^ w) (omega (arith, below)) ∙ sym (zeros w))

fore_filled : (count free : ℕ) (front rest : List Bool) → count ≤ length front
    → free ≡ (8 - count % 8) % 8 → drop count front ≡ bin free 0 ++ rest
    → take (count + free) front ≡ filled (take count front)
fore_filled count free front rest room is behind =
    let long : length (take count front) ≡ count = length-take-le count front room in
    let own = take count front ++ bin free 0 in
    let parted : front ≡ own ++ rest =
    sym (take-append-drop count front) ∙ ap (λ xs. take count front ++ xs) behind
    ∙ sym (append_assoc (take count front) (bin free 0) rest) in
    let size : length own ≡ count + free =
    length-append (take count front) (bin free 0) ∙ (λ i. long i + length-bin free 0 i) in
    let few : free ≡ (8 - length (take count front) % 8) % 8 =
    is ∙ ap (λ z. (8 - z % 8) % 8) (sym long) in
    ap (take (count + free)) parted ∙ take_at own rest (count + free) size
    ∙ ap (λ xs. take count front ++ xs) (bin_zero free ∙ ap (λ z. replicate z false) few)

pub lent_there : (octets : List ℕ) (from end n : ℕ) (rest : List Bool) → from ≤ end
    → end ≤ 8 * length octets → from % 8 ≡ 0 → n ≡ 0
    → number_at ((8 - end % 8) % 8) (drop end (bits octets)) ≡ Some (n, rest)
    → bits (take ((end + (8 - end % 8) % 8) / 8 - from / 8) (drop (from / 8) octets))
    ≡ filled (take (end - from) (drop from (bits octets)))
lent_there octets from end n rest onward inside edge none taken =
    let free = (8 - end % 8) % 8 in
    let first = from / 8 in
    let k = (end + free) / 8 - first in
    let count = end - from in
    let front = drop from (bits octets) in
    let is : drop end (bits octets) ≡ bin free 0 ++ rest =
    (number_at_is free n (drop end (bits octets)) rest taken).0
    ∙ ap (λ z. bin free z ++ rest) none in
    let room : end + free ≤ 8 * length octets = omega (
      arith,
      ap length is,
      length-drop end (bits octets),
      length-bits octets,
      length-append (bin free 0) rest,
      length-bin free 0,
      inside,
    ) in
    let whole : 8 * k ≡ count + free = omega (arith, edge, onward) in
    let begins : 8 * first ≡ from = omega (arith, edge) in
    let fits : first + k ≤ length octets = omega (arith, edge, onward, room) in
    let long : count ≤ length front =
    omega (arith, length-drop from (bits octets), length-bits octets, onward, inside) in
    let few : free ≡ (8 - count % 8) % 8 = omega (arith, edge, onward) in
    let sum : from + count ≡ end = omega (arith, onward) in
    bits_there first k octets fits ∙ (λ i. take (whole i) (drop (begins i) (bits octets)))
    ∙ fore_filled count free front rest long few
    (drop-drop count from (bits octets) ∙ ap (λ z. drop z (bits octets)) sum ∙ is)
