-- Fronts that decide an order agree with the keys: for `PackedSlot`.
use Rattle.std.proofs.Common.{◌≡◌, ℕ, zero, suc, List, [], ◌∷◌, pos}
use Rattle.std.proofs.Common.{refl, sym, ap, arith, ◌∙◌}
use Rattle.std.proofs.Common.{◌<◌, ◌<ℤ◌}
use Rattle.std.proofs.Math.Facts.{yes_ltb}
use Rattle.std.proofs.lemmas.Cmp.{ranked}
use Rattle.std.specs.Cmp.{nat_cmp_is, int_cmp_is}
use Rattle.std.specs.Ordering.{MatchOrdering, nat_cmp, int_cmp, ordering_then}
use Rattle.std.specs.declared.cmp.Ordering.{Ordering}
use Rattle.std.specs.declared.cmp.Ordering.TheVariants.{Less, Equal, Greater}
use Rattle.bufr_entries.specs.KeyOrders.{octets_cmp, station_cmp}
use Rattle.bufr_entries.specs.Fronts.{place_cmp, front_cmp, first_octets, place_of_station, front_of_key}
use Rattle.bufr_entries.specs.DerivedOrders.{key_order, stations_are}
use Rattle.bufr_entries.specs.declared.key.Station.{Station}
use Rattle.bufr_entries.specs.declared.key.Station.TheVariants.{Wmo, Wigos, Mobile}
use Rattle.bufr_entries.specs.declared.key.Key.{Key}

-- ---- orders in turn

behind : (o p q : Ordering) → ordering_then p q ≡ q
    → ordering_then (ordering_then o p) (ordering_then o q) ≡ ordering_then o q
behind Less p q h = refl
behind Equal p q h = h
behind Greater p q h = refl

pub in_turn : (o p q : Ordering)
    → ordering_then (ordering_then o p) q ≡ ordering_then o (ordering_then p q)
in_turn Less p q = refl
in_turn Equal p q = refl
in_turn Greater p q = refl

four_in_turn : (a b c d q : Ordering)
    → ordering_then (ordering_then a (ordering_then b (ordering_then c d))) q
    ≡ ordering_then a (ordering_then b (ordering_then c (ordering_then d q)))
four_in_turn a b c d q =
    in_turn a _ q
    ∙ ap (ordering_then a) (in_turn b _ q ∙ ap (ordering_then b) (in_turn c d q))

behind_four : (a b c d p q : Ordering) → ordering_then p q ≡ q
    → ordering_then
    (ordering_then (ordering_then a (ordering_then b (ordering_then c d))) p)
    (ordering_then a (ordering_then b (ordering_then c (ordering_then d q))))
    ≡ ordering_then a (ordering_then b (ordering_then c (ordering_then d q)))
behind_four a b c d p q h =
    rw (sym (four_in_turn a b c d q))
    (behind (ordering_then a (ordering_then b (ordering_then c d))) p q h)

agree_before : (p q r : Ordering) → ordering_then p q ≡ q
    → ordering_then p (ordering_then q r) ≡ ordering_then q r
agree_before Less q r h = ap (λ z. ordering_then z r) h
agree_before Equal q r h = refl
agree_before Greater q r h = ap (λ z. ordering_then z r) h

-- ---- names

zero_first : (n : ℕ) → nat_cmp 0 (suc n) ≡ Less
zero_first n = sym (nat_cmp_is 0 (suc n) Less (omega arith))

zero_last : (n : ℕ) → nat_cmp (suc n) 0 ≡ Greater
zero_last n = sym (nat_cmp_is (suc n) 0 Greater (omega arith))

from_equal : (o : Ordering) → ordering_then o Equal ≡ Equal → ordering_then o Less ≡ Less
from_equal Less h = refl
from_equal Equal h = refl
from_equal Greater h = cc

to_equal : (o : Ordering) → ordering_then o Equal ≡ Equal → ordering_then o Greater ≡ Greater
to_equal Less h = cc
to_equal Equal h = refl
to_equal Greater h = refl

octets_agree : (n : ℕ) (xs ys : List ℕ)
    → ordering_then (octets_cmp (first_octets n xs) (first_octets n ys)) (octets_cmp xs ys)
    ≡ octets_cmp xs ys
octets_agree zero xs ys = refl
octets_agree (suc n) [] [] = octets_agree n [] []
octets_agree (suc n) [] (zero ∷ []) = from_equal _ (octets_agree n [] [])
octets_agree (suc n) [] (zero ∷ y ∷ ys) = octets_agree n [] (y ∷ ys)
octets_agree (suc n) [] (suc y ∷ ys) = rw (zero_first y) refl
octets_agree (suc n) (zero ∷ []) [] = to_equal _ (octets_agree n [] [])
octets_agree (suc n) (zero ∷ x ∷ xs) [] = octets_agree n (x ∷ xs) []
octets_agree (suc n) (suc x ∷ xs) [] = rw (zero_last x) refl
octets_agree (suc n) (x ∷ xs) (y ∷ ys) =
    behind (nat_cmp x y) _ _ (octets_agree n xs ys)

-- ---- stations

signed_match : (a b : ℕ) (r : Ordering) → MatchOrdering r (a < b) (a ≡ b) (b < a)
    → MatchOrdering r (pos a <ℤ pos b) (pos a ≡ pos b) (pos b <ℤ pos a)
signed_match a b Less h = record { lt = yes_ltb h }
signed_match a b Equal h = ap pos h
signed_match a b Greater h = record { lt = yes_ltb h }

pub same_signed : (a b : ℕ) → int_cmp (pos a) (pos b) ≡ nat_cmp a b
same_signed a b =
    sym (int_cmp_is (pos a) (pos b) (nat_cmp a b)
    (signed_match a b (nat_cmp a b) (ranked a b (nat_cmp a b) refl)))

places_agree : (s t : Station) (o : Ordering)
    → ordering_then (place_cmp (place_of_station s) (place_of_station t))
    (ordering_then (station_cmp s t) o)
    ≡ ordering_then (station_cmp s t) o
places_agree (Wmo b n) (Wmo c k) o = refl
places_agree (Wmo b n) (Wigos s i k a) o = refl
places_agree (Wmo b n) (Mobile a) o = refl
places_agree (Wigos s i n a) t o = refl
places_agree (Mobile a) (Wmo b n) o = refl
places_agree (Mobile a) (Wigos s i n b) o = refl
places_agree (Mobile a) (Mobile b) o =
    agree_before _ (octets_cmp a b) o (octets_agree 8 a b)

pub keys_agree : (a b : Key)
    → ordering_then (front_cmp (front_of_key a) (front_of_key b)) (key_order a b) ≡ key_order a b
keys_agree a b =
    rw (stations_are a.station b.station)
    (behind_four (nat_cmp a.centre b.centre) (nat_cmp a.category b.category)
    (nat_cmp a.international b.international) (nat_cmp a.local_category b.local_category) _ _
    (places_agree a.station b.station _))

pub order_of_starts : (a b : Key) (o : Ordering) → ordering_then o (key_order a b) ≡ o
    → o ≡ front_cmp (front_of_key a) (front_of_key b) → o ≡ key_order a b
order_of_starts a b o ends is =
    sym ends ∙ ap (λ p. ordering_then p (key_order a b)) is ∙ keys_agree a b
