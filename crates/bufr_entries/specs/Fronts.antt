-- Fronts of keys, which marks compare before the keys.
use Rattle.std.specs.Prelude.{ℕ, zero, suc, List, [], ◌∷◌}
use Rattle.std.specs.Ordering.{nat_cmp, ordering_then}
use Rattle.std.specs.declared.cmp.Ordering.{Ordering}
use Rattle.std.specs.declared.cmp.Ordering.TheVariants.{Less, Equal, Greater}
use Rattle.bufr_entries.specs.declared.key.Station.{Station}
use Rattle.bufr_entries.specs.declared.key.Station.TheVariants as stations
use Rattle.bufr_entries.specs.declared.key.Key.{Key}
use Rattle.bufr_entries.specs.declared.key_start.KeyHead.{KeyHead}
use Rattle.bufr_entries.specs.declared.key_start.StationStart.{StationStart}
use Rattle.bufr_entries.specs.declared.key_start.StationStart.TheVariants.{Wmo, Mobile, Open}
use Rattle.bufr_entries.specs.declared.key_start.KeyStart.{KeyStart}
use Rattle.bufr_entries.specs.KeyOrders.{octets_cmp}

-- ---- the order of fronts

-- by centre and categories
abbrev pub head_cmp : KeyHead → KeyHead → Ordering
head_cmp a b =
    ordering_then (nat_cmp a.centre b.centre) (ordering_then (nat_cmp a.category b.category)
    (ordering_then (nat_cmp a.international b.international)
    (nat_cmp a.local_category b.local_category)))

-- WMO stations come before mobile names, and names go by their first octets; `Equal` leaves the
-- order open
abbrev pub place_cmp : StationStart → StationStart → Ordering
place_cmp Wmo Wmo = Equal
place_cmp Wmo (Mobile _) = Less
place_cmp Wmo Open = Equal
place_cmp (Mobile _) Wmo = Greater
place_cmp (Mobile a) (Mobile b) = octets_cmp a b
place_cmp (Mobile _) Open = Equal
place_cmp Open p = Equal

-- by centre and categories, and then by station
abbrev pub front_cmp : KeyStart → KeyStart → Ordering
front_cmp a b = ordering_then (head_cmp a.head b.head) (place_cmp a.place b.place)

-- ---- the front of a key

-- the first n octets, filled with zeros
abbrev pub first_octets : ℕ → List ℕ → List ℕ
first_octets zero xs = []
first_octets (suc n) [] = 0 ∷ first_octets n []
first_octets (suc n) (x ∷ xs) = x ∷ first_octets n xs

-- the station of a front: the first eight octets of a mobile name, and no number
abbrev pub place_of_station : Station → StationStart
place_of_station (stations.Wmo _ _) = Wmo
place_of_station (stations.Wigos _ _ _ _) = Open
place_of_station (stations.Mobile name) = Mobile (first_octets 8 name)

-- the centre and categories of a key
abbrev pub head_of_key : Key → KeyHead
head_of_key k = record {
  centre = k.centre;
  category = k.category;
  international = k.international;
  local_category = k.local_category;
}

-- the front of a key
abbrev pub front_of_key : Key → KeyStart
front_of_key k = record { head = head_of_key k; place = place_of_station k.station }
