-- What the worked values speak of: keys, stations, moments and entries.
use Rattle.std.specs.Prelude.{ℕ, List, [], ◌∷◌, Option, Some, None, map, pos, codes}
use Rattle.std.specs.declared.cmp.Ordering.{Ordering}
use Rattle.bufr_entries.specs.declared.key.Station.{Station}
use Rattle.bufr_entries.specs.declared.key.Station.TheVariants.{Wmo, Wigos, Mobile}
use Rattle.bufr_entries.specs.declared.key.Moment.{Moment}
use Rattle.bufr_entries.specs.declared.key.Key.{Key}
use Rattle.bufr_entries.specs.declared.entry.Entry.{Entry}

-- the order of each pair
abbrev pub orders : {A : Type 0} → (A → A → Ordering) → List (A × A) → List Ordering
orders cmp pairs = map (λ p. cmp p.0 p.1) pairs

-- each pair swapped
abbrev pub turned : {A : Type 0} → List (A × A) → List (A × A)
turned pairs = map (λ p. (p.1, p.0)) pairs

-- a moment of year, month, day, hour, minute and second
abbrev pub time : ℕ → ℕ → ℕ → ℕ → ℕ → ℕ → Moment
time year month day hour minute second = record {
  year = year;
  month = month;
  day = day;
  hour = hour;
  minute = minute;
  second = second;
}

-- pairs of moments: the first is less in one part, and greater in all parts after it
abbrev pub moments_by_part : List (Moment × Moment)
moments_by_part =
    (time 1 9 9 9 9 9, time 2 0 0 0 0 0) ∷ (time 5 1 9 9 9 9, time 5 2 0 0 0 0)
    ∷ (time 5 5 1 9 9 9, time 5 5 2 0 0 0) ∷ (time 5 5 5 1 9 9, time 5 5 5 2 0 0)
    ∷ (time 5 5 5 5 1 9, time 5 5 5 5 2 0) ∷ (time 5 5 5 5 5 1, time 5 5 5 5 5 2) ∷ []

-- a WMO station of block and number
abbrev pub wmo : ℕ → ℕ → Station
wmo block number = Wmo (pos block) (pos number)

-- a WIGOS station of series, issuer, issue number and local identifier
abbrev pub wigos : ℕ → ℕ → ℕ → List ℕ → Station
wigos series issuer number name = Wigos (pos series) (pos issuer) (pos number) name

-- pairs of stations: the first is less in one part, and greater in all parts after it
abbrev pub stations_by_part : List (Station × Station)
stations_by_part =
    (wmo 9 99, wmo 10 0) ∷ (wmo 5 9, wmo 5 10)
    ∷ (wigos 9 9 9 (codes "9"), wigos 10 0 0 (codes "0"))
    ∷ (wigos 5 9 9 (codes "9"), wigos 5 10 0 (codes "0"))
    ∷ (wigos 5 5 9 (codes "9"), wigos 5 5 10 (codes "0"))
    ∷ (wigos 5 5 5 (codes "A"), wigos 5 5 5 (codes "AB"))
    ∷ (Mobile (codes "AZ"), Mobile (codes "B")) ∷ []

-- stations of two kinds: the earlier kind has greater parts
abbrev pub stations_by_kind : List (Station × Station)
stations_by_kind =
    (wmo 9 9, wigos 0 0 0 []) ∷ (wmo 9 9, Mobile [])
    ∷ (wigos 9 9 9 (codes "Z"), Mobile []) ∷ []

-- a key of centre, category, two sub-categories, station number, hour and sub-centre
abbrev pub key_of : ℕ → ℕ → ℕ → ℕ → ℕ → ℕ → ℕ → Key
key_of centre category international local_category number hour sub_centre = record {
  centre = centre;
  category = category;
  international = international;
  local_category = local_category;
  station = wmo 10 number;
  moment = time 2024 1 15 hour 0 0;
  sub_centre = sub_centre;
}

-- pairs of keys: the first is less in one part, and greater in all parts after it
abbrev pub keys_by_part : List (Key × Key)
keys_by_part =
    (key_of 1 9 9 9 9 9 9, key_of 2 0 0 0 0 0 0) ∷ (key_of 5 1 9 9 9 9 9, key_of 5 2 0 0 0 0 0)
    ∷ (key_of 5 5 1 9 9 9 9, key_of 5 5 2 0 0 0 0) ∷ (key_of 5 5 5 1 9 9 9, key_of 5 5 5 2 0 0 0)
    ∷ (key_of 5 5 5 5 1 9 9, key_of 5 5 5 5 2 0 0) ∷ (key_of 5 5 5 5 5 1 9, key_of 5 5 5 5 5 2 0)
    ∷ (key_of 5 5 5 5 5 5 1, key_of 5 5 5 5 5 5 2) ∷ []

-- an entry with the key of station n, or without a key
abbrev pub entry : Option ℕ → ℕ → List ℕ → Entry
entry (Some n) update octets =
    record { key = Some (key_of 98 2 0 37 n 12 0); update = update; bytes = octets }
entry None update octets = record { key = None; update = update; bytes = octets }

-- unordered entries: three of station 7, one of station 3, three without a key
abbrev pub gathered : List Entry
gathered =
    entry None 1 (codes "B") ∷ entry (Some 7) 9 (codes "Z") ∷ entry (Some 3) 0 (codes "C")
    ∷ entry (Some 7) 10 (codes "AB") ∷ entry None 0 (codes "A") ∷ entry (Some 7) 10 (codes "A")
    ∷ entry None 2 (codes "B") ∷ []

-- what is kept of `gathered`
abbrev pub held : List Entry
held =
    entry (Some 3) 0 (codes "C") ∷ entry (Some 7) 10 (codes "AB")
    ∷ entry None 0 (codes "A") ∷ entry None 2 (codes "B") ∷ []
