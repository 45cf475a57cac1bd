-- The derived orders are those of the definitions, and clones equal their sources: for
-- `keys_in_order` and look-ups by keys.
use Rattle.std.proofs.Common.{◌≡◌, ap, ◌∙◌, refl}
use Rattle.std.specs.declared.cmp.Ordering.{Ordering}
use Rattle.bufr_entries.specs.KeyOrders.{station_cmp, key_cmp}
use Rattle.bufr_entries.specs.declared.key.Key.{Key}
use Rattle.bufr_entries.specs.declared.key.Station.{Station}
use Rattle.bufr_entries.specs.declared.key.Station.TheVariants.{Wmo, Wigos, Mobile}
use Rattle.bufr_entries.specs.contracts.key.StationOrd.TheImpl as station_ord
use Rattle.bufr_entries.specs.contracts.key.KeyOrd.TheImpl as key_ord
use Rattle.bufr_entries.specs.contracts.key.StationClone.TheImpl as station_clone

-- the derived order of keys
abbrev pub key_order : Key → Key → Ordering
key_order = (key_ord.ghosts).cmp

pub stations_are : (a b : Station) → (station_ord.ghosts).cmp a b ≡ station_cmp a b
stations_are (Wmo b n) (Wmo c m) = refl
stations_are (Wmo b n) (Wigos s i m a) = refl
stations_are (Wmo b n) (Mobile a) = refl
stations_are (Wigos s i n a) (Wmo b m) = refl
stations_are (Wigos s i n a) (Wigos t j m b) = refl
stations_are (Wigos s i n a) (Mobile b) = refl
stations_are (Mobile a) (Wmo b n) = refl
stations_are (Mobile a) (Wigos s i n b) = refl
stations_are (Mobile a) (Mobile b) = refl

pub keys_are : (a b : Key) → key_order a b ≡ key_cmp a b
keys_are a b = rw (stations_are a.station b.station) refl

pub same_stations : (a b : Station) → (station_clone.ghosts).is_clone a b → b ≡ a
same_stations (Wmo b n) (Wmo c m) h = ap (λ z. Wmo z m) h.0 ∙ ap (λ z. Wmo b z) h.1
same_stations (Wmo b n) (Wigos s i m a) h = absurd h
same_stations (Wmo b n) (Mobile a) h = absurd h
same_stations (Wigos s i n a) (Wmo b m) h = absurd h
same_stations (Wigos s i n a) (Wigos t j m b) h =
    ap (λ z. Wigos z j m b) h.0 ∙ ap (λ z. Wigos s z m b) h.1.0
    ∙ ap (λ z. Wigos s i z b) h.1.1.0 ∙ ap (λ z. Wigos s i n z) h.1.1.1
same_stations (Wigos s i n a) (Mobile b) h = absurd h
same_stations (Mobile a) (Wmo b n) h = absurd h
same_stations (Mobile a) (Wigos s i n b) h = absurd h
same_stations (Mobile a) (Mobile b) h = ap Mobile h
