-- The order of keys, and of their parts.
use Rattle.std.specs.Prelude.{ℕ, List}
use Rattle.std.specs.Cmp.Lexicographic.{slice_cmp}
use Rattle.std.specs.Ordering.{nat_cmp, int_cmp, ordering_then}
use Rattle.std.specs.declared.cmp.Ordering.{Ordering}
use Rattle.std.specs.declared.cmp.Ordering.TheVariants.{Less, Greater}
use Rattle.bufr_entries.specs.declared.key.Station.{Station}
use Rattle.bufr_entries.specs.declared.key.Station.TheVariants.{Wmo, Wigos, Mobile}
use Rattle.bufr_entries.specs.declared.key.Moment.{Moment}
use Rattle.bufr_entries.specs.declared.key.Key.{Key}

-- octet by octet; a list comes before longer ones that begin with it
abbrev pub octets_cmp : List ℕ → List ℕ → Ordering
octets_cmp a b = slice_cmp nat_cmp a b

-- WMO stations (FM 94 BUFR, Table B 001001 and 001002), then WIGOS identifiers (001125 to 001128),
-- then ship or mobile identifiers (001011); two of one kind by parts, and names by octets
abbrev pub station_cmp : Station → Station → Ordering
station_cmp (Wmo b n) (Wmo c m) = ordering_then (int_cmp b c) (int_cmp n m)
station_cmp (Wmo _ _) (Wigos _ _ _ _) = Less
station_cmp (Wmo _ _) (Mobile _) = Less
station_cmp (Wigos _ _ _ _) (Wmo _ _) = Greater
station_cmp (Wigos s i n a) (Wigos t j m b) =
    ordering_then (int_cmp s t) (ordering_then (int_cmp i j)
    (ordering_then (int_cmp n m) (octets_cmp a b)))
station_cmp (Wigos _ _ _ _) (Mobile _) = Less
station_cmp (Mobile _) (Wmo _ _) = Greater
station_cmp (Mobile _) (Wigos _ _ _ _) = Greater
station_cmp (Mobile a) (Mobile b) = octets_cmp a b

-- by year, month, day, hour, minute, second (Table B 004001 to 004006)
abbrev pub moment_cmp : Moment → Moment → Ordering
moment_cmp a b =
    ordering_then (nat_cmp a.year b.year) (ordering_then (nat_cmp a.month b.month)
    (ordering_then (nat_cmp a.day b.day) (ordering_then (nat_cmp a.hour b.hour)
    (ordering_then (nat_cmp a.minute b.minute) (nat_cmp a.second b.second)))))

-- by originating centre (FM 94 BUFR edition 4, section 1, octets 5 and 6), data category,
-- international and local sub-category (octets 11 to 13), station, moment, originating sub-centre
-- (octets 7 and 8)
abbrev pub key_cmp : Key → Key → Ordering
key_cmp a b =
    ordering_then (nat_cmp a.centre b.centre) (ordering_then (nat_cmp a.category b.category)
    (ordering_then (nat_cmp a.international b.international)
    (ordering_then (nat_cmp a.local_category b.local_category)
    (ordering_then (station_cmp a.station b.station)
    (ordering_then (moment_cmp a.moment b.moment) (nat_cmp a.sub_centre b.sub_centre))))))
