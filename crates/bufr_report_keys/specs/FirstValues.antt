-- The first values of the elements of keys.
use Rattle.std.specs.Prelude.{ℕ, ◌==◌, Bool, true, false, List, [], ◌∷◌, Option, Some, None, ℤ, pos}
use Rattle.std.specs.Option.{option_map, option_or, option_flatten}
use Rattle.jiff.specs.Words.{days_in_month}
use Rattle.bufr_fields.specs.declared.field.Field.{Field}
use Rattle.bufr_data.specs.declared.short.ShortNumber.{ShortNumber}
use Rattle.bufr_entries.specs.declared.key.Station.{Station}
use Rattle.bufr_entries.specs.declared.key.Station.TheVariants.{Wmo, Wigos, Mobile}
use Rattle.bufr_entries.specs.declared.key.Moment.{Moment}
use Rattle.bufr_entries.specs.declared.key.Key.{Key}
use Rattle.bufr_message.specs.declared.report.ReportHead.{ReportHead}
use Rattle.bufr_report_keys.specs.declared.elements.TheConstants.{BLOCK_NUMBER, STATION_NUMBER}
use Rattle.bufr_report_keys.specs.declared.elements.TheConstants.{MOBILE_IDENTIFIER, WIGOS_SERIES}
use Rattle.bufr_report_keys.specs.declared.elements.TheConstants.{WIGOS_ISSUER, WIGOS_ISSUE_NUMBER}
use Rattle.bufr_report_keys.specs.declared.elements.TheConstants.{WIGOS_LOCAL_IDENTIFIER, YEAR}
use Rattle.bufr_report_keys.specs.declared.elements.TheConstants.{MONTH, DAY, HOUR, MINUTE, SECOND}
use Rattle.bufr_report_keys.specs.declared.first_values.FirstValues.{FirstValues}
use Rattle.bufr_report_keys.specs.Usable.{◌>>=◌, usable_number, usable_text, first_field}
use Rattle.bufr_report_keys.specs.Keys.{or_else, from_to, greatest_year, sixtieth, key_with}

-- the number of the first field of an element, or that it is unusable; none without such a field
abbrev pub first_number : ℕ → List Field → Option (Option ℤ)
first_number d fields = option_map usable_number (first_field d fields)

-- the text of the first field of element 0 XX YYY, or that it is unusable; none without such a
-- field
abbrev pub first_text : ℕ → List Field → Option (Option (List ℕ))
first_text d fields = option_map usable_text (first_field d fields)

-- the first values of the 13 elements (Table B 001001, 001002, 001011, 001125 to 001128, 004001 to
-- 004006)
abbrev pub first_values : List Field → FirstValues
first_values fields = record {
  block = first_number BLOCK_NUMBER fields;
  station = first_number STATION_NUMBER fields;
  mobile = first_text MOBILE_IDENTIFIER fields;
  series = first_number WIGOS_SERIES fields;
  issuer = first_number WIGOS_ISSUER fields;
  issue = first_number WIGOS_ISSUE_NUMBER fields;
  local = first_text WIGOS_LOCAL_IDENTIFIER fields;
  year = first_number YEAR fields;
  month = first_number MONTH fields;
  day = first_number DAY fields;
  hour = first_number HOUR fields;
  minute = first_number MINUTE fields;
  second = first_number SECOND fields;
}

-- ---- one more field

-- an element's value after one more field: the field is of the element or not, and has value `said`
abbrev pub known : {A : Type 0} → Bool → Option A → Option A → Option A
known true before said = option_or before said
known false before said = before

-- its number, if it is of this element
abbrev pub known_number : ℕ → Field → Option (Option ℤ) → Option (Option ℤ)
known_number d f before = known (f.fxy == d) before (Some (usable_number f))

-- an element's text after one more field
abbrev pub known_text : ℕ → Field → Option (Option (List ℕ)) → Option (Option (List ℕ))
known_text d f before = known (f.fxy == d) before (Some (usable_text f))

-- all values after one more field
abbrev pub noted : Field → FirstValues → FirstValues
noted f values = record {
  block = known_number BLOCK_NUMBER f values.block;
  station = known_number STATION_NUMBER f values.station;
  mobile = known_text MOBILE_IDENTIFIER f values.mobile;
  series = known_number WIGOS_SERIES f values.series;
  issuer = known_number WIGOS_ISSUER f values.issuer;
  issue = known_number WIGOS_ISSUE_NUMBER f values.issue;
  local = known_text WIGOS_LOCAL_IDENTIFIER f values.local;
  year = known_number YEAR f values.year;
  month = known_number MONTH f values.month;
  day = known_number DAY f values.day;
  hour = known_number HOUR f values.hour;
  minute = known_number MINUTE f values.minute;
  second = known_number SECOND f values.second;
}

-- all values after a field of element d, which has no text
abbrev pub numbered : ℕ → Option (Option ℤ) → FirstValues → FirstValues
numbered d said values = record values {
  block = known (d == BLOCK_NUMBER) values.block said;
  station = known (d == STATION_NUMBER) values.station said;
  series = known (d == WIGOS_SERIES) values.series said;
  issuer = known (d == WIGOS_ISSUER) values.issuer said;
  issue = known (d == WIGOS_ISSUE_NUMBER) values.issue said;
  year = known (d == YEAR) values.year said;
  month = known (d == MONTH) values.month said;
  day = known (d == DAY) values.day said;
  hour = known (d == HOUR) values.hour said;
  minute = known (d == MINUTE) values.minute said;
  second = known (d == SECOND) values.second said;
}

-- all values after a field of element d with this number, or none if it is unusable, and no text
abbrev pub short_noted : ℕ → Option ℤ → FirstValues → FirstValues
short_noted d number values = record (numbered d (Some number) values) {
  mobile = known (d == MOBILE_IDENTIFIER) values.mobile (Some None);
  local = known (d == WIGOS_LOCAL_IDENTIFIER) values.local (Some None);
}

-- all values after one more field with a short number, if there is one
abbrev pub other_noted : Option ShortNumber → FirstValues → FirstValues
other_noted None values = values
other_noted (Some short) values = short_noted short.fxy (option_map pos short.number) values

-- ---- all fields

-- all values after some fields
unfoldable pub all_noted : List Field → FirstValues → FirstValues
all_noted [] values = values
all_noted (f ∷ fields) values = all_noted fields (noted f values)

-- ---- the key

-- the WMO station of these numbers
abbrev pub wmo_of : Option ℤ → Option ℤ → Option Station
wmo_of block station = do
  block ← block
  number ← station
  Some (Wmo block number)

-- the station of a WIGOS identifier
abbrev pub wigos_of : Option ℤ → Option ℤ → Option ℤ → Option (List ℕ) → Option Station
wigos_of series issuer issue local = do
  series ← series
  issuer ← issuer
  number ← issue
  name ← local
  Some (Wigos series issuer number name)

-- the station of a mobile name
abbrev pub mobile_of : Option (List ℕ) → Option Station
mobile_of name = name >>= λ name. Some (Mobile name)

-- the station: WMO, else WIGOS, else mobile
abbrev pub station_of : FirstValues → Option Station
station_of values =
    or_else (wmo_of (option_flatten values.block) (option_flatten values.station))
    (or_else
    (wigos_of (option_flatten values.series) (option_flatten values.issuer)
    (option_flatten values.issue) (option_flatten values.local))
    (mobile_of (option_flatten values.mobile)))

-- the moment of these numbers
abbrev pub moment_by : (year month day hour minute second : Option ℤ) → Option Moment
moment_by year month day hour minute second = do
  year ← year >>= from_to 1 greatest_year
  month ← month >>= from_to 1 12
  day ← day >>= from_to 1 (days_in_month (pos year) month)
  hour ← hour >>= from_to 0 23
  minute ← sixtieth minute
  second ← sixtieth second
  Some (record {
    year = year;
    month = month;
    day = day;
    hour = hour;
    minute = minute;
    second = second;
  })

-- the moment
abbrev pub moment_of : FirstValues → Option Moment
moment_of values = moment_by (option_flatten values.year) (option_flatten values.month)
    (option_flatten values.day) (option_flatten values.hour) (option_flatten values.minute)
    (option_flatten values.second)

-- the key of these values
abbrev pub key_of : ReportHead → FirstValues → Option Key
key_of head values = do
  station ← station_of values
  moment ← moment_of values
  Some (key_with head station moment)

-- the key of a WMO station, if there is a moment
abbrev pub wmo_key : ReportHead → (block number : ℕ) → Option Moment → Option Key
wmo_key head block number moment =
    moment >>= λ m. Some (key_with head (Wmo (pos block) (pos number)) m)
