-- The key of a report: its station and its time, by the fields of its subset.
use Rattle.std.specs.Prelude.{ℕ, ◌&&◌, Bool, if◌then◌else◌, List, Option, Some, None, ℤ, pos}
use Rattle.std.specs.Prelude.{int_le, unsigned_abs}
use Rattle.jiff.specs.Words.{days_in_month}
use Rattle.bufr_fields.specs.declared.field.Field.{Field}
use Rattle.bufr_entries.specs.declared.key.Station.{Station}
use Rattle.bufr_entries.specs.declared.key.Station.TheVariants.{Wmo, Wigos, Mobile}
use Rattle.bufr_entries.specs.declared.key.Moment.{Moment}
use Rattle.bufr_entries.specs.declared.key.Key.{Key}
use Rattle.bufr_message.specs.declared.report.ReportHead.{ReportHead}
use Rattle.bufr_report_keys.specs.declared.elements.TheConstants.{BLOCK_NUMBER, STATION_NUMBER}
use Rattle.bufr_report_keys.specs.declared.elements.TheConstants.{MOBILE_IDENTIFIER, WIGOS_SERIES}
use Rattle.bufr_report_keys.specs.declared.elements.TheConstants.{WIGOS_ISSUER, WIGOS_ISSUE_NUMBER}
use Rattle.bufr_report_keys.specs.declared.elements.TheConstants.{WIGOS_LOCAL_IDENTIFIER, YEAR}
use Rattle.bufr_report_keys.specs.declared.elements.TheConstants.{MONTH, DAY, HOUR, MINUTE, SECOND}
use Rattle.bufr_report_keys.specs.declared.moments.TheConstants.{GREATEST_YEAR}
use Rattle.bufr_report_keys.specs.Usable.{◌>>=◌, element_number, element_text}

-- the first value, or else the second
abbrev pub or_else : {A : Type 0} → Option A → Option A → Option A
or_else (Some x) y = Some x
or_else None y = y

-- ---- the station

-- a WMO block number and station number (Table B 001001 and 001002)
abbrev pub wmo : List Field → Option Station
wmo fields = do
  block ← element_number BLOCK_NUMBER fields
  number ← element_number STATION_NUMBER fields
  Some (Wmo block number)

-- a WIGOS identifier: series, issuer, issue number and local identifier (001125 to 001128)
abbrev pub wigos : List Field → Option Station
wigos fields = do
  series ← element_number WIGOS_SERIES fields
  issuer ← element_number WIGOS_ISSUER fields
  number ← element_number WIGOS_ISSUE_NUMBER fields
  name ← element_text WIGOS_LOCAL_IDENTIFIER fields
  Some (Wigos series issuer number name)

-- a ship or mobile land station identifier (001011)
abbrev pub mobile : List Field → Option Station
mobile fields = element_text MOBILE_IDENTIFIER fields >>= λ name. Some (Mobile name)

-- the station: WMO, else WIGOS, else mobile
abbrev pub station : List Field → Option Station
station fields = or_else (wmo fields) (or_else (wigos fields) (mobile fields))

-- ---- the time

-- the number is from low to high
abbrev pub is_from_to : ℕ → ℕ → ℤ → Bool
is_from_to low high z = int_le (pos low) z && int_le z (pos high)

-- a number from low to high, without sign
abbrev pub from_to : ℕ → ℕ → ℤ → Option ℕ
from_to low high z = if is_from_to low high z then Some (unsigned_abs z) else None

-- a minute or second; 0 if it is absent
abbrev pub sixtieth : Option ℤ → Option ℕ
sixtieth None = Some 0
sixtieth (Some z) = from_to 0 59 z

-- the last year of a moment: 9999
abbrev pub greatest_year : ℕ
greatest_year = GREATEST_YEAR

-- year, month, day and hour (004001 to 004004), which make a date of the civil calendar in the
-- years 1 to 9999 and an hour from 0 to 23; minute and second (004005 and 004006)
abbrev pub moment : List Field → Option Moment
moment fields = do
  year ← element_number YEAR fields >>= from_to 1 greatest_year
  month ← element_number MONTH fields >>= from_to 1 12
  day ← element_number DAY fields >>= from_to 1 (days_in_month (pos year) month)
  hour ← element_number HOUR fields >>= from_to 0 23
  minute ← sixtieth (element_number MINUTE fields)
  second ← sixtieth (element_number SECOND fields)
  Some (record {
    year = year;
    month = month;
    day = day;
    hour = hour;
    minute = minute;
    second = second;
  })

-- ---- the key

-- the key of these parts; centre, categories and sub-centre are those of section 1
abbrev pub key_with : ReportHead → Station → Moment → Key
key_with head station moment = record {
  centre = head.centre;
  category = head.category;
  international = head.international;
  local_category = head.local_category;
  station = station;
  moment = moment;
  sub_centre = head.sub_centre;
}

-- a report with a station and a moment has a key
abbrev pub key : ReportHead → List Field → Option Key
key head fields = do
  station ← station fields
  moment ← moment fields
  Some (key_with head station moment)
