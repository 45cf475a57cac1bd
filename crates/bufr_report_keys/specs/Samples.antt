-- Sample fields of stations and times for the worked values.
use Rattle.std.specs.Prelude.{ℕ, suc, Bool, if◌then◌else◌, Option, List, [], ◌∷◌, ◌++◌, map}
use Rattle.std.specs.Prelude.{codes, ℤ, pos}
use Rattle.std.specs.Option.{is_some}
use Rattle.bufr_tables.specs.declared.element.Kind.{Kind}
use Rattle.bufr_tables.specs.declared.element.Kind.TheVariants as kinds
use Rattle.bufr_tables.specs.Descriptors.{descriptor}
use Rattle.bufr_fields.specs.declared.field.Raw.TheVariants as raws
use Rattle.bufr_fields.specs.declared.field.Field.{Field}
use Rattle.bufr_entries.specs.declared.key.Station.{Station}
use Rattle.bufr_entries.specs.declared.key.Station.TheVariants.{Wmo, Wigos, Mobile}
use Rattle.bufr_entries.specs.declared.key.Moment.{Moment}
use Rattle.bufr_entries.specs.declared.key.Key.{Key}
use Rattle.bufr_message.specs.declared.report.ReportHead.{ReportHead}
use Rattle.bufr_report_keys.specs.Keys.{station, moment}

-- a field of element 0 XX YYY with number n: 24 bits, scale 0, reference 0
abbrev pub number_field : ℕ → ℕ → ℕ → Field
number_field x y n = record {
  fxy = descriptor 0 x y;
  spec = record { kind = kinds.Quantity; scale = pos 0; reference = pos 0; width = 24 };
  raw = raws.Number n;
}

-- a field of element 0 XX YYY with number n and scale 1
abbrev pub scaled_field : ℕ → ℕ → ℕ → Field
scaled_field x y n = record {
  fxy = descriptor 0 x y;
  spec = record { kind = kinds.Quantity; scale = pos 1; reference = pos 0; width = 24 };
  raw = raws.Number n;
}

-- a field of element 0 XX YYY with a text of nine octets
abbrev pub text_field : ℕ → ℕ → List ℕ → Field
text_field x y octets = record {
  fxy = descriptor 0 x y;
  spec = record { kind = kinds.Text; scale = pos 0; reference = pos 0; width = 72 };
  raw = raws.Text octets;
}

-- a missing field: all bits are one
abbrev pub missing_field : ℕ → ℕ → Field
missing_field x y = number_field x y 16777215

-- the fields of year, month, day and hour
abbrev pub date_fields : ℕ → ℕ → ℕ → ℕ → List Field
date_fields year month day hour =
    number_field 4 1 year ∷ number_field 4 2 month ∷ number_field 4 3 day
    ∷ number_field 4 4 hour ∷ []

-- block 10 and station 384
abbrev pub block_and_station : List Field
block_and_station = number_field 1 1 10 ∷ number_field 1 2 384 ∷ []

-- the WIGOS identifier 0-20000-1-10384
abbrev pub wigos_fields : List Field
wigos_fields =
    number_field 1 125 0 ∷ number_field 1 126 20000 ∷ number_field 1 127 1
    ∷ text_field 1 128 (codes "10384    ") ∷ []

-- 2024-01-15 12:00
abbrev pub noon : Moment
noon = record { year = 2024; month = 1; day = 15; hour = 12; minute = 0; second = 0 }

-- a moment of year, month, day, hour, minute and second
abbrev pub time : ℕ → ℕ → ℕ → ℕ → ℕ → ℕ → Moment
time year month day hour minute second = record {
  year = year;
  month = month;
  day = day;
  hour = hour;
  minute = minute;
  second = second;
}

-- the fields of `noon`, a minute and a second
abbrev pub minute_and_second : Field → Field → List Field
minute_and_second minute second = date_fields 2024 1 15 12 ++ minute ∷ second ∷ []

-- the station of `wigos_fields`
abbrev pub wigos_station : Station
wigos_station = Wigos (pos 0) (pos 20000) (pos 1) (codes "10384")

-- a head with a different number in each part
abbrev pub head_98 : ReportHead
head_98 = record {
  centre = 98;
  sub_centre = 7;
  update = 1;
  category = 2;
  international = 3;
  local_category = 37;
  master_version = 4;
  local_version = 5;
  year = 2023;
  month = 6;
  day = 8;
  hour = 9;
  minute = 10;
  second = 11;
}

-- the key of `head_98` at station 10 384 at noon
abbrev pub key_at_noon : Key
key_at_noon = record {
  centre = 98;
  category = 2;
  international = 3;
  local_category = 37;
  station = Wmo (pos 10) (pos 384);
  moment = noon;
  sub_centre = 7;
}

-- ---- stations of each kind

-- `wigos_fields` with a missing issue number
abbrev pub without_issue_number : List Field
without_issue_number =
    number_field 1 125 0 ∷ number_field 1 126 20000 ∷ missing_field 1 127
    ∷ text_field 1 128 (codes "10384    ") ∷ []

-- the fields of all kinds of stations; an unusable one has a missing or blank part: the mobile
-- name, the WIGOS issue number, the WMO block
abbrev pub beside : Bool → Bool → Bool → List Field
beside wmo wigos mobile =
    (if mobile then text_field 1 11 (codes "SHIP     ") else text_field 1 11 (codes "         "))
    ∷ (if wigos then wigos_fields else without_issue_number)
    ++ (if wmo then block_and_station else missing_field 1 1 ∷ number_field 1 2 384 ∷ [])

-- the WMO station of `beside`
abbrev pub wmo_10384 : Station
wmo_10384 = Wmo (pos 10) (pos 384)

-- a mobile name
abbrev pub named : List ℕ → Station
named name = Mobile name

-- a field of this kind and reference value, with scale 0
abbrev pub field_of : Kind → ℤ → ℕ → ℕ → ℕ → Field
field_of kind reference x y n = record {
  fxy = descriptor 0 x y;
  spec = record { kind = kind; scale = pos 0; reference = reference; width = 24 };
  raw = raws.Number n;
}

-- the station of a block field, with number 384
abbrev pub of_block : Field → Option Station
of_block f = station (f ∷ number_field 1 2 384 ∷ [])

-- the station of a number field, with block 10
abbrev pub of_number : Field → Option Station
of_number f = station (number_field 1 1 10 ∷ f ∷ [])

-- the station of these four WIGOS fields
abbrev pub wigos_with : Field → Field → Field → Field → Option Station
wigos_with series issuer number name = station (series ∷ issuer ∷ number ∷ name ∷ [])

-- ---- dates and times

-- a date has a moment at midnight
abbrev pub is_date : ℕ × ℕ × ℕ → Bool
is_date d = is_some (moment (date_fields d.0 d.1 d.2 0))

-- the last day of each month of a common year, and of February of leap years
abbrev pub last_days : List (ℕ × ℕ × ℕ)
last_days =
    (2023, 1, 31) ∷ (2023, 2, 28) ∷ (2023, 3, 31) ∷ (2023, 4, 30) ∷ (2023, 5, 31) ∷ (2023, 6, 30)
    ∷ (2023, 7, 31) ∷ (2023, 8, 31) ∷ (2023, 9, 30) ∷ (2023, 10, 31) ∷ (2023, 11, 30)
    ∷ (2023, 12, 31) ∷ (2024, 2, 29) ∷ (2000, 2, 29) ∷ (1900, 2, 28) ∷ []

-- the day after each of these
abbrev pub days_behind : List (ℕ × ℕ × ℕ)
days_behind = map (λ d. (d.0, d.1, suc d.2)) last_days

-- an hour, minute and second have a moment
abbrev pub is_time : ℕ × ℕ × ℕ → Bool
is_time t =
    is_some (moment (date_fields 2024 1 15 t.0 ++ number_field 4 5 t.1 ∷ number_field 4 6 t.2 ∷ []))
