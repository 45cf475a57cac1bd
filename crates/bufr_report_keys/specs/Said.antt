-- The number of an element's first field, as it is held.
use Rattle.std.specs.Prelude.{Bool, if◌then◌else◌, List, ℕ, Option, Some, None, ℤ, pos}
use Rattle.bufr_report_keys.specs.declared.first_number.Said.{Said}
use Rattle.bufr_report_keys.specs.declared.first_number.Said.TheVariants.{Unmet, Unusable, Number}
use Rattle.bufr_report_keys.specs.declared.first_short.ShortSaid.{ShortSaid}
use Rattle.bufr_report_keys.specs.declared.first_short.ShortSaid.TheVariants as shorts

-- the number, or that it is unusable; none without a field
abbrev pub number_said : Said → Option (Option ℤ)
number_said Unmet = None
number_said Unusable = Some None
number_said (Number n) = Some (Some n)

-- a number of two octets, or that it is unusable; none without a field
abbrev pub short_said : ShortSaid → Option (Option ℤ)
short_said shorts.Unmet = None
short_said shorts.Unusable = Some None
short_said (shorts.Number n) = Some (Some (pos n))

-- that the first field of an element has no text; none without a field
abbrev pub no_text : Bool → Option (Option (List ℕ))
no_text is_met = if is_met then Some None else None
