-- The elements of keys.
use Rattle.std.specs.Prelude.{ℕ, ◌==◌, ◌&&◌, ◌||◌, Bool, List, [], ◌∷◌, nat_le}
use Rattle.bufr_report_keys.specs.declared.elements.TheConstants.{BLOCK_NUMBER, STATION_NUMBER}
use Rattle.bufr_report_keys.specs.declared.elements.TheConstants.{MOBILE_IDENTIFIER, WIGOS_SERIES}
use Rattle.bufr_report_keys.specs.declared.elements.TheConstants.{WIGOS_ISSUER, WIGOS_ISSUE_NUMBER}
use Rattle.bufr_report_keys.specs.declared.elements.TheConstants.{WIGOS_LOCAL_IDENTIFIER, YEAR}
use Rattle.bufr_report_keys.specs.declared.elements.TheConstants.{MONTH, DAY, HOUR, MINUTE, SECOND}

-- the elements of stations (Table B 001001, 001002, 001011 and 001125 to 001128)
abbrev pub is_station : ℕ → Bool
is_station d = d == BLOCK_NUMBER || d == STATION_NUMBER || d == MOBILE_IDENTIFIER
    || (nat_le WIGOS_SERIES d && nat_le d WIGOS_LOCAL_IDENTIFIER)

-- the elements of times (004001 to 004006)
abbrev pub is_time : ℕ → Bool
is_time d = nat_le YEAR d && nat_le d SECOND

-- the elements of keys
abbrev pub is_asked : ℕ → Bool
is_asked d = is_station d || is_time d

-- the elements of keys, in a list
abbrev pub elements : List ℕ
elements = BLOCK_NUMBER ∷ STATION_NUMBER ∷ MOBILE_IDENTIFIER ∷ WIGOS_SERIES ∷ WIGOS_ISSUER
    ∷ WIGOS_ISSUE_NUMBER ∷ WIGOS_LOCAL_IDENTIFIER ∷ YEAR ∷ MONTH ∷ DAY ∷ HOUR ∷ MINUTE ∷ SECOND ∷ []
