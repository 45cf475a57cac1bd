-- The causes M1 to M9 for which octets are not the sections of a message: tests of the octets at
-- their places, in order (FM 94 BUFR, WMO-No. 306 Volume I.2: regulations 94.1 and 94.2 and the
-- specifications of sections 0 to 5).
use Rattle.std.specs.Prelude.{◌≡◌, ℕ, ◌+◌, ◌-◌, ◌==◌, ◌||◌, ◌&&◌, not, Bool, true, false, Option}
use Rattle.std.specs.Prelude.{Some, None, List, [], ◌∷◌, ◌++◌, length, take, drop, get_or, All}
use Rattle.std.specs.Prelude.{codes, bytes_eq, nat_lt, nat_le, if◌then◌else◌}
use Rattle.bufr_sections.specs.declared.layout.Layout.{Layout}
use Rattle.bufr_sections.specs.declared.fault.Refused.{Refused}
use Rattle.bufr_sections.specs.declared.fault.Refused.TheVariants.{NotBufr, Edition, TotalLength}
use Rattle.bufr_sections.specs.declared.fault.Refused.TheVariants.{NoEnd, Section1Length}
use Rattle.bufr_sections.specs.declared.fault.Refused.TheVariants.{MasterTable, Section2Length}
use Rattle.bufr_sections.specs.declared.fault.Refused.TheVariants.{Section3Length, Section4Length}
use Rattle.bufr_sections.specs.declared.fault.Refused.TheVariants.{Template, Data}
use Rattle.bufr_sections.specs.Sections.{three, layout_of, shortest1, announcing, Envelope, Ignored}
use Rattle.bufr_sections.specs.Sections.{EnvelopeFits, spelling}

-- ---- places, counted from 0: octet 8 is at place 7

-- the octet at a place
abbrev pub octet_at : List ℕ → ℕ → ℕ
octet_at octets p = get_or octets p 0

-- the length in the three octets at a place
abbrev pub length_at : List ℕ → ℕ → ℕ
length_at octets p = three (octet_at octets p) (octet_at octets (p + 1)) (octet_at octets (p + 2))

-- the place of `7777`
abbrev pub room_end : List ℕ → ℕ
room_end octets = length octets - 4

-- whether an octet of section 1 announces section 2 by its first bit; section 0 has 8 octets
abbrev pub announces_section2 : Layout → List ℕ → Bool
announces_section2 layout octets = nat_le 128 (octet_at octets (7 + announcing layout))

-- the place of section 2: the end of section 1
abbrev pub place2 : List ℕ → ℕ
place2 octets = 8 + length_at octets 8

-- the place of section 3: the end of section 2 if there is one, else of section 1
abbrev pub place3 : Layout → List ℕ → ℕ
place3 layout octets =
    if announces_section2 layout octets then place2 octets + length_at octets (place2 octets)
    else place2 octets

-- the place of section 4: the end of section 3
abbrev pub place4 : Layout → List ℕ → ℕ
place4 layout octets = place3 layout octets + length_at octets (place3 layout octets)

-- ---- causes

-- whether no section of `shortest` octets or more is at a place: its length is past the room before
-- `7777`, too small, or leads past the room
abbrev pub no_section : List ℕ → ℕ → ℕ → Bool
no_section octets shortest p =
    nat_lt (room_end octets) (p + 3) || nat_lt (length_at octets p) shortest
    || nat_lt (room_end octets) (p + length_at octets p)

-- a cause, and whether the octets give it
abbrev pub Cause : Type 0
Cause = Refused × Bool

-- the causes after M1 in order: for an edition with no layout M2, else M3 to M9
abbrev pub causes_in : Option Layout → List ℕ → List Cause
causes_in None octets = (Edition (octet_at octets 7), true) ∷ []
causes_in (Some layout) octets =
    (TotalLength, not (length_at octets 4 == length octets))
    ∷ (
      NoEnd,
      nat_lt (length_at octets 4) 12
          || not (bytes_eq (drop (room_end octets) octets) (codes "7777")),
    )
    ∷ (Section1Length, no_section octets (shortest1 layout) 8)
    ∷ (MasterTable (octet_at octets 11), not (octet_at octets 11 == 0))
    ∷ (Section2Length, announces_section2 layout octets && no_section octets 4 (place2 octets))
    ∷ (Section3Length, no_section octets 9 (place3 layout octets))
    ∷ (
      Section4Length,
      no_section octets 4 (place4 layout octets)
          || not (place4 layout octets + length_at octets (place4 layout octets)
          == room_end octets),
    )
    ∷ []

-- all causes in order, each a test of its own
unfoldable pub causes : List ℕ → List Cause
causes octets =
    (NotBufr, nat_lt (length octets) 8 || not (bytes_eq (take 4 octets) (codes "BUFR")))
    ∷ causes_in (layout_of (octet_at octets 7)) octets

-- the octets give this cause, and none before it
abbrev pub IsFirstRefusal : List ℕ → Refused → Type 0
IsFirstRefusal octets fault =
    (before : List Cause) × (after : List Cause) × (causes octets ≡ before ++ (fault, true) ∷ after)
    × All (λ c. c.1 ≡ false) before

-- ---- sections that octets spell

-- the octets spell the sections of an envelope, with anything in what readers ignore
abbrev pub HasSections : List ℕ → Envelope → Type 0
HasSections octets e =
    (layout : Layout) × (i : Ignored) × (octets ≡ spelling layout e i) × EnvelopeFits layout e i

-- ---- the faults of sections

-- whether a fault is one of M1 to M9, before the template and the data
abbrev pub is_of_sections : Refused → Bool
is_of_sections (Template why) = false
is_of_sections (Data why) = false
is_of_sections fault = true
