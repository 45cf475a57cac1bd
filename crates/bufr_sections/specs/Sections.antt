-- The sections of a message, whatever the data bits mean (FM 94 BUFR, WMO-No. 306 Volume I.2:
-- regulations 94.1 and 94.2 and the specifications of sections 0 to 5).
use Rattle.bufr_base.specs.Answers.{◌>>=◌}
use Rattle.std.specs.Prelude.{◌≡◌, ℕ, ◌+◌, ◌-◌, ◌*◌, ◌/◌, ◌%◌, ◌^◌, ◌<◌, ◌≤◌, ◌==◌, ◌||◌, not, Bool}
use Rattle.std.specs.Prelude.{true, false, List, [], ◌∷◌, ◌++◌, length, take, drop, All, codes}
use Rattle.std.specs.Prelude.{bytes_eq, Option, Some, None, IfSome, Result, Ok, Err, nat_lt, nat_le}
use Rattle.std.specs.Prelude.{if◌then◌else◌}
use Rattle.std.specs.List.{flat_map}
use Rattle.std.specs.Int.{bytes_high_first}
use Rattle.bufr_sections.specs.declared.message.Head.{Head}
use Rattle.bufr_sections.specs.declared.layout.Layout.{Layout}
use Rattle.bufr_sections.specs.declared.layout.Layout.TheVariants.{Edition4, Edition3}
use Rattle.bufr_sections.specs.declared.fault.Refused.{Refused}
use Rattle.bufr_sections.specs.declared.fault.Refused.TheVariants.{NotBufr, Edition, TotalLength}
use Rattle.bufr_sections.specs.declared.fault.Refused.TheVariants.{NoEnd, Section1Length}
use Rattle.bufr_sections.specs.declared.fault.Refused.TheVariants.{MasterTable, Section2Length}
use Rattle.bufr_sections.specs.declared.fault.Refused.TheVariants.{Section3Length, Section4Length}

-- the contents of the sections
pub record Envelope : Type 0 where
  pub head : Head
  pub section2 : Option (List ℕ)
  pub observed : Bool
  pub compressed : Bool
  pub descriptors : List ℕ
  -- the number of subsets
  pub count : ℕ
  -- the octets of section 4 from the fifth on
  pub contents : List ℕ

-- what readers ignore: the reserved bits beside the flag of section 2 in section 1 and in section
-- 3's octet 7; octet 4 of sections 2, 3 and 4; an odd octet or none at the end of section 3; in
-- edition 3 which octet gave the year (0 and 100 give 2000)
pub record Ignored : Type 0 where
  pub bits1 : ℕ
  pub octet2 : ℕ
  pub octet3 : ℕ
  pub bits3 : ℕ
  pub odd : List ℕ
  pub octet4 : ℕ
  pub year_octet : ℕ

-- zeros in all that readers ignore, and no odd octet
abbrev pub nothing_ignored : Ignored
nothing_ignored =
    record { bits1 = 0; octet2 = 0; octet3 = 0; bits3 = 0; odd = []; octet4 = 0; year_octet = 0 }

-- ---- editions: they differ in section 1 alone

-- the number of an edition, in octet 8 of section 0
abbrev pub edition_number : Layout → ℕ
edition_number Edition4 = 4
edition_number Edition3 = 3

-- the layout of an edition's number, if readers know it
abbrev pub layout_of : ℕ → Option Layout
layout_of n = if n == 4 then Some Edition4 else if n == 3 then Some Edition3 else None

-- the least length of section 1: its octets before those for local use
abbrev pub shortest1 : Layout → ℕ
shortest1 Edition4 = 22
shortest1 Edition3 = 17

-- the octet of section 1 with the flag of section 2 in its first bit
abbrev pub announcing : Layout → ℕ
announcing Edition4 = 10
announcing Edition3 = 8

-- the year of a year of the century: 0 to 69 are 2000 to 2069, others count from 1900
abbrev pub year_of_century : ℕ → ℕ
year_of_century n = if nat_lt n 70 then 2000 + n else 1900 + n

-- ---- the spelling

-- a section: its length in three octets, and its contents
abbrev pub section : List ℕ → List ℕ
section contents = bytes_high_first 3 (3 + length contents) ++ contents

-- the weight of a flag if it is up, else 0
abbrev pub flag : Bool → ℕ → ℕ
flag true weight = weight
flag false weight = 0

-- whether there is a section 2
abbrev pub is_present : Option (List ℕ) → Bool
is_present None = false
is_present (Some local) = true

-- section 1 after its length: from octet 4 on
abbrev pub head_octets : Layout → Head → Bool → Ignored → List ℕ
head_octets Edition4 h announced i =
    0 ∷ bytes_high_first 2 h.centre ++ bytes_high_first 2 h.sub_centre
    ++ h.update ∷ (flag announced 128 + i.bits1) ∷ h.category ∷ h.international ∷ h.local_category
    ∷ h.master_version ∷ h.local_version ∷ bytes_high_first 2 h.year
    ++ h.month ∷ h.day ∷ h.hour ∷ h.minute ∷ h.second ∷ h.local
head_octets Edition3 h announced i =
    0 ∷ h.sub_centre ∷ h.centre ∷ h.update ∷ (flag announced 128 + i.bits1) ∷ h.category
    ∷ h.local_category ∷ h.master_version ∷ h.local_version ∷ i.year_octet
    ∷ h.month ∷ h.day ∷ h.hour ∷ h.minute ∷ h.local

-- section 1 of an edition
abbrev pub section1 : Layout → Head → Bool → Ignored → List ℕ
section1 layout h announced i = section (head_octets layout h announced i)

-- section 2, if there is one
abbrev pub section2 : Option (List ℕ) → ℕ → List ℕ
section2 None ignored = []
section2 (Some local) ignored = section (ignored ∷ local)

-- section 3
abbrev pub section3 : Envelope → Ignored → List ℕ
section3 e i = section
    (i.octet3 ∷ bytes_high_first 2 e.count
    ++ (flag e.observed 128 + flag e.compressed 64 + i.bits3)
    ∷ flat_map (bytes_high_first 2) e.descriptors ++ i.odd)

-- section 4
abbrev pub section4 : List ℕ → ℕ → List ℕ
section4 contents ignored = section (ignored ∷ contents)

-- sections 1 to 4
unfoldable pub sections : Layout → Envelope → Ignored → List ℕ
sections layout e i =
    section1 layout e.head (is_present e.section2) i ++ section2 e.section2 i.octet2
    ++ section3 e i ++ section4 e.contents i.octet4

-- a whole message: section 0 with the total length, the sections, and `7777`
abbrev pub enclosed : Layout → List ℕ → List ℕ
enclosed layout middle =
    codes "BUFR" ++ bytes_high_first 3 (12 + length middle)
    ++ edition_number layout ∷ middle ++ codes "7777"

-- the octets of a message, from section 0 to section 5
unfoldable pub spelling : Layout → Envelope → Ignored → List ℕ
spelling layout e i = enclosed layout (sections layout e i)

-- ---- what has a spelling

-- a number below 256
abbrev pub IsOctet : ℕ → Type 0
IsOctet n = n < 2 ^ 8

-- each is an octet
abbrev pub AreOctets : List ℕ → Type 0
AreOctets octets = All IsOctet octets

-- the numbers of section 1 are in the ranges of their fields
pub record HeadFits (h : Head) : Type 0 where
  pub centre : h.centre < 2 ^ 16
  pub sub_centre : h.sub_centre < 2 ^ 16
  pub update : IsOctet h.update
  pub category : IsOctet h.category
  pub international : IsOctet h.international
  pub local_category : IsOctet h.local_category
  pub master_version : IsOctet h.master_version
  pub local_version : IsOctet h.local_version
  pub year : h.year < 2 ^ 16
  pub month : IsOctet h.month
  pub day : IsOctet h.day
  pub hour : IsOctet h.hour
  pub minute : IsOctet h.minute
  pub second : IsOctet h.second
  pub local : AreOctets h.local

-- the numbers of section 1 of edition 3 are in the ranges of their fields, and the others as
-- readers set them
pub record HeadFits3 (h : Head) (i : Ignored) : Type 0 where
  pub centre : IsOctet h.centre
  pub sub_centre : IsOctet h.sub_centre
  pub update : IsOctet h.update
  pub category : IsOctet h.category
  pub international : h.international ≡ 255
  pub local_category : IsOctet h.local_category
  pub master_version : IsOctet h.master_version
  pub local_version : IsOctet h.local_version
  pub year : h.year ≡ year_of_century i.year_octet
  pub year_octet : IsOctet i.year_octet
  pub month : IsOctet h.month
  pub day : IsOctet h.day
  pub hour : IsOctet h.hour
  pub minute : IsOctet h.minute
  pub second : h.second ≡ 0
  pub local : AreOctets h.local

-- the head fits section 1 of this layout
abbrev pub HasSection1 : Layout → Head → Ignored → Type 0
HasSection1 Edition4 h i = HeadFits h
HasSection1 Edition3 h i = HeadFits3 h i

-- each part fits its field, and the message has at most 16,777,215 octets
pub record EnvelopeFits (layout : Layout) (e : Envelope) (i : Ignored) : Type 0 where
  pub head : HasSection1 layout e.head i
  pub section2 : IfSome e.section2 AreOctets
  pub some_descriptor : 0 < length e.descriptors
  pub descriptors : All (λ d. d < 2 ^ 16) e.descriptors
  pub count : e.count < 2 ^ 16
  pub contents : AreOctets e.contents
  pub total : length (spelling layout e i) < 2 ^ 24
  pub ignored : (i.bits1 < 128) × IsOctet i.octet2 × IsOctet i.octet3 × (i.bits3 < 64)
      × (length i.odd ≤ 1) × AreOctets i.odd × IsOctet i.octet4

-- ---- reading from the left, to the first fault

-- a number of three octets, the high one first
abbrev pub three : ℕ → ℕ → ℕ → ℕ
three a b c = 65536 * a + 256 * b + c

-- a number of two octets, the high one first
abbrev pub two : ℕ → ℕ → ℕ
two a b = 256 * a + b

-- the layout, or the refusal of the edition
abbrev pub layout_or : ℕ → Option Layout → Result Layout Refused
layout_or edition None = Err (Edition edition)
layout_or edition (Some layout) = Ok layout

-- the octets before `7777`, from those after section 0 and the total length
unfoldable pub room_in : ℕ → List ℕ → Result (List ℕ) Refused
room_in total rest =
    if not (total == 8 + length rest) then Err TotalLength
    else if nat_lt (length rest) 4 || not (bytes_eq (drop (length rest - 4) rest) (codes "7777"))
    then Err NoEnd
    else Ok (take (length rest - 4) rest)

-- the layout, and the octets between section 0 and `7777`
unfoldable pub room_of : List ℕ → Result (Layout × List ℕ) Refused
room_of (b ∷ u ∷ f ∷ r ∷ l1 ∷ l2 ∷ l3 ∷ edition ∷ rest) =
    if not (bytes_eq (b ∷ u ∷ f ∷ r ∷ []) (codes "BUFR")) then Err NotBufr
    else (layout_or edition (layout_of edition)
    >>= λ layout. room_in (three l1 l2 l3) rest >>= λ room. Ok (layout, room))
room_of _ = Err NotBufr

-- the section at the start of `room`, of at least `shortest` octets: its octets after the length,
-- and the octets after it
unfoldable pub section_at : ℕ → Refused → List ℕ → Result (List ℕ × List ℕ) Refused
section_at shortest fault (a ∷ b ∷ c ∷ rest) =
    if nat_lt (three a b c) shortest || nat_lt (3 + length rest) (three a b c) then Err fault
    else Ok (take (three a b c - 3) rest, drop (three a b c - 3) rest)
section_at shortest fault _ = Err fault

-- section 1 of edition 4 after its length: the head, and whether section 2 follows
unfoldable pub head4_of : List ℕ → Result (Head × Bool) Refused
head4_of (master ∷ c1 ∷ c2 ∷ s1 ∷ s2 ∷ update ∷ flags ∷ category ∷ international ∷ local_category
    ∷ master_version ∷ local_version ∷ y1 ∷ y2 ∷ month ∷ day ∷ hour ∷ minute ∷ second ∷ local) =
    if master == 0
    then Ok (
      record {
        centre = two c1 c2;
        sub_centre = two s1 s2;
        update = update;
        category = category;
        international = international;
        local_category = local_category;
        master_version = master_version;
        local_version = local_version;
        year = two y1 y2;
        month = month;
        day = day;
        hour = hour;
        minute = minute;
        second = second;
        local = local;
      },
      nat_le 128 flags,
    )
    else Err (MasterTable master)
head4_of _ = Err Section1Length

-- section 1 of edition 3 after its length
unfoldable pub head3_of : List ℕ → Result (Head × Bool) Refused
head3_of (master ∷ sub_centre ∷ centre ∷ update ∷ flags ∷ category ∷ local_category ∷ master_version
    ∷ local_version ∷ year ∷ month ∷ day ∷ hour ∷ minute ∷ local) =
    if master == 0
    then Ok (
      record {
        centre = centre;
        sub_centre = sub_centre;
        update = update;
        category = category;
        international = 255;
        local_category = local_category;
        master_version = master_version;
        local_version = local_version;
        year = year_of_century year;
        month = month;
        day = day;
        hour = hour;
        minute = minute;
        second = 0;
        local = local;
      },
      nat_le 128 flags,
    )
    else Err (MasterTable master)
head3_of _ = Err Section1Length

-- section 1 after its length
abbrev pub head_of : Layout → List ℕ → Result (Head × Bool) Refused
head_of Edition4 octets = head4_of octets
head_of Edition3 octets = head3_of octets

-- section 2 if section 1 announces it, and the octets after it
abbrev pub section2_at : Bool → List ℕ → Result (Option (List ℕ) × List ℕ) Refused
section2_at true room =
    section_at 4 Section2Length room >>= λ found. Ok (Some (drop 1 found.0), found.1)
section2_at false room = Ok (None, room)

-- descriptors of two octets each, without an odd octet
unfoldable pub descriptors_of : List ℕ → List ℕ
descriptors_of (a ∷ b ∷ rest) = two a b ∷ descriptors_of rest
descriptors_of _ = []

-- the contents of section 3
pub record Description : Type 0 where
  pub count : ℕ
  pub observed : Bool
  pub compressed : Bool
  pub descriptors : List ℕ

-- section 3 after its length
unfoldable pub description_of : List ℕ → Result Description Refused
description_of (ignored ∷ n1 ∷ n2 ∷ flags ∷ list) =
    Ok (
    record {
      count = two n1 n2;
      observed = nat_le 128 flags;
      compressed = flags / 64 % 2 == 1;
      descriptors = descriptors_of list;
    }
    )
description_of _ = Err Section3Length

-- the octets of section 4 from the fifth on, if the section fills the room
abbrev pub contents_of : List ℕ × List ℕ → Result (List ℕ) Refused
contents_of found = if length found.1 == 0 then Ok (drop 1 found.0) else Err Section4Length

-- the sections of this layout, or the first fault
unfoldable pub sections_of : Layout → List ℕ → Result Envelope Refused
sections_of layout room = do
  one ← section_at (shortest1 layout) Section1Length room
  head ← head_of layout one.0
  two ← section2_at head.1 one.1
  three ← section_at 9 Section3Length two.1
  description ← description_of three.0
  four ← section_at 4 Section4Length three.1
  contents ← contents_of four
  Ok (
      record {
        head = head.0;
        section2 = two.0;
        observed = description.observed;
        compressed = description.compressed;
        descriptors = description.descriptors;
        count = description.count;
        contents = contents;
      }
      )

-- the sections that octets spell, or the first fault
unfoldable pub envelope_of : List ℕ → Result Envelope Refused
envelope_of octets = room_of octets >>= λ found. sections_of found.0 found.1
