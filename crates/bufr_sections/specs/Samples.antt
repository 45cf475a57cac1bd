-- Octets and sections for the worked examples.
use Rattle.std.specs.Prelude.{ℕ, ◌*◌, ◌+◌, Bool, true, false, List, [], ◌∷◌, ◌++◌, codes}
use Rattle.std.specs.Prelude.{option_to_list, Option, Some, None, map, Result, Ok}
use Rattle.std.specs.List.{flat_map}
use Rattle.hex.specs.Hex.{hex_digit_value}
use Rattle.bufr_sections.specs.declared.message.Head.{Head}
use Rattle.bufr_sections.specs.declared.fault.Refused.{Refused}
use Rattle.bufr_sections.specs.Sections.{Envelope, envelope_of}

-- the values of the hexadecimal digits in a text; other characters drop out
abbrev pub hex_digits : List ℕ → List ℕ
hex_digits text = flat_map (λ c. option_to_list (hex_digit_value c)) text

-- the octets of pairs of hexadecimal digits
abbrev pub pairs : List ℕ → List ℕ
pairs (a ∷ b ∷ rest) = (16 * a + b) ∷ pairs rest
pairs _ = []

-- the octets that a text spells in hexadecimal digits
abbrev pub hex : List ℕ → List ℕ
hex text = pairs (hex_digits text)

-- ---- a message with a different value at each place

-- a head of edition 4: fourteen different numbers, and two octets for local use
abbrev pub head4 : Head
head4 =
    record {
      centre = 258;
      sub_centre = 772;
      update = 5;
      category = 6;
      international = 7;
      local_category = 8;
      master_version = 9;
      local_version = 10;
      year = 2828;
      month = 13;
      day = 14;
      hour = 15;
      minute = 16;
      second = 17;
      local = 18 ∷ 19 ∷ [];
    }

-- the sections around it: a section 2, and two descriptors for 5,398 subsets
abbrev pub said4 : Bool → Bool → Envelope
said4 observed compressed =
    record {
      head = head4;
      section2 = Some (20 ∷ []);
      observed = observed;
      compressed = compressed;
      descriptors = 5912 ∷ 6426 ∷ [];
      count = 5398;
      contents = 27 ∷ 28 ∷ 29 ∷ [];
    }

-- their octets, with these flags in octet 7 of section 3. Values count up: 01 to 13 in section 1,
-- 14 in section 2, 15 to 1A in section 3, 1B to 1D in section 4
abbrev pub octets4 : List ℕ → List ℕ
octets4 flags =
    hex (codes "42554652 00003B 04")
    ++ hex (codes "000018 00 0102 0304 05 80 06 07 08 09 0A 0B0C 0D 0E 0F 10 11 1213")
    ++ hex (codes "000005 00 14")
    ++ hex (codes "00000B 00 1516" ++ flags ++ codes "1718 191A")
    ++ hex (codes "000007 00 1B1C1D") ++ hex (codes "37373737")

-- their octets with ones in all that readers ignore, and an odd octet in section 3
abbrev pub octets4_filled : List ℕ
octets4_filled =
    hex (codes "42554652 00003C 04")
    ++ hex (codes "000018 00 0102 0304 05 FF 06 07 08 09 0A 0B0C 0D 0E 0F 10 11 1213")
    ++ hex (codes "000005 FF 14") ++ hex (codes "00000C FF 1516 BF 1718 191A FF")
    ++ hex (codes "000007 FF 1B1C1D") ++ hex (codes "37373737")

-- a head of edition 3: the sub-centre comes before the centre, with no international sub-category
-- and no second
abbrev pub head3 : Head
head3 =
    record {
      centre = 2;
      sub_centre = 1;
      update = 3;
      category = 4;
      international = 255;
      local_category = 5;
      master_version = 6;
      local_version = 7;
      year = 2008;
      month = 9;
      day = 10;
      hour = 11;
      minute = 12;
      second = 0;
      local = 13 ∷ [];
    }

-- the sections of edition 3, with or without a section 2
abbrev pub said3 : Option (List ℕ) → Envelope
said3 section2 =
    record {
      head = head3;
      section2 = section2;
      observed = true;
      compressed = false;
      descriptors = 5912 ∷ [];
      count = 1;
      contents = [];
    }

-- their octets without section 2
abbrev pub octets3 : List ℕ
octets3 =
    hex (codes "42554652 00002B 03")
    ++ hex (codes "000012 00 01 02 03 7F 04 05 06 07 08 09 0A 0B 0C 0D")
    ++ hex (codes "000009 00 0001 80 1718") ++ hex (codes "000004 00") ++ hex (codes "37373737")

-- their octets with section 2
abbrev pub octets3_with_section2 : List ℕ
octets3_with_section2 =
    hex (codes "42554652 000030 03")
    ++ hex (codes "000012 00 01 02 03 80 04 05 06 07 08 09 0A 0B 0C 0D")
    ++ hex (codes "000005 00 14")
    ++ hex (codes "000009 00 0001 80 1718") ++ hex (codes "000004 00") ++ hex (codes "37373737")

-- sections of `n` subsets
abbrev pub many_subsets : ℕ → Envelope
many_subsets n = record (said4 true false) { count = n }

-- ---- editions, section 2 and flags

-- values of octet 7 of section 3: no flag, compressed, observed, both
abbrev pub flag_pairs : List (List ℕ)
flag_pairs = codes "00" ∷ codes "40" ∷ codes "80" ∷ codes "C0" ∷ []

-- a list of `f` at each pair of the flags observed and compressed
abbrev pub each_pair : {A : Type 0} → (Bool → Bool → A) → List A
each_pair f = f false false ∷ f false true ∷ f true false ∷ f true true ∷ []

-- what reading returns for octets with each pair of flags
abbrev pub said_by : (List ℕ → List ℕ) → List (Result Envelope Refused)
said_by octets = map (λ flags. envelope_of (octets flags)) flag_pairs

-- sections that reading has to return, with each pair of flags
abbrev pub says_each : (Bool → Bool → Envelope) → List (Result Envelope Refused)
says_each said = each_pair (λ observed compressed. Ok (said observed compressed))

-- the sections of edition 4 without section 2
abbrev pub said4_without : Bool → Bool → Envelope
said4_without observed compressed = record (said4 observed compressed) { section2 = None }

-- their octets, with these bits in octet 10 of section 1
abbrev pub octets4_without : List ℕ → List ℕ → List ℕ
octets4_without bits1 flags =
    hex (codes "42554652 000036 04")
    ++ hex
    (codes "000018 00 0102 0304 05" ++ bits1 ++ codes "06 07 08 09 0A 0B0C 0D 0E 0F 10 11 1213")
    ++ hex (codes "00000B 00 1516" ++ flags ++ codes "1718 191A")
    ++ hex (codes "000007 00 1B1C1D") ++ hex (codes "37373737")

-- the sections of edition 3 with these flags
abbrev pub said3_with : Option (List ℕ) → Bool → Bool → Envelope
said3_with section2 observed compressed =
    record (said3 section2) { observed = observed; compressed = compressed }

-- their octets without section 2
abbrev pub octets3_plain : List ℕ → List ℕ
octets3_plain flags =
    hex (codes "42554652 00002B 03")
    ++ hex (codes "000012 00 01 02 03 00 04 05 06 07 08 09 0A 0B 0C 0D")
    ++ hex (codes "000009 00 0001" ++ flags ++ codes "1718")
    ++ hex (codes "000004 00") ++ hex (codes "37373737")

-- their octets with section 2
abbrev pub octets3_local : List ℕ → List ℕ
octets3_local flags =
    hex (codes "42554652 000030 03")
    ++ hex (codes "000012 00 01 02 03 80 04 05 06 07 08 09 0A 0B 0C 0D")
    ++ hex (codes "000005 00 14") ++ hex (codes "000009 00 0001" ++ flags ++ codes "1718")
    ++ hex (codes "000004 00") ++ hex (codes "37373737")

-- ---- octets that reading refuses

-- a message with `middle` after section 0; `start` spells the total length and the edition
abbrev pub framed : List ℕ → List ℕ → List ℕ
framed start middle = hex (codes "42554652" ++ start) ++ middle ++ codes "7777"

-- a section 1 of 22 octets; `start` spells its length and octet 4, `flags` octet 10
abbrev pub usual1 : List ℕ → List ℕ → List ℕ
usual1 start flags =
    hex (start ++ codes "0062 0000 00" ++ flags ++ codes "00 02 00 25 00 07E8 01 0F 0C 00 00")

-- section 1 of a message without section 2
abbrev pub plain1 : List ℕ
plain1 = usual1 (codes "000016 00") (codes "00")

-- section 1 of a message with section 2
abbrev pub announcing1 : List ℕ
announcing1 = usual1 (codes "000016 00") (codes "80")

-- section 3 of 9 octets
abbrev pub short_section3 : List ℕ
short_section3 = hex (codes "000009 00 0001 80 0101")
