-- Messages for the worked examples.
use Rattle.std.specs.Prelude.{ℕ, List, [], ◌++◌, codes, Result, Ok, Err}
use Rattle.bufr_expand.specs.Samples.{sample}
use Rattle.bufr_sections.specs.declared.message.Head.{Head}
use Rattle.bufr_sections.specs.declared.message.Decoded.{Decoded}
use Rattle.bufr_sections.specs.declared.fault.Refused.{Refused}
use Rattle.bufr_sections.specs.Samples.{hex, framed, plain1}
use Rattle.bufr_sections.specs.declared.fault.EncodeFault.{EncodeFault}
use Rattle.bufr_message.specs.Messages.{message_of}
use Rattle.bufr_message.specs.Encodings.{code}

-- ---- octets under the tables of the examples

-- what reading returns for octets
abbrev pub read : List ℕ → Result Decoded Refused
read octets = message_of sample octets

-- what writing returns for the message that octets spell
abbrev pub written_again : List ℕ → List ℕ
written_again octets = written_for (read octets)
  where
    octets_or_none : Result (List ℕ) EncodeFault → List ℕ
    octets_or_none (Ok octets) = octets
    octets_or_none (Err e) = []

    written_for : Result Decoded Refused → List ℕ
    written_for (Ok d) = octets_or_none (code sample d.message)
    written_for (Err e) = []

-- the number of octets of section 4 after the data
abbrev pub slack_of : Result Decoded Refused → Result ℕ Refused
slack_of (Ok d) = Ok d.slack_octets
slack_of (Err e) = Err e

-- the head of a message
abbrev pub head_of : Result Decoded Refused → Result Head Refused
head_of (Ok d) = Ok d.message.head
head_of (Err e) = Err e

-- ---- plain messages

-- a section 3 for one subset of eight elements
abbrev pub elements3 : List ℕ
elements3 = hex (codes "000017 00 0001 80 0101 0102 0401 0402 0403 0404 0405 0C65")

-- a message with this section 3 and one subset
abbrev pub elements_only : List ℕ
elements_only =
    framed (codes "000046 04") (plain1 ++ elements3 ++ hex (codes "00000D 00 14C03F409EC01AACC0"))

-- section 1 with two octets for local use, and a section 2
abbrev pub local12 : List ℕ
local12 =
    hex (codes "000018 00 0062 0000 00 80 00 02 00 25 00 07E8 01 0F 0C 00 00 ABCD 000006 00 0102")

-- the message with these, an odd octet in section 3 and two octets after the data
abbrev pub local_octets_and_slack : List ℕ
local_octets_and_slack =
    framed (codes "000051 04")
    (local12 ++ hex (codes "000018 00 0001 80 0101 0102 0401 0402 0403 0404 0405 0C65 FF")
    ++ hex (codes "00000F 00 14C03F409EC01AACC0 0000"))

-- the message with these alone
abbrev pub local_octets : List ℕ
local_octets =
    framed (codes "00004E 04") (local12 ++ elements3 ++ hex (codes "00000D 00 14C03F409EC01AACC0"))

-- a message with fourteen different numbers in section 1, and two octets for local use
abbrev pub distinct_head : List ℕ
distinct_head =
    framed (codes "000033 04")
    (hex (codes "000018 00 0102 0304 05 00 06 07 08 09 0A 0B0C 0D 0E 0F 10 11 1213")
    ++ hex (codes "000009 00 0001 80 0C65") ++ hex (codes "000006 00 6AB3"))

-- ---- compressed messages

-- a compressed message of two subsets whose data end with these octets
abbrev pub compressed : List ℕ → List ℕ
compressed content =
    framed (codes "000044 04")
    (plain1 ++ hex (codes "00000F 00 0002 C0 C101 C10B C10C 0C65")
    ++ hex (codes "000013 00 14030003F400201E03000006AB" ++ content))

-- ---- edition 3

-- a message of edition 3 with the year of the century in this octet
abbrev pub edition_3_of : List ℕ → List ℕ
edition_3_of year =
    framed (codes "00003C 03")
    (hex (codes "000012 00 00 62 00 00 00 02 0D 00" ++ year ++ codes "01 0F 0C 00 00")
    ++ hex (codes "000010 00 0001 80 C101 C10B C10C 0C65 00")
    ++ hex (codes "00000E 00 14C03F409EC01AACC0 00"))

-- what writing returns for it: a message of edition 4
abbrev pub edition_3_written : List ℕ
edition_3_written =
    framed (codes "00003F 04")
    (hex (codes "000017 00 0062 0000 00 00 00 FF 02 0D 00 07E8 01 0F 0C 00 00 00")
    ++ hex (codes "00000F 00 0001 80 C101 C10B C10C 0C65")
    ++ hex (codes "00000D 00 14C03F409EC01AACC0"))
