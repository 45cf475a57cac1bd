-- Messages and their reports for the worked examples.
use Rattle.std.specs.Prelude.{ℕ, Bool, List, [], ◌∷◌, ◌++◌, map, codes, Option, Some}
use Rattle.bufr_expand.specs.Samples.{sample}
use Rattle.bufr_sections.specs.Samples.{hex, framed, plain1, announcing1}
use Rattle.bufr_message.specs.declared.report.Report.{Report}
use Rattle.bufr_message.specs.declared.report.ReportHead.{ReportHead}
use Rattle.bufr_message.specs.Reports.{reports_in, canonical}

-- the reports of the message that octets spell, under the tables of the examples
abbrev pub reports : List ℕ → List Report
reports octets = reports_in sample octets

-- their heads
abbrev pub report_heads : List ℕ → List ReportHead
report_heads octets = map (λ (r : Report). r.head) (reports octets)

-- the head of the report of `distinct_head`: fourteen numbers that differ
abbrev pub distinct_report_head : ReportHead
distinct_report_head =
    record {
      centre = 258;
      sub_centre = 772;
      update = 5;
      category = 6;
      international = 7;
      local_category = 8;
      master_version = 9;
      local_version = 10;
      year = 2828;
      month = 13;
      day = 14;
      hour = 15;
      minute = 16;
      second = 17;
    }

-- their canonical messages
abbrev pub canonicals : List ℕ → List (Option (List ℕ))
canonicals octets = map (canonical sample) (reports octets)

-- the flags of observed data of the reports
abbrev pub observed_flags : List ℕ → List Bool
observed_flags octets = map (λ (r : Report). r.observed) (reports octets)

-- a message of 62 octets: one plain subset in sequences, whose data end with `content`
abbrev pub in_sequences : List ℕ → List ℕ
in_sequences content =
    framed (codes "00003E 04")
    (plain1 ++ hex (codes "00000F 00 0001 80 C101 C10B C10C 0C65")
    ++ hex (codes "00000D 00 14C03F409EC0" ++ content))

-- a message of 70 octets: two plain subsets with temperatures of 27315 and missing
abbrev pub plain_pair : List ℕ
plain_pair =
    framed (codes "000046 04")
    (plain1 ++ hex (codes "00000F 00 0002 80 C101 C10B C10C 0C65")
    ++ hex (codes "000015 00 14C03F409EC01AACC5300FD027B00FFFF0"))

-- a message with fourteen different numbers in section 1, no octet for local use, and these flags
-- in octet 7 of section 3
abbrev pub distinct_alone : List ℕ → List ℕ
distinct_alone flags =
    framed (codes "000031 04")
    (hex (codes "000016 00 0102 0304 05 00 06 07 08 09 0A 0B0C 0D 0E 0F 10 11")
    ++ hex (codes "000009 00 0001" ++ flags ++ codes "0C65") ++ hex (codes "000006 00 6AB3"))

-- the canonical message of a message of edition 3 of the year 2024: edition 4, no octet for local
-- use
abbrev pub edition_3_alone : List ℕ
edition_3_alone =
    framed (codes "00003E 04")
    (hex (codes "000016 00 0062 0000 00 00 00 FF 02 0D 00 07E8 01 0F 0C 00 00")
    ++ hex (codes "00000F 00 0001 80 C101 C10B C10C 0C65")
    ++ hex (codes "00000D 00 14C03F409EC01AACC0"))

-- ---- editions, section 2 and flags

-- a list of `f` at each pair of flags in octet 7 of section 3: neither, compressed, observed, both
abbrev pub for_flags : {A : Type 0} → (List ℕ → A) → List A
for_flags f = f (codes "00") ∷ f (codes "40") ∷ f (codes "80") ∷ f (codes "C0") ∷ []

-- a message of one temperature after these sections 1 and 2, with these flags
abbrev pub one_temperature : List ℕ → List ℕ → List ℕ → List ℕ
one_temperature start front flags =
    framed start
    (front ++ hex (codes "000009 00 0001" ++ flags ++ codes "0C65")
    ++ hex (codes "000007 00 6AB300"))

-- edition 4 without section 2
abbrev pub temperature4 : List ℕ → List ℕ
temperature4 flags = one_temperature (codes "000032 04") plain1 flags

-- edition 4 with section 2
abbrev pub temperature4_local : List ℕ → List ℕ
temperature4_local flags =
    one_temperature (codes "000037 04") (announcing1 ++ hex (codes "000005 00 14")) flags

-- edition 3 without section 2
abbrev pub temperature3 : List ℕ → List ℕ
temperature3 flags =
    one_temperature (codes "00002D 03")
    (hex (codes "000011 00 00 62 00 00 00 02 25 00 18 01 0F 0C 00")) flags

-- edition 3 with section 2
abbrev pub temperature3_local : List ℕ → List ℕ
temperature3_local flags =
    one_temperature (codes "000032 03")
    (hex (codes "000011 00 00 62 00 80 00 02 25 00 18 01 0F 0C 00 000005 00 14")) flags

-- the canonical message of the temperature after this section 1, with these flags
abbrev pub temperature_alone : List ℕ → List ℕ → List ℕ
temperature_alone front flags =
    framed (codes "000031 04")
    (front ++ hex (codes "000009 00 0001" ++ flags ++ codes "0C65")
    ++ hex (codes "000006 00 6AB3"))

-- section 1 from edition 3: no international sub-category and no second
abbrev pub front3_alone : List ℕ
front3_alone = hex (codes "000016 00 0062 0000 00 00 00 FF 02 25 00 07E8 01 0F 0C 00 00")

-- the canonical messages, with or without section 2 and compression: two for data not observed, two
-- for observed data
abbrev pub canonical_each : List ℕ → List (List (Option (List ℕ)))
canonical_each front =
    map (λ flags. Some (temperature_alone front flags) ∷ [])
    (codes "00" ∷ codes "00" ∷ codes "80" ∷ codes "80" ∷ [])
