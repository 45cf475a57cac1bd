-- Samples: messages of 62 octets, and what reports make under the sample tables.
use Rattle.std.specs.Prelude.{ℕ, List, ◌++◌, map, codes, Option, Result, pos}
use Rattle.bufr_expand.specs.Samples.{sample}
use Rattle.bufr_sections.specs.Samples.{hex, framed, plain1}
use Rattle.bufr_message.specs.Reports.{reports_in}
use Rattle.bufr_entries.specs.declared.key.Station.TheVariants.{Wmo}
use Rattle.bufr_entries.specs.declared.key.Key.{Key}
use Rattle.bufr_entries.specs.declared.entry.Entry.{Entry}
use Rattle.bufr_gather.specs.Archives.{entries_of}
use Rattle.bufr_gather.specs.Texts.{text, entries_read}
use Rattle.bufr_gather.specs.ReportEntries.{key_of, report_entries, text_of, entry_in}
use Rattle.bufr_gather.specs.ReportTexts.{kept_before, told}

-- ---- from octets

-- the keys of a message's reports
abbrev pub keys_in : List ℕ → List (Option Key)
keys_in octets = map key_of (reports_in sample octets)

-- the update sequence numbers of a message's reports
abbrev pub updates_in : List ℕ → List ℕ
updates_in octets =
    map (λ (e : Entry). e.update) (entries_of (report_entries sample (reports_in sample octets)))

-- the text of the reports of two messages
abbrev pub text_of_both : List ℕ → List ℕ → List ℕ
text_of_both first second =
    text_of sample (reports_in sample first ++ reports_in sample second)

-- the text from before of the reports of two messages, without sub-centres in keys
abbrev pub text_of_both_before : List ℕ → List ℕ → List ℕ
text_of_both_before first second =
    text (kept_before sample (reports_in sample first ++ reports_in sample second))

-- the text of a stream's reports
abbrev pub text_told : List ℕ → List ℕ
text_told stream = text_of sample (told sample stream)

-- the entries of a text, or the place where it breaks
abbrev pub summary : List ℕ → Result (List Entry) ℕ
summary octets = entries_read (entry_in sample) octets

-- the entries of the reports of two messages
abbrev pub entries_of_both : List ℕ → List ℕ → List Entry
entries_of_both first second =
    entries_of (report_entries sample (reports_in sample first ++ reports_in sample second))

-- ---- messages: block 10, station 384, 2024-01-15 12:00

-- the key of `original`
abbrev pub key_of_original : Key
key_of_original = record {
  centre = 98;
  category = 0;
  international = 2;
  local_category = 0;
  station = Wmo (pos 10) (pos 384);
  moment = record { year = 2024; month = 1; day = 15; hour = 12; minute = 0; second = 0 };
  sub_centre = 0;
}

-- a message with this section 1 and these data
abbrev pub message : List ℕ → List ℕ → List ℕ
message section1 content =
    framed (codes "00003E 04")
    (section1 ++ hex (codes "00000F 00 0001 80 C101 C10B C10C 0C65")
    ++ hex (codes "00000D 00") ++ hex content)

-- 273.15 K
abbrev pub original : List ℕ
original = message plain1 (codes "14C03F409EC01AACC0")

-- update sequence number 1 and 274.00 K
abbrev pub updated : List ℕ
updated = message (hex (codes "000016 00 0062 0000 01 00 00 02 00 25 00 07E8 01 0F 0C 00 00"))
    (codes "14C03F409EC01AC200")

-- 273.16 K
abbrev pub warmer : List ℕ
warmer = message plain1 (codes "14C03F409EC01AAD00")

-- month 13
abbrev pub month_13 : List ℕ
month_13 = message plain1 (codes "14C03F469EC01AACC0")

-- station 385
abbrev pub next_station : List ℕ
next_station = message plain1 (codes "14C0BF409EC01AACC0")

-- different numbers in section 1: centre 258, sub-centre 772, update 5, categories 6 to 8
abbrev pub distinct : List ℕ
distinct = message (hex (codes "000016 00 0102 0304 05 00 06 07 08 09 0A 0B0C 0D 0E 0F 10 11"))
    (codes "14C03F409EC01AACC0")

-- the key of `distinct`
abbrev pub key_of_distinct : Key
key_of_distinct = record key_of_original {
  centre = 258;
  category = 6;
  international = 7;
  local_category = 8;
  sub_centre = 772;
}

-- sub-centre 1
abbrev pub other_sub_centre : List ℕ
other_sub_centre =
    message (hex (codes "000016 00 0062 0001 00 00 00 02 00 25 00 07E8 01 0F 0C 00 00"))
    (codes "14C03F409EC01AACC0")
