-- Laws on reading and writing messages.
use Rattle.std.specs.Prelude.{◌≡◌, ℕ, ◌⊎◌, ◌/◌, ◌<◌, ◌^◌, Bool, true, false, List, ◌++◌, length}
use Rattle.std.specs.Prelude.{All, IfSome, Ok, Err}
use Rattle.bufr_bits.specs.Bits.{bits}
use Rattle.bufr_tables.specs.Entries.{Entries}
use Rattle.bufr_expand.specs.Flat.{IsTreeOf}
use Rattle.bufr_expand.specs.Trees.{Tree}
use Rattle.bufr_sections.specs.declared.message.Message.{Message}
use Rattle.bufr_sections.specs.declared.layout.Layout.TheVariants.{Edition4}
use Rattle.bufr_sections.specs.declared.message.Decoded.{Decoded}
use Rattle.bufr_sections.specs.declared.fault.Refused.{Refused}
use Rattle.bufr_fields.specs.declared.fault.MisfitFault.TheVariants.{TooLarge}
use Rattle.bufr_data.specs.Compressed.{Column}
use Rattle.bufr_data.specs.Data.{IsDataOf}
use Rattle.bufr_data.specs.Compressed.Best.{CanBePacked}
use Rattle.bufr_sections.specs.declared.fault.EncodeFault.{EncodeFault}
use Rattle.bufr_sections.specs.declared.fault.EncodeFault.TheVariants.{Data}
use Rattle.bufr_message.specs.Refusals.{IsFirstFault, IsFirstEncodeFault}
use Rattle.bufr_sections.specs.Sections.{AreOctets, HeadFits, Ignored, EnvelopeFits, spelling}
use Rattle.bufr_message.specs.Messages.{Spells, envelope_with, message_of}
use Rattle.bufr_message.specs.Encodings.{SpellsBare, code}

-- octets spell the message that reading returns
abbrev pub MessagesReadAreSpelt : Type 0
MessagesReadAreSpelt = (tables : Entries) (octets : List ℕ) (d : Decoded)
    → AreOctets octets → message_of tables octets ≡ Ok d
    → Spells tables d.message octets d.slack_octets

-- reading returns the message that octets spell
abbrev pub MessagesSpeltAreRead : Type 0
MessagesSpeltAreRead = (tables : Entries) (octets : List ℕ) (m : Message) (slack : ℕ)
    → Spells tables m octets slack
    → message_of tables octets ≡ Ok (record { message = m; slack_octets = slack })

-- the octets are a message of edition 4, with `slack` octets of section 4 after its data: what
-- `Spells` says, without that each subset fits a message of its own (FM 94 BUFR, sections 0 to 5)
pub record SpellsInEdition4 (tables : Entries) (m : Message) (octets : List ℕ) (slack : ℕ)
    : Type 0 where
  pub contents : List ℕ
  pub ignored : Ignored
  pub fits : EnvelopeFits Edition4 (envelope_with m contents) ignored
  pub spelled : octets ≡ spelling Edition4 (envelope_with m contents) ignored
  pub tree : Tree
  pub template : IsTreeOf tables m.descriptors tree
  pub data_bits : List Bool
  pub rest : List Bool
  pub begins : bits contents ≡ data_bits ++ rest
  pub holds : IsDataOf tree m.compressed m.subsets data_bits
  pub after : slack ≡ length rest / 8

-- in edition 4 octets that are a message so spell it: each subset fits a message of its own
abbrev pub Edition4AsksNoMore : Type 0
Edition4AsksNoMore = (tables : Entries) (m : Message) (octets : List ℕ) (slack : ℕ)
    → SpellsInEdition4 tables m octets slack → Spells tables m octets slack

-- a refusal of octets is their first fault
abbrev pub RefusedForFirstFault : Type 0
RefusedForFirstFault = (tables : Entries) (octets : List ℕ) (fault : Refused)
    → AreOctets octets → message_of tables octets ≡ Err fault → IsFirstFault tables octets fault

-- reading refuses octets for their first fault
abbrev pub FirstFaultIsAnswered : Type 0
FirstFaultIsAnswered = (tables : Entries) (octets : List ℕ) (fault : Refused)
    → IsFirstFault tables octets fault → message_of tables octets ≡ Err fault

-- the numbers of a message's sections are in the ranges of their fields (FM 94 BUFR, sections 1 to
-- 3); the program's types ensure it
pub record NumbersFit (m : Message) : Type 0 where
  pub head : HeadFits m.head
  pub section2 : IfSome m.section2 AreOctets
  pub descriptors : All (λ d. d < 2 ^ 16) m.descriptors

-- the octets that writing returns spell the message, with zeros in all that readers ignore
abbrev pub MessagesWrittenAreBare : Type 0
MessagesWrittenAreBare = (tables : Entries) (m : Message) (octets : List ℕ)
    → NumbersFit m → code tables m ≡ Ok octets → SpellsBare tables m octets

-- writing returns the octets that spell a message so
abbrev pub BareAreWritten : Type 0
BareAreWritten = (tables : Entries) (m : Message) (octets : List ℕ)
    → SpellsBare tables m octets → code tables m ≡ Ok octets

-- reading what was written for a message returns the message, to the last value
abbrev pub MessagesWrittenAreRead : Type 0
MessagesWrittenAreRead = (tables : Entries) (m : Message) (octets : List ℕ)
    → NumbersFit m → code tables m ≡ Ok octets
    → message_of tables octets ≡ Ok (record { message = m; slack_octets = 0 })

-- a refusal of a message is its first fault
abbrev pub UnwrittenForFirstFault : Type 0
UnwrittenForFirstFault = (tables : Entries) (m : Message) (fault : EncodeFault)
    → code tables m ≡ Err fault → IsFirstEncodeFault tables m fault

-- writing refuses a message for its first fault
abbrev pub FirstEncodeFaultIsAnswered : Type 0
FirstEncodeFaultIsAnswered = (tables : Entries) (m : Message) (fault : EncodeFault)
    → IsFirstEncodeFault tables m fault → code tables m ≡ Err fault

-- writing takes each plain message that octets of edition 4 spell
abbrev pub PlainSpeltAreWritten : Type 0
PlainSpeltAreWritten = (tables : Entries) (m : Message) (octets : List ℕ) (slack : ℕ)
    → (s : Spells tables m octets slack) → s.layout ≡ Edition4 → m.compressed ≡ false
    → (written : List ℕ) × (code tables m ≡ Ok written)

-- writing takes each compressed message that octets spell, in either edition, if its columns can
-- hold the subsets and are not too long. They hold all but differing texts of more than 63 octets:
-- a writer writes texts whole, which a reader does not ask
abbrev pub PackableSpeltAreWritten : Type 0
PackableSpeltAreWritten = (tables : Entries) (m : Message) (octets : List ℕ) (slack : ℕ)
    → Spells tables m octets slack → m.compressed ≡ true
    → (columns : List Column) → CanBePacked m.subsets columns
    → ((written : List ℕ) × (code tables m ≡ Ok written)) ⊎ (code tables m ≡ Err (Data TooLarge))
