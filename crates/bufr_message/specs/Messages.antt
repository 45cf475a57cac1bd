-- When octets spell a message, and which message octets spell (FM 94 BUFR, WMO-No. 306 Volume I.2:
-- sections 3 and 4; regulations 94.5 and 94.6).
use Rattle.std.specs.Prelude.{◌≡◌, ℕ, ◌+◌, ◌*◌, ◌/◌, ◌≤◌, Bool, List, ◌++◌, length, Result, Ok, Err}
use Rattle.std.specs.Prelude.{nat_le, if◌then◌else◌}
use Rattle.std.specs.List.{AllByRecursion, list_all}
use Rattle.bufr_bits.specs.Bits.{bits}
use Rattle.bufr_base.specs.Answers.{◌>>=◌}
use Rattle.bufr_tables.specs.Entries.{Entries}
use Rattle.bufr_expand.specs.declared.node.TemplateFault.{TemplateFault}
use Rattle.bufr_expand.specs.Templates.{template}
use Rattle.bufr_expand.specs.Flat.{IsTreeOf}
use Rattle.bufr_expand.specs.Trees.{Tree}
use Rattle.bufr_fields.specs.declared.field.Subset.{Subset}
use Rattle.bufr_fields.specs.declared.fault.DataFault.{DataFault}
use Rattle.bufr_fields.specs.declared.fault.DataFault.TheVariants.{TooLarge}
use Rattle.bufr_data.specs.Plain.{plain}
use Rattle.bufr_data.specs.Data.{IsDataOf, subsets_in}
use Rattle.bufr_sections.specs.declared.message.Message.{Message}
use Rattle.bufr_sections.specs.declared.layout.Layout.{Layout}
use Rattle.bufr_sections.specs.declared.message.Decoded.{Decoded}
use Rattle.bufr_sections.specs.declared.fault.Refused.{Refused}
use Rattle.bufr_sections.specs.declared.fault.Refused.TheVariants as refusals
use Rattle.bufr_sections.specs.Sections.{Envelope, Ignored, EnvelopeFits, spelling, envelope_of}
use Rattle.bufr_sections.specs.Spelt.{longest}

-- ---- spelling

-- the sections of a message, with `contents` in section 4 from its fifth octet on
abbrev pub envelope_with : Message → List ℕ → Envelope
envelope_with m contents =
    record {
      head = m.head;
      section2 = m.section2;
      observed = m.observed;
      compressed = m.compressed;
      descriptors = m.descriptors;
      count = length m.subsets;
      contents = contents;
    }

-- the length of the message of edition 4 with one subset alone, plain, and zeros in all that
-- readers ignore: 8, 22 and 4 octets of sections 0, 1 and 5; 7 and 4 of sections 3 and 4; two for
-- each descriptor; and the subset's bits in whole octets
abbrev pub octets_alone : List ℕ → Subset → ℕ
octets_alone descriptors s = 45 + 2 * length descriptors + (length (plain s.fields) + 7) / 8

-- each subset fits a message of its own of at most 16,777,215 octets. Only messages of edition 3
-- can fail this: their section 1 is five octets shorter
abbrev pub CanBeAlone : List ℕ → List Subset → Type 0
CanBeAlone descriptors subsets =
    AllByRecursion (λ s. octets_alone descriptors s ≤ longest) subsets

-- the octets are a message, with `slack` octets of section 4 after its data: the sections have true
-- lengths and the message's values at their places, section 1 in the layout of its edition; the
-- descriptors have a tree; section 4 begins, from its fifth octet, with the data of the subsets;
-- and each of these fits a message of its own. Reserved bits and octets, the odd octet of section 3
-- and all after the data are free
pub record Spells (tables : Entries) (m : Message) (octets : List ℕ) (slack : ℕ) : Type 0 where
  pub layout : Layout
  pub contents : List ℕ
  pub ignored : Ignored
  pub fits : EnvelopeFits layout (envelope_with m contents) ignored
  pub spelled : octets ≡ spelling layout (envelope_with m contents) ignored
  pub tree : Tree
  pub template : IsTreeOf tables m.descriptors tree
  pub data_bits : List Bool
  pub rest : List Bool
  pub begins : bits contents ≡ data_bits ++ rest
  pub holds : IsDataOf tree m.compressed m.subsets data_bits
  pub after : slack ≡ length rest / 8
  pub alone : CanBeAlone m.descriptors m.subsets

-- ---- reading from the left, to the first fault

-- a tree, or the descriptors' fault as a refusal
abbrev pub template_or : Result Tree TemplateFault → Result Tree Refused
template_or (Ok tree) = Ok tree
template_or (Err fault) = Err (refusals.Template fault)

-- data, or their fault as a refusal
abbrev pub data_or : {A : Type 0} → Result A DataFault → Result A Refused
data_or (Ok found) = Ok found
data_or (Err fault) = Err (refusals.Data fault)

-- the message of sections and subsets
abbrev pub message_with : Envelope → List Subset → Message
message_with e subsets =
    record {
      head = e.head;
      section2 = e.section2;
      observed = e.observed;
      compressed = e.compressed;
      descriptors = e.descriptors;
      subsets = subsets;
    }

-- whether each subset fits a message of its own
abbrev pub can_be_alone : List ℕ → List Subset → Bool
can_be_alone descriptors subsets =
    list_all (λ s. nat_le (octets_alone descriptors s) longest) subsets

-- the message of sections and data, if each subset fits a message of its own
abbrev pub ended : Envelope → List Subset × List Bool → Result Decoded Refused
ended e found =
    if can_be_alone e.descriptors found.0
    then Ok (record { message = message_with e found.0; slack_octets = length found.1 / 8 })
    else Err (refusals.Data TooLarge)

-- the message of sections and its slack, or the first fault
unfoldable pub message_in : Entries → Envelope → Result Decoded Refused
message_in tables e = do
  tree ← template_or (template tables e.descriptors)
  found ← data_or (subsets_in tree e.compressed e.count (bits e.contents))
  ended e found

-- the message that octets spell and its slack, or the first fault
unfoldable pub message_of : Entries → List ℕ → Result Decoded Refused
message_of tables octets = envelope_of octets >>= message_in tables
