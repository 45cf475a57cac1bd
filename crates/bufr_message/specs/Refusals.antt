-- Why octets are no message, and why a message has no octets (FM 94 BUFR, WMO-No. 306 Volume I.2:
-- the causes of the sections, then those of regulation 94.5).
use Rattle.std.specs.Prelude.{◌≡◌, ◌≢◌, ◌⊎◌, ℕ, ◌<◌, Bool, List, [], length}
use Rattle.bufr_bits.specs.Bits.{bits}
use Rattle.bufr_tables.specs.Entries.{Entries}
use Rattle.bufr_expand.specs.FirstFaults as templates
use Rattle.bufr_expand.specs.Flat.{IsTreeOf}
use Rattle.bufr_expand.specs.Trees.{Tree}
use Rattle.bufr_fields.specs.declared.field.Subset.{Subset}
use Rattle.bufr_fields.specs.declared.fault.DataFault.{DataFault}
use Rattle.bufr_fields.specs.declared.fault.DataFault.TheVariants as reads
use Rattle.bufr_fields.specs.declared.fault.MisfitFault.{MisfitFault}
use Rattle.bufr_fields.specs.declared.fault.MisfitFault.TheVariants.{TooLarge}
use Rattle.bufr_data.specs.Data.{IsBareDataOf, BeginsWithData, IsFirstDataFault, IsFirstMisfitFault}
use Rattle.bufr_sections.specs.declared.message.Message.{Message}
use Rattle.bufr_sections.specs.declared.fault.EncodeFault.{EncodeFault}
use Rattle.bufr_sections.specs.declared.fault.EncodeFault.TheVariants as encode
use Rattle.bufr_sections.specs.declared.fault.Refused.{Refused}
use Rattle.bufr_sections.specs.declared.fault.Refused.TheVariants.{Template, Data}
use Rattle.bufr_sections.specs.Sections.{Envelope}
use Rattle.bufr_sections.specs.Causes.{HasSections, IsFirstRefusal}
use Rattle.bufr_sections.specs.Spelt.{bare, most_subsets, longest}
use Rattle.bufr_message.specs.Messages.{envelope_with, CanBeAlone}
use Rattle.bufr_message.specs.Encodings.{whole_octets}

-- ---- messages that reading refuses

-- the first fault of the data; or the data are there, and a subset does not fit a message of its
-- own
abbrev pub IsFirstContentsFault : Envelope → Tree → DataFault → Type 0
IsFirstContentsFault e tree why =
    IsFirstDataFault tree e.compressed e.count (bits e.contents) why
    ⊎ ((why ≡ reads.TooLarge) × (found : List Subset × List Bool)
    × BeginsWithData tree e.compressed e.count (bits e.contents) found
    × (CanBeAlone e.descriptors found.0 → ⊥))

-- why octets spell no message: the first cause of the sections; or the first fault of the
-- descriptors; or the first of the data
abbrev pub IsFirstFault : Entries → List ℕ → Refused → Type 0
IsFirstFault tables octets (Template why) =
    (e : Envelope) × HasSections octets e × templates.IsFirstFault tables e.descriptors why
IsFirstFault tables octets (Data why) =
    (e : Envelope) × (tree : Tree) × HasSections octets e × IsTreeOf tables e.descriptors tree
    × IsFirstContentsFault e tree why
IsFirstFault tables octets fault = IsFirstRefusal octets fault

-- ---- messages that writing refuses

-- more than 65,535 subsets, or more than 16,777,215 octets with these data bits (two octets in
-- section 3, three in section 0)
abbrev pub IsTooLong : Message → List Bool → Type 0
IsTooLong m data_bits =
    (most_subsets < length m.subsets)
    ⊎ (longest < length (bare (envelope_with m (whole_octets data_bits))))

-- the subsets have no data; or they have data, and are too long with them
abbrev pub IsFirstMisfit : Message → Tree → MisfitFault → Type 0
IsFirstMisfit m tree why =
    IsFirstMisfitFault tree m.compressed m.subsets why
    ⊎ ((why ≡ TooLarge) × (data_bits : List Bool)
    × IsBareDataOf tree m.compressed m.subsets data_bits × IsTooLong m data_bits)

-- why a message has no octets: no descriptor; or the first fault of the descriptors; or the first
-- of the data
abbrev pub IsFirstEncodeFault : Entries → Message → EncodeFault → Type 0
IsFirstEncodeFault tables m encode.NoDescriptors = m.descriptors ≡ []
IsFirstEncodeFault tables m (encode.Template why) =
    (m.descriptors ≢ []) × templates.IsFirstFault tables m.descriptors why
IsFirstEncodeFault tables m (encode.Data why) =
    (tree : Tree) × (m.descriptors ≢ []) × IsTreeOf tables m.descriptors tree
    × IsFirstMisfit m tree why
