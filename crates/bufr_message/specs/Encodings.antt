-- The octets that `encode` writes for a message (FM 94 BUFR, WMO-No. 306 Volume I.2: sections 0 to
-- 5; regulation 94.1.3).
use Rattle.std.specs.Prelude.{◌≡◌, ℕ, ◌+◌, ◌-◌, ◌*◌, ◌/◌, Bool, false, List, [], ◌∷◌, ◌++◌}
use Rattle.std.specs.Prelude.{length, replicate, Result, Ok, Err}
use Rattle.bufr_bits.specs.Bits.{numbers}
use Rattle.bufr_base.specs.Answers.{◌>>=◌}
use Rattle.bufr_tables.specs.Entries.{Entries}
use Rattle.bufr_expand.specs.declared.node.TemplateFault.{TemplateFault}
use Rattle.bufr_expand.specs.Templates.{template}
use Rattle.bufr_expand.specs.Trees.{Tree}
use Rattle.bufr_fields.specs.declared.fault.MisfitFault.{MisfitFault}
use Rattle.bufr_data.specs.Data.{IsBareDataOf, written_bits}
use Rattle.bufr_sections.specs.declared.message.Message.{Message}
use Rattle.bufr_sections.specs.declared.layout.Layout.TheVariants.{Edition4}
use Rattle.bufr_sections.specs.declared.fault.EncodeFault.{EncodeFault}
use Rattle.bufr_sections.specs.declared.fault.EncodeFault.TheVariants as faults
use Rattle.bufr_sections.specs.Sections.{nothing_ignored}
use Rattle.bufr_sections.specs.Spelt.{spelt_or}
use Rattle.bufr_message.specs.Messages.{envelope_with, Spells}

-- bits as whole octets, with zero bits at the end
abbrev pub whole_octets : List Bool → List ℕ
whole_octets data_bits =
    let n = (length data_bits + 7) / 8 in
    numbers n 8 (data_bits ++ replicate (8 * n - length data_bits) false)

-- the descriptors, if there is one
abbrev pub some_descriptors : List ℕ → Result (List ℕ) EncodeFault
some_descriptors [] = Err faults.NoDescriptors
some_descriptors (d ∷ ds) = Ok (d ∷ ds)

-- a tree, or the descriptors' fault as a fault of encoding
abbrev pub template_or : Result Tree TemplateFault → Result Tree EncodeFault
template_or (Ok tree) = Ok tree
template_or (Err fault) = Err (faults.Template fault)

-- data, or their fault as a fault of encoding
abbrev pub data_or : {A : Type 0} → Result A MisfitFault → Result A EncodeFault
data_or (Ok found) = Ok found
data_or (Err fault) = Err (faults.Data fault)

-- the data bits of a message, or the first fault
unfoldable pub data_bits_or : Entries → Message → Result (List Bool) EncodeFault
data_bits_or tables m = do
  list ← some_descriptors m.descriptors
  tree ← template_or (template tables list)
  data_or (written_bits tree m.compressed m.subsets)

-- the octets of a message with these data bits, if it is within the limits
abbrev pub enclosed_or : Message → List Bool → Result (List ℕ) EncodeFault
enclosed_or m data_bits = data_or (spelt_or (envelope_with m (whole_octets data_bits)))

-- the octets of a message, or the first fault: zeros in all that readers ignore, and only fill bits
-- after the data
unfoldable pub code : Entries → Message → Result (List ℕ) EncodeFault
code tables m = data_bits_or tables m >>= enclosed_or m

-- octets spell a message in edition 4 with zeros in all that readers ignore, no odd octet in
-- section 3, data that leave a writer no choice, no octet after them, and zero bits to fill the
-- last octet
pub record SpellsBare (tables : Entries) (m : Message) (octets : List ℕ) : Type 0 where
  pub spells : Spells tables m octets 0
  pub edition : spells.layout ≡ Edition4
  pub nothing : spells.ignored ≡ nothing_ignored
  pub bare : IsBareDataOf spells.tree m.compressed m.subsets spells.data_bits
  pub zeros : spells.rest ≡ replicate (length spells.rest) false
