-- The basis of a view: octets that hold its subsets, and octets that hold its sections.
use Rattle.std.specs.Prelude.{◌≡◌, ℕ, Bool, List, Ok, length}
use Rattle.bufr_bits.specs.Bits.{bits}
use Rattle.bufr_expand.specs.Trees.{Tree}
use Rattle.bufr_fields.specs.declared.field.Subset.{Subset}
use Rattle.bufr_data.specs.Data.{subsets_in}
use Rattle.bufr_sections.specs.declared.envelope.Envelope.{Envelope}
use Rattle.bufr_sections.specs.Sections.{AreOctets, descriptors_of, envelope_of}
use Rattle.bufr_sections.specs.SectionsRead.{envelope}
use Rattle.bufr_message.specs.OwnBits.{HaveRoom}

-- the octets begin with these subsets, under some template
abbrev pub AreReadFrom : List ℕ → Bool → List Subset → Type 0
AreReadFrom contents compressed subsets =
    (tree : Tree) × (count : ℕ) × (rest : List Bool)
    × (subsets_in tree compressed count (bits contents) ≡ Ok (subsets, rest))

-- a view of octets: they spell these sections, which list these descriptors and announce the
-- subsets; the values of the subsets fit their bits
pub record IsViewOf (octets : List ℕ) (sections : Envelope) (descriptors : List ℕ)
    (subsets : List Subset) : Type 0 where
  pub rooms : HaveRoom subsets
  pub list : descriptors ≡ descriptors_of sections.listed.now
  pub count : length subsets ≡ sections.count
  pub read : envelope_of octets ≡ Ok (envelope sections)
  pub contents : AreOctets sections.contents.now
