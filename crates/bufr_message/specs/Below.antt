-- The laws of the crates below on sections, descriptors and data, in one record: the basis of the
-- laws on messages.
use Rattle.std.specs.Prelude.{ℕ, Bool, List}
use Rattle.bufr_tables.specs.Entries.{Entries}
use Rattle.bufr_expand.specs.declared.node.TemplateFault.{TemplateFault}
use Rattle.bufr_expand.specs.Templates.{BuildsExactly, RefusesExactly}
use Rattle.bufr_expand.specs.Trees.{Tree}
use Rattle.bufr_fields.specs.declared.field.Subset.{Subset}
use Rattle.bufr_fields.specs.declared.fault.DataFault.{DataFault}
use Rattle.bufr_fields.specs.declared.fault.MisfitFault.{MisfitFault}
use Rattle.bufr_data.specs.Compressed.{Column}
use Rattle.bufr_data.specs.Data as held
use Rattle.bufr_sections.specs.SectionLaws as sections

-- the laws of the crates below
pub record Below : Type 0 where
  -- of sections
  pub takes : sections.SectionsReadAreSpelt
  pub says : sections.SectionsSpeltAreRead
  pub first : sections.SectionsRefusedGiveFirst
  pub answered : sections.FirstGivenIsAnswered
  pub theirs : sections.SectionsRefusedForTheirs
  pub shortest : sections.BareSpellingsAreShortest
  -- of descriptors
  pub builds : (tables : Entries) (list : List ℕ) (tree : Tree) → BuildsExactly tables list tree
  pub refuses : (tables : Entries) (list : List ℕ) (fault : TemplateFault)
      → RefusesExactly tables list fault
  -- of data
  pub reads : (tree : Tree) (compressed : Bool) (count : ℕ) (front : List Bool)
      (found : List Subset × List Bool) → held.ReadsExactly tree compressed count front found
  pub unread : (tree : Tree) (compressed : Bool) (count : ℕ) (front : List Bool) (fault : DataFault)
      → held.RefusesExactly tree compressed count front fault
  pub writes : (tree : Tree) (compressed : Bool) (subsets : List Subset) (data_bits : List Bool)
      → held.WritesExactly tree compressed subsets data_bits
  pub unwritten : (tree : Tree) (compressed : Bool) (subsets : List Subset) (fault : MisfitFault)
      → held.MisfitsExactly tree compressed subsets fault
  pub bare : (tree : Tree) (compressed : Bool) (subsets : List Subset) (data_bits : List Bool)
      → held.BareDataAreData tree compressed subsets data_bits
  pub plain : (tree : Tree) (subsets : List Subset) (data_bits : List Bool)
      → held.PlainDataAreBare tree subsets data_bits
  pub packable : (tree : Tree) (subsets : List Subset) (columns : List Column)
      (data_bits : List Bool) → held.PackedDataCanBeBare tree subsets columns data_bits
