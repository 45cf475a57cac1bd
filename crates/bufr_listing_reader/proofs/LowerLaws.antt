-- Laws of the crates below on descriptors, specs and subsets, as premises.
use Rattle.std.specs.Prelude.{◌≡◌, ◌↔◌, ℕ, ◌<◌, List, Some, ◌^◌}
use Rattle.bufr_tables.specs.Descriptors.{of_text, six_digits}
use Rattle.bufr_tables.specs.Entries.{Entries}
use Rattle.bufr_expand.specs.declared.node.TemplateFault.{TemplateFault}
use Rattle.bufr_expand.specs.Effects.{IsInRange}
use Rattle.bufr_expand.specs.Templates.{BuildsExactly, RefusesExactly}
use Rattle.bufr_expand.specs.Steady.{EachAsked}
use Rattle.bufr_expand.specs.Trees.{Tree}
use Rattle.bufr_expand.specs.Courses.{course}
use Rattle.bufr_fields.specs.Laws.{AllCountedFit, AllFittingAreCounted}

-- a text reads as a descriptor exactly if the descriptor prints it
abbrev pub DescriptorTexts : Type 0
DescriptorTexts =
    (text : List ℕ) (d : ℕ) → ((of_text text ≡ Some d) ↔ ((d < 2 ^ 16) × (text ≡ six_digits d)))

-- a course asks only for fields in range
abbrev pub FieldsAreInRange : Type 0
FieldsAreInRange = (tree : Tree) (used : ℕ) → EachAsked IsInRange (course tree used)

pub record LowerLaws : Type 0 where
  pub descriptors : DescriptorTexts
  pub specs : FieldsAreInRange
  pub builds : (tables : Entries) (list : List ℕ) (tree : Tree) → BuildsExactly tables list tree
  pub refuses : (tables : Entries) (list : List ℕ) (fault : TemplateFault)
      → RefusesExactly tables list fault
  pub fit : AllCountedFit
  pub counted : AllFittingAreCounted
