-- Limits of the subsets of a message, for a program that counts what it prints.
use Rattle.std.specs.Prelude.{ℕ, ◌^◌, ◌<◌, ◌≤◌, List, length}
use Rattle.std.specs.List.{AllByRecursion}
use Rattle.bufr_tables.specs.Entries.{Entries}
use Rattle.bufr_expand.specs.Effects.{IsInRange}
use Rattle.bufr_expand.specs.Limits.{most_items}
use Rattle.bufr_fields.specs.declared.field.Raw.{Raw}
use Rattle.bufr_fields.specs.declared.field.Raw.TheVariants.{Number, Text}
use Rattle.bufr_fields.specs.declared.field.Field.{Field}
use Rattle.bufr_fields.specs.declared.field.Subset.{Subset}
use Rattle.bufr_sections.specs.declared.message.Message.{Message}
use Rattle.bufr_message.specs.Messages.{Spells}

-- a raw value of at most 8,191 octets, or of 64 bits
abbrev pub IsSmall : Raw → Type 0
IsSmall (Number n) = n < 2 ^ 64
IsSmall (Text os) = length os ≤ 8191

-- a field with such a value, and a spec within the limits
pub record IsSmallField (f : Field) : Type 0 where
  pub raw : IsSmall f.raw
  pub range : IsInRange f.spec

-- a subset of at most 16,777,216 such fields
pub record HasSmallFields (s : Subset) : Type 0 where
  pub few : length s.fields ≤ most_items
  pub small : AllByRecursion IsSmallField s.fields

-- a message of fewer than 2 to the 16th such subsets (section 3 has two octets for their number)
pub record HasSmallSubsets (m : Message) : Type 0 where
  pub few : length m.subsets < 2 ^ 16
  pub small : AllByRecursion HasSmallFields m.subsets

-- each message that octets spell has small subsets
abbrev pub SubsetsAreSmall : Type 0
SubsetsAreSmall = (tables : Entries) (m : Message) (octets : List ℕ) (slack : ℕ)
    → Spells tables m octets slack → HasSmallSubsets m
