-- The octets of two merged texts, one entry at a time.
use Rattle.std.specs.Prelude.{◌≡◌, ℕ, Option, Some, None, List, [], ◌∷◌, ◌++◌, drop, length, map, take}
use Rattle.bufr_entries.specs.declared.entry.Entry.{Entry}
use Rattle.bufr_entries.specs.Entries.{kept}
use Rattle.bufr_entries.specs.Marks.{SlotView}
use Rattle.bufr_gather.specs.declared.merged_octets.EntrySource.{EntrySource}
use Rattle.bufr_gather.specs.declared.merged_octets.EntrySource.TheVariants.{Left, Right, LeftOfBoth}
use Rattle.bufr_gather.specs.declared.merged_octets.EntrySource.TheVariants.{RightOfBoth}
use Rattle.bufr_gather.specs.Texts.{text, marks_of, front_of}

-- the octets, or no octets
abbrev pub octets_or_none : Option (List ℕ) → List ℕ
octets_or_none None = []
octets_or_none (Some octets) = octets

-- the octets of a text's first entry, by its total length
abbrev pub first_octets : List ℕ → List ℕ
first_octets octets = octets_or_none (front_of octets)

-- the octets after the first entry
abbrev pub octets_after_first : List ℕ → List ℕ
octets_after_first octets = drop (length (first_octets octets)) octets

-- the octets of each entry with these origins
abbrev pub handed_out : List EntrySource → List ℕ → List ℕ → List (List ℕ)
handed_out [] left right = []
handed_out (Left ∷ more) left right =
    first_octets left ∷ handed_out more (octets_after_first left) right
handed_out (Right ∷ more) left right =
    first_octets right ∷ handed_out more left (octets_after_first right)
handed_out (LeftOfBoth ∷ more) left right =
    first_octets left ∷ handed_out more (octets_after_first left) (octets_after_first right)
handed_out (RightOfBoth ∷ more) left right =
    first_octets right ∷ handed_out more (octets_after_first left) (octets_after_first right)

-- the marks of the entries with these origins
abbrev pub marks_out : List EntrySource → List SlotView → List SlotView → List SlotView
marks_out [] left right = []
marks_out (Left ∷ more) left right = take 1 left ++ marks_out more (drop 1 left) right
marks_out (Right ∷ more) left right = take 1 right ++ marks_out more left (drop 1 right)
marks_out (LeftOfBoth ∷ more) left right =
    take 1 left ++ marks_out more (drop 1 left) (drop 1 right)
marks_out (RightOfBoth ∷ more) left right =
    take 1 right ++ marks_out more (drop 1 left) (drop 1 right)

-- the entries with these origins are those kept of both lists, with their octets and marks
pub record HandOutMerged (es fs : List Entry) (origins : List EntrySource) : Type 0 where
  pub octets : handed_out origins (text es) (text fs)
      ≡ map (λ (e : Entry). e.bytes) (kept (es ++ fs))
  pub marks : marks_out origins (marks_of es) (marks_of fs) ≡ marks_of (kept (es ++ fs))
