-- Archives as texts, and the merge of two texts from the left.
use Rattle.std.specs.Prelude.{◌≡◌, ℕ, ◌+◌, ◌<◌, if◌then◌else◌, Option, Some, None, option_map}
use Rattle.std.specs.Prelude.{Result, Ok, Err, List, [], ◌∷◌, ◌++◌, length, drop}
use Rattle.std.specs.List.{AllByRecursion}
use Rattle.std.specs.List.Sorted.{IsStrictlySortedBy}
use Rattle.std.specs.Ordering.{is_gt}
use Rattle.std.specs.declared.cmp.Ordering.{Ordering}
use Rattle.std.specs.declared.cmp.Ordering.TheVariants.{Less, Greater}
use Rattle.bufr_tables.specs.Entries.{Entries}
use Rattle.bufr_entries.specs.declared.entry.Entry.{Entry}
use Rattle.bufr_entries.specs.Entries.{slot_cmp, rank_cmp, kept}
use Rattle.bufr_entries.specs.Keeping.{first_of}
use Rattle.bufr_entries.specs.Marks.{SlotView}
use Rattle.bufr_gather.specs.declared.reading.NotAnArchive.{NotAnArchive}
use Rattle.bufr_gather.specs.declared.merging_texts.KnownEntry.{KnownEntry}
use Rattle.bufr_gather.specs.declared.merging_texts.Unmerged.{Unmerged}
use Rattle.bufr_gather.specs.declared.merged_octets.EntrySource.{EntrySource}
use Rattle.bufr_gather.specs.declared.merged_octets.EntrySource.TheVariants.{Left, Right, LeftOfBoth}
use Rattle.bufr_gather.specs.declared.merged_octets.EntrySource.TheVariants.{RightOfBoth}
use Rattle.bufr_gather.specs.Texts.{text, marks_of, entries_read}
use Rattle.bufr_gather.specs.ReportEntries.{IsReportEntry, entry_in}

-- ---- texts

-- the entries read, or none at a fault
abbrev pub entries_or_none : Result (List Entry) ℕ → List Entry
entries_or_none (Ok es) = es
entries_or_none (Err place) = []

-- the entries of a text; none if the octets are no text
abbrev pub entries_in : Entries → List ℕ → List Entry
entries_in tables octets = entries_or_none (entries_read (entry_in tables) octets)

-- the octets are the text of entries of reports under the tables; all are kept, and the marks are
-- theirs
pub record IsTextOf (tables : Entries) (octets : List ℕ) (marks : List SlotView) (es : List Entry)
    : Type 0 where
  pub each : AllByRecursion (IsReportEntry tables) es
  pub says : octets ≡ text es
  pub all_kept : kept es ≡ es
  pub marked : marks ≡ marks_of es

-- the marks of the entries read, or the place in a fault
abbrev pub marks_or : Result (List Entry) ℕ → Result (List SlotView) NotAnArchive
marks_or (Ok es) = Ok (marks_of es)
marks_or (Err place) = Err (record { place = place })

-- ---- two texts merged

-- entries of reports under the tables, in order of slots, with no slot twice
pub record AreInOrder (tables : Entries) (es : List Entry) : Type 0 where
  pub each : AllByRecursion (IsReportEntry tables) es
  pub ordered : IsStrictlySortedBy slot_cmp es

-- an entry with a known mark
abbrev pub known : KnownEntry → Entry
known e = record { key = e.mark.now.key; update = e.mark.now.update; bytes = e.bytes.now }

-- `left` is the rest of a text with these entries; its first entry is known
pub record AreLeft (tables : Entries) (es : List Entry) (left : Unmerged) : Type 0 where
  pub in_order : AreInOrder tables es
  pub first : option_map known left.first ≡ first_of es
  pub marked : left.marks.now ≡ marks_of (drop 1 es)
  pub behind : left.behind.now ≡ text (drop 1 es)

-- the order of two slots; a missing entry counts as greater
abbrev pub order_of_firsts : Option Entry → Option Entry → Ordering
order_of_firsts e None = Less
order_of_firsts None (Some f) = Greater
order_of_firsts (Some e) (Some f) = slot_cmp e f

-- the origin of the entry of greater rank, of two with one slot
abbrev pub greater_of : Option Entry → Option Entry → EntrySource
greater_of e None = LeftOfBoth
greater_of None (Some f) = RightOfBoth
greater_of (Some e) (Some f) = if is_gt (rank_cmp e f) then LeftOfBoth else RightOfBoth

-- e is the first entry with this origin, and after it these are left of both lists
abbrev pub ComesFirst : EntrySource → List Entry → List Entry → Entry → List Entry → List Entry → Type 0
ComesFirst Left es fs e left right = (es ≡ e ∷ left) × (fs ≡ right)
ComesFirst Right es fs e left right = (es ≡ left) × (fs ≡ e ∷ right)
ComesFirst LeftOfBoth es fs e left right =
    (es ≡ e ∷ left) × (f : Entry) × (fs ≡ f ∷ right)
ComesFirst RightOfBoth es fs e left right =
    (fs ≡ e ∷ right) × (f : Entry) × (es ≡ f ∷ left)

-- the next kept entry of two lists, with all entries of its slot, is gone, and these are left
pub record FirstTaken (tables : Entries) (es fs : List Entry) (left right : Unmerged)
    (origin : EntrySource) : Type 0 where
  pub taken : Entry
  pub left_behind : List Entry
  pub right_behind : List Entry
  pub comes : ComesFirst origin es fs taken left_behind right_behind
  pub are_kept : kept (es ++ fs) ≡ taken ∷ kept (left_behind ++ right_behind)
  pub fewer : length left_behind + length right_behind < length es + length fs
  pub left_are : AreLeft tables left_behind left
  pub right_are : AreLeft tables right_behind right

-- an entry is taken so, or nothing is left of both lists
abbrev pub TakesFirst : Entries → List Entry → List Entry → Unmerged → Unmerged → Option EntrySource
    → Type 0
TakesFirst tables es fs left right None = (es ≡ []) × (fs ≡ [])
TakesFirst tables es fs left right (Some origin) = FirstTaken tables es fs left right origin

-- octets and marks are those of what is kept of two lists
pub record AreMerged (es fs : List Entry) (octets : List ℕ) (marks : List SlotView) : Type 0 where
  pub text_is : octets ≡ text (kept (es ++ fs))
  pub marked : marks ≡ marks_of (kept (es ++ fs))
