-- What is read is a text, every text is read, and the frames of a text: for any entries that keep
-- `HasEntryLaws`.
use Rattle.std.specs.Prelude.{◌≡◌, ℕ, ◌≤◌, List, [], ◌∷◌, length, take, map, Option, Some, Ok, Err}
use Rattle.std.specs.List.{AllByRecursion}
use Rattle.bufr_frame.specs.Streams.{cut}
use Rattle.bufr_frame.specs.Cuts.{IsOneFrame, frames_at}
use Rattle.bufr_entries.specs.declared.entry.Entry.{Entry}
use Rattle.bufr_entries.specs.Entries.{kept}
use Rattle.bufr_gather.specs.Archives.{entries_of}
use Rattle.bufr_sections.specs.Sections.{AreOctets}
use Rattle.bufr_gather.specs.Texts.{text, stream_entries, EntriesBreakAt, entries_read}

module _ (is_entry : Entry → Type 0) (entry_in : List ℕ → Option Entry) where
  -- the text of what is kept of entries is read, and gives these
  abbrev pub TextsAreRead : Type 0
  TextsAreRead = (es : List Entry) → AllByRecursion is_entry es
      → entries_read entry_in (text (kept es)) ≡ Ok (kept es)

  -- what is read is the text of entries that are all kept
  abbrev pub ReadAreTexts : Type 0
  ReadAreTexts = (octets : List ℕ) (es : List Entry) → AreOctets octets
      → entries_read entry_in octets ≡ Ok es
      → AllByRecursion is_entry es × (octets ≡ text es) × (kept es ≡ es)

  -- else the place is the length of the longest beginning that is a text, and not of the whole
  abbrev pub RefusedBreakThere : Type 0
  RefusedBreakThere = (octets : List ℕ) (place : ℕ) → AreOctets octets
      → entries_read entry_in octets ≡ Err place → EntriesBreakAt is_entry octets place

-- the octets of each entry are one frame
abbrev pub AreFrames : List Entry → Type 0
AreFrames es = AllByRecursion (λ e. IsOneFrame e.bytes) es

-- the frames of a text are the octets of its entries in order, whatever their character data
abbrev pub FramesOfTexts : Type 0
FramesOfTexts = (es : List Entry) → AreFrames es
    → cut (text (kept es)) ≡ frames_at 0 (map (λ e. e.bytes) (kept es))

-- the frames of a beginning with the first k entries whole begin with these
abbrev pub FramesOfFronts : Type 0
FramesOfFronts = (es : List Entry) (k n : ℕ) → AreFrames es → k ≤ length (kept es)
    → length (text (take k (kept es))) ≤ n
    → take k (cut (take n (text (kept es)))) ≡ frames_at 0 (map (λ e. e.bytes) (take k (kept es)))

-- the octets of each entry have one report, with this entry
abbrev pub TellOwn : (List ℕ → List (Option Entry)) → List Entry → Type 0
TellOwn reports_in es = AllByRecursion (λ e. reports_in e.bytes ≡ Some e ∷ []) es

-- of the entries of a text, as a stream, the same are kept
abbrev pub TextsTell : Type 0
TextsTell = (reports_in : List ℕ → List (Option Entry)) (es : List Entry) → AreFrames es
    → TellOwn reports_in es
    → kept (entries_of (stream_entries reports_in (text (kept es)))) ≡ kept es
