-- Archive texts, and reading them from the left.
--
-- `is_entry` and `entry_in` stand for the entries of reports, and for the entry that octets are,
-- which `ReportEntries` defines.
use Rattle.std.specs.Prelude.{◌≡◌, ℕ, zero, suc, ◌+◌, ◌-◌, ◌<◌, ◌≤◌, Bool, true, if◌then◌else◌}
use Rattle.std.specs.Prelude.{List, [], ◌∷◌, length, map, take, Option, Some, None, option_map, Result}
use Rattle.std.specs.Prelude.{Ok, Err}
use Rattle.std.specs.List.{flat_map, AllByRecursion}
use Rattle.std.specs.Ordering.{is_lt}
use Rattle.bufr_base.specs.Answers.{result_map}
use Rattle.bufr_frame.specs.Starts.{announced}
use Rattle.bufr_frame.specs.Streams.{cut}
use Rattle.bufr_entries.specs.declared.entry.Entry.{Entry}
use Rattle.bufr_entries.specs.Entries.{slot_cmp, kept}
use Rattle.bufr_entries.specs.Marks.{SlotView}
use Rattle.bufr_report_keys.specs.Usable.{◌>>=◌}

-- ---- texts

-- the octets of entries, joined
abbrev pub text : List Entry → List ℕ
text es = flat_map (λ e. e.bytes) es

-- the mark of an entry
abbrev pub mark_of : Entry → SlotView
mark_of e = record { key = e.key; update = e.update }

-- the marks of entries
abbrev pub marks_of : List Entry → List SlotView
marks_of es = map mark_of es

-- the octets of what is kept of some entries, joined
pub record IsEntryText (is_entry : Entry → Type 0) (octets : List ℕ) : Type 0 where
  pub entries : List Entry
  pub each : AllByRecursion is_entry entries
  pub says : octets ≡ text (kept entries)

-- the longest beginning that is a text has `place` octets, and is not the whole
pub record EntriesBreakAt (is_entry : Entry → Type 0) (octets : List ℕ) (place : ℕ) : Type 0 where
  pub front : IsEntryText is_entry (take place octets)
  pub proper : place < length octets
  pub longest : (n : ℕ) → place < n → n ≤ length octets
      → IsEntryText is_entry (take n octets) → ⊥

-- ---- the entries of a stream

-- the entries of a stream's frames, in order
abbrev pub stream_entries : (List ℕ → List (Option Entry)) → List ℕ → List (Option Entry)
stream_entries entries_in stream = flat_map (λ f. entries_in f.bytes) (cut stream)

-- ---- reading from the left

-- e comes after the entry before, if there is one
abbrev pub comes_after : Option Entry → Entry → Bool
comes_after None e = true
comes_after (Some f) e = is_lt (slot_cmp f e)

-- the octets of the first message, by its total length (FM 94 BUFR, section 0, octets 5 to 7)
abbrev pub front_of : List ℕ → Option (List ℕ)
front_of octets = option_map (λ l. take l octets) (announced octets)

-- the right entry that begins here: its octets are an entry, which comes after the entry before
abbrev pub right_entry : (List ℕ → Option Entry) → Option Entry → List ℕ → Option Entry
right_entry entry_in before octets = do
  front ← front_of octets
  e ← entry_in front
  if comes_after before e then Some e else None

-- an entry, and the entries after it
abbrev pub entry_then : Option Entry → ℕ → (Entry → Result (List Entry) ℕ)
    → Result (List Entry) ℕ
entry_then None place more = Err place
entry_then (Some e) place more = result_map (λ es. e ∷ es) (more e)

-- the entries from a place on, after `skip` more octets of the entry before, or the place of the
-- first wrong entry
unfoldable pub summary : (List ℕ → Option Entry) → Option Entry → ℕ → ℕ → List ℕ
    → Result (List Entry) ℕ
summary entry_in before place skip [] = Ok []
summary entry_in before place (suc skip) (x ∷ xs) = summary entry_in before (place + 1) skip xs
summary entry_in before place zero (x ∷ xs) =
    entry_then (right_entry entry_in before (x ∷ xs)) place
    (λ e. summary entry_in (Some e) (place + 1) (length e.bytes - 1) xs)

-- the entries of a text, or the place of the first wrong entry
abbrev pub entries_read : (List ℕ → Option Entry) → List ℕ → Result (List Entry) ℕ
entries_read entry_in octets = summary entry_in None 0 0 octets
