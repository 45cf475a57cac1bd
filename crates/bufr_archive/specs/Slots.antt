-- What the slots of a depot took in. `StreamsTold` of bufr_gather defines the reports of streams.
use Rattle.std.specs.Prelude.{ℕ, zero, suc, not, Option, List, [], ◌∷◌, ◌++◌, count_by}
use Rattle.std.specs.Prelude.{replicate, slice_get}
use Rattle.bufr_tables.specs.Entries.{Entries}
use Rattle.bufr_frame.specs.declared.frames.Found.{Found}
use Rattle.bufr_message.specs.declared.report.Report.{Report}
use Rattle.bufr_gather.specs.StreamsTold.{spells}

-- ---- counts of frames

-- the frames that spell a message
abbrev pub count_messages : Entries → List Found → ℕ
count_messages tables frames = count_by (λ f. spells tables f.bytes) frames

-- the frames that spell none
abbrev pub count_refused : Entries → List Found → ℕ
count_refused tables frames = count_by (λ f. not (spells tables f.bytes)) frames

-- ---- slots

-- what a slot took in: all reports, the streams that ended, and the one that has not
pub record Slot : Type 0 where
  pub reports : List Report
  pub ended : List (List ℕ)
  pub open_stream : List ℕ

-- a new slot
abbrev pub new_slot : Slot
new_slot = record { reports = []; ended = []; open_stream = [] }

-- n new slots
abbrev pub new_slots : ℕ → List Slot
new_slots n = replicate n new_slot

-- the slot at an index, from 0
abbrev pub slot_at : List Slot → ℕ → Option Slot
slot_at slots i = slice_get slots i

-- the slots with slot i changed
abbrev pub changed_at : List Slot → ℕ → (Slot → Slot) → List Slot
changed_at [] i change = []
changed_at (s ∷ slots) zero change = change s ∷ slots
changed_at (s ∷ slots) (suc i) change = s ∷ changed_at slots i change

-- a slot with more reports
abbrev pub gains : List Report → Slot → Slot
gains reports slot = record slot { reports = slot.reports ++ reports }

-- a slot with all reports and ended streams of another
abbrev pub gains_all : Slot → Slot → Slot
gains_all from slot =
    record slot { reports = slot.reports ++ from.reports; ended = slot.ended ++ from.ended }
