-- The headline, for `Depot::run` itself: two runs, each of a new depot.
--
-- Two archives under the same tables that took in ended streams with the same set of messages hold
-- the same reports and write the same octets: the text of that set. Any pieces, order, repeats,
-- merges, copies and transfers lead there.
--
-- `Slots` defines what a slot took in (`Slot`, `new_slots`, `slot_at`); `StreamsTold` of
-- bufr_gather the reports of streams (`spells`, `frames_of`, `all_told`, `HoldSameMessages`);
-- `Runs` what steps leave and answer (`after`, `after_all`, `Run`); `Holdings` the slots of a depot
-- (`StandsFor`).
use Rattle.std.specs.Prelude.{◌≡◌, ℕ, Option, Some, Result, Ok, Err, List, [], ◌∷◌, slice_get, true}
use Rattle.std.specs.Option.{option_map}
use Rattle.bufr_tables.specs.Entries.{Entries}
use Rattle.bufr_entries.specs.Keeping.{Has}
use Rattle.bufr_gather.specs.Archives.{ArchiveView}
use Rattle.bufr_gather.specs.Texts.{text}
use Rattle.bufr_gather.specs.ReportEntries.{kept_of, text_of}
use Rattle.bufr_gather.specs.StreamsTold.{all_told, HoldSameMessages}
use Rattle.bufr_archive.specs.Slots.{Slot, slot_at, new_slots}
use Rattle.bufr_archive.specs.Runs.{after, Run, after_all}
use Rattle.bufr_archive.specs.Holdings.{DepotView, StandsFor}
use Rattle.bufr_archive.specs.declared.steps.Step.{Step}
use Rattle.bufr_archive.specs.declared.steps.Step.TheVariants.{Feed, End, Merge, Transfer, Copy}
use Rattle.bufr_archive.specs.declared.steps.Answer.{Answer}
use Rattle.bufr_archive.specs.declared.steps.StepFault.{StepFault}
use Rattle.bufr_archive.specs.declared.steps.StepFault.TheVariants.{NoSlot, StreamTooLong}
use Rattle.bufr_archive.specs.declared.steps.StepFault.TheVariants.{OutOfMemory}

-- ---- a run of a new depot, by the clauses of `Depot::new` and `Depot::run`

-- a run: a new depot with `count` slots, its steps and answers, and the depot that they left
pub record NewRun : Type 0 where
  pub tables : Entries
  pub count : ℕ
  pub steps : List Step
  pub answers : List (Result Answer StepFault)
  pub left : DepotView

-- the run of these parts
abbrev pub run_of : Entries → ℕ → List Step → List (Result Answer StepFault) → DepotView → NewRun
run_of tables count steps answers left = record {
  tables = tables;
  count = count;
  steps = steps;
  answers = answers;
  left = left;
}

-- the slots after a run
abbrev pub slots_after : NewRun → List Slot
slots_after r = after_all r.tables r.steps r.answers (new_slots r.count)

-- the answers are answers to the steps, and the depot has the slots after them
pub record WasRun (r : NewRun) : Type 0 where
  pub tables : r.left.tables ≡ r.tables
  pub run : Run r.tables r.steps r.answers (new_slots r.count)
  pub stands : StandsFor r.left (slots_after r)

-- the archive of a slot: what `Depot::archive` returns
abbrev pub archive_at : DepotView → ℕ → Option ArchiveView
archive_at depot i = option_map (λ h. h.archive) (slice_get depot.slots i)

-- ---- the premises

-- memory ran out
abbrev pub IsOutOfMemory : Result Answer StepFault → Type 0
IsOutOfMemory (Err (OutOfMemory k)) = Unit {0}
IsOutOfMemory (Err (NoSlot i)) = ⊥
IsOutOfMemory (Err StreamTooLong) = ⊥
IsOutOfMemory (Ok answer) = ⊥

-- this step comes next
abbrev pub ComesNext : Step → List Step → Type 0
ComesNext step [] = ⊥
ComesNext step (next ∷ steps) = next ≡ step

-- each step that ran out of memory was repeated at once
abbrev pub AreRepeated : List Step → List (Result Answer StepFault) → Type 0
AreRepeated (step ∷ steps) (answer ∷ answers) =
    (IsOutOfMemory answer → ComesNext step steps) × AreRepeated steps answers
AreRepeated [] answers = Unit {0}
AreRepeated (step ∷ steps) [] = Unit {0}

-- the slot has no open stream
abbrev pub IsClosed : List Slot → ℕ → Type 0
IsClosed slots i = (s : Slot) → slot_at slots i ≡ Some s → s.open_stream ≡ []

-- the slot from which a step joins has no open stream
abbrev pub JoinsClosed : Step → List Slot → Type 0
JoinsClosed (Feed i piece) slots = Unit {0}
JoinsClosed (End i) slots = Unit {0}
JoinsClosed (Merge from into) slots = IsClosed slots from
JoinsClosed (Transfer from into) slots = IsClosed slots from
JoinsClosed (Copy from into) slots = IsClosed slots from

-- the same for each step of a run
abbrev pub AllJoinClosed : Entries → List Step → List (Result Answer StepFault) → List Slot
    → Type 0
AllJoinClosed tables (step ∷ steps) (answer ∷ answers) slots =
    JoinsClosed step slots × AllJoinClosed tables steps answers (after tables step answer slots)
AllJoinClosed tables [] answers slots = Unit {0}
AllJoinClosed tables (step ∷ steps) [] slots = Unit {0}

-- at the end of the run slot i has this archive, which took in these ended streams; each step that
-- ran out of memory was repeated at once, each join was from a slot with no open stream, and slot i
-- has none at the end
pub record TookIn (r : NewRun) (i : ℕ) (archive : ArchiveView) (streams : List (List ℕ))
    : Type 0 where
  pub repeated : AreRepeated r.steps r.answers
  pub joins_closed : AllJoinClosed r.tables r.steps r.answers (new_slots r.count)
  pub slot : Slot
  pub there : slot_at (slots_after r) i ≡ Some slot
  pub ended : slot.ended ≡ streams
  pub closed : slot.open_stream ≡ []
  pub held : archive_at r.left i ≡ Some archive

-- ---- the headline

-- two archives hold the same: what is kept of all reports of the streams, by `len`, `get` and
-- entries; and `Archive::write` writes the text of these for both
pub record HoldAndWriteTheSame (tables : Entries) (streams : List (List ℕ)) (a b : ArchiveView)
    : Type 0 where
  pub same : a ≡ b
  pub entries : a.entries ≡ kept_of tables (all_told tables streams)
  pub octets : text a.entries ≡ text b.entries
  pub stated : text a.entries ≡ text_of tables (all_told tables streams)

-- two runs under the same tables, and an archive of each that took in streams with the same
-- messages
abbrev pub RunsConverge : NewRun → NewRun → Type 0
RunsConverge one other =
    (i j : ℕ) (a b : ArchiveView) (streams others : List (List ℕ)) → one.tables ≡ other.tables
    → TookIn one i a streams → TookIn other j b others
    → HoldSameMessages one.tables streams others
    → HoldAndWriteTheSame one.tables streams a b

-- all runs converge
abbrev pub Headline : Type 0
Headline = (one other : NewRun) → WasRun one → WasRun other → RunsConverge one other
