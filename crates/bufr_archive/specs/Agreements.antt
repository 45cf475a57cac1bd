-- Archives that took in the same messages agree, by any route: for runs alone. `Headline` has the
-- same for `Depot::run`.
use Rattle.std.specs.Prelude.{◌≡◌, ℕ, Some, Result, Ok, Err, List, [], ◌++◌, length}
use Rattle.std.specs.List.{AllZip}
use Rattle.bufr_tables.specs.Entries.{Entries}
use Rattle.bufr_frame.specs.Streams.{sure}
use Rattle.bufr_entries.specs.Keeping.{SameMembers}
use Rattle.bufr_gather.specs.ReportEntries.{AreUnder, kept_of, text_of}
use Rattle.bufr_gather.specs.ReportTexts.{told}
use Rattle.bufr_sections.specs.Sections.{AreOctets}
use Rattle.bufr_gather.specs.StreamsTold.{reports_among, all_told, HoldSameMessages}
use Rattle.bufr_archive.specs.Slots.{Slot, slot_at, new_slots}
use Rattle.bufr_archive.specs.Runs.{after, Run, after_all}
use Rattle.bufr_archive.specs.declared.steps.Step.{Step}
use Rattle.bufr_archive.specs.Headline.{AreRepeated, AllJoinClosed}
use Rattle.bufr_archive.specs.declared.steps.Answer.{Answer}
use Rattle.bufr_archive.specs.declared.steps.StepFault.{StepFault}
use Rattle.bufr_archive.specs.declared.steps.StepFault.TheVariants.{OutOfMemory}

-- ---- the premises

-- a run of a new depot with `count` slots: each step that ran out of memory was repeated at once,
-- and each join was from a slot with no open stream
pub record IsWholeRun (tables : Entries) (count : ℕ) (steps : List Step)
    (answers : List (Result Answer StepFault)) : Type 0 where
  pub run : Run tables steps answers (new_slots count)
  pub repeated : AreRepeated steps answers
  pub joins_closed : AllJoinClosed tables steps answers (new_slots count)

-- such a run ends with this slot, and its stream is not open
pub record EndsRun (tables : Entries) (slot : Slot) : Type 0 where
  pub count : ℕ
  pub steps : List Step
  pub answers : List (Result Answer StepFault)
  pub whole : IsWholeRun tables count steps answers
  pub number : ℕ
  pub there : slot_at (after_all tables steps answers (new_slots count)) number ≡ Some slot
  pub closed : slot.open_stream ≡ []

-- ---- the laws

-- in such a run each slot has exactly the reports of its ended streams and of the sure frames of
-- its open one
abbrev pub TookExactly : Entries → Type 0
TookExactly tables = (count : ℕ) (steps : List Step) (answers : List (Result Answer StepFault))
    → IsWholeRun tables count steps answers → (i : ℕ) (slot : Slot)
    → slot_at (after_all tables steps answers (new_slots count)) i ≡ Some slot
    → SameMembers slot.reports
    (all_told tables slot.ended ++ reports_among tables (sure slot.open_stream))

-- at the end of such a run an archive keeps what is kept of all reports of its streams
abbrev pub KeepsWhatWasTold : Entries → Type 0
KeepsWhatWasTold tables = (slot : Slot) → EndsRun tables slot
    → kept_of tables slot.reports ≡ kept_of tables (all_told tables slot.ended)

-- two archives hold the same reports and entries and write the same text: that of the reports of
-- their ended streams
pub record Agree (tables : Entries) (a b : Slot) : Type 0 where
  pub reports : SameMembers a.reports b.reports
  pub entries : kept_of tables a.reports ≡ kept_of tables b.reports
  pub texts : text_of tables a.reports ≡ text_of tables b.reports
  pub stated : text_of tables a.reports ≡ text_of tables (all_told tables a.ended)

-- two slots of whole runs that took in ended streams with the same set of messages agree, by any
-- pieces, order, repeats, merges, copies and transfers
abbrev pub Converges : Entries → Type 0
Converges tables = (a b : Slot) → EndsRun tables a → EndsRun tables b
    → HoldSameMessages tables a.ended b.ended → Agree tables a b

-- two slots took in the same
pub record SameSlot (s t : Slot) : Type 0 where
  pub reports : SameMembers s.reports t.reports
  pub ended : s.ended ≡ t.ended
  pub open_stream : s.open_stream ≡ t.open_stream

-- a repeated step completes one that ran out of memory
abbrev pub RepeatCompletes : Entries → Type 0
RepeatCompletes tables = (step : Step) (slots : List Slot) (k : ℕ) (a b : Answer)
    → AllZip SameSlot (after tables step (Ok a) (after tables step (Err (OutOfMemory k)) slots))
    (after tables step (Ok b) slots)

-- a run of two lists of steps is a run of the one and then of the other, and leaves the same slots
pub record RunsInTurn (tables : Entries) (steps more : List Step)
    (answers others : List (Result Answer StepFault)) (slots : List Slot) : Type 0 where
  pub first : Run tables (steps ++ more) (answers ++ others) slots → Run tables steps answers slots
  pub second : Run tables (steps ++ more) (answers ++ others) slots
      → Run tables more others (after_all tables steps answers slots)
  pub both : Run tables steps answers slots
      → Run tables more others (after_all tables steps answers slots)
      → Run tables (steps ++ more) (answers ++ others) slots
  pub left : after_all tables (steps ++ more) (answers ++ others) slots
      ≡ after_all tables more others (after_all tables steps answers slots)

-- so it is at any place of a run
abbrev pub RunsJoin : Entries → Type 0
RunsJoin tables = (steps more : List Step) (answers others : List (Result Answer StepFault))
    (slots : List Slot) → length steps ≡ length answers
    → RunsInTurn tables steps more answers others slots
