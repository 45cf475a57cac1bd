-- What a step does to a depot: for the functions that do it.
use Rattle.std.specs.Prelude.{◌≡◌, ◌⊎◌, ℕ, ◌+◌, ◌-◌, ◌^◌, ◌<◌, ◌≤◌, Some, None, Result, Ok, Err}
use Rattle.std.specs.Prelude.{List, ◌++◌, length, drop, set, slice_get}
use Rattle.std.specs.List.{AllByRecursion}
use Rattle.bufr_tables.specs.Entries.{Entries}
use Rattle.bufr_frame.specs.declared.frames.Found.{Found}
use Rattle.bufr_frame.specs.Framings.{Framing}
use Rattle.bufr_frame.specs.Looks.{new_framing}
use Rattle.bufr_frame.specs.Streams.{sure, cut, Stands}
use Rattle.bufr_frame.specs.NextFrames.{StandsWithAll}
use Rattle.bufr_message.specs.declared.report.Report.{Report}
use Rattle.bufr_gather.specs.Archives.{ArchiveView, taken_in, merged, entries_of}
use Rattle.bufr_archive.specs.Adding.{count_changes}
use Rattle.bufr_gather.specs.Archives.{AddsFirst, IsKept}
use Rattle.bufr_gather.specs.ReportEntries.{report_entries, AreUnder}
use Rattle.bufr_gather.specs.ReportTexts.{archive_of}
use Rattle.bufr_sections.specs.Sections.{AreOctets}
use Rattle.bufr_gather.specs.declared.add_fault.RanOut.{RanOut}
use Rattle.bufr_gather.specs.StreamsTold.{reports_among}
use Rattle.bufr_archive.specs.Slots.{Slot, count_messages, count_refused}
use Rattle.bufr_archive.specs.Runs.{IsAnswer, after}
use Rattle.bufr_archive.specs.Holdings.{Holding, DepotView, StandsFor}
use Rattle.bufr_archive.specs.declared.counts.Counts.{Counts}
use Rattle.bufr_archive.specs.declared.steps.Step.{Step}
use Rattle.bufr_archive.specs.declared.steps.Step.TheVariants.{Feed, End, Merge, Transfer, Copy}
use Rattle.bufr_archive.specs.declared.steps.Answer.{Answer}
use Rattle.bufr_archive.specs.declared.steps.Answer.TheVariants.{Fed, Ended, Joined}
use Rattle.bufr_archive.specs.declared.steps.StepFault.{StepFault}
use Rattle.bufr_archive.specs.declared.steps.StepFault.TheVariants.{NoSlot, StreamTooLong}
use Rattle.bufr_archive.specs.declared.steps.StepFault.TheVariants.{OutOfMemory}

-- ---- frames added to an archive

-- the messages of frames are added and counted
pub record AddsFrames (old new : ArchiveView) (frames : List Found) (counts : Counts)
    : Type 0 where
  pub archive : new ≡ taken_in old (report_entries old.tables (reports_among old.tables frames))
  pub messages : counts.messages ≡ count_messages old.tables frames
  pub refused : counts.refused ≡ count_refused old.tables frames
  pub changed : counts.changed ≡ count_changes old.entries
      (entries_of (report_entries old.tables (reports_among old.tables frames)))

-- the first k reports of the messages of frames are added
abbrev pub AddsSome : ArchiveView → ArchiveView → List Found → ℕ → Type 0
AddsSome old new frames k =
    AddsFirst old new (report_entries old.tables (reports_among old.tables frames)) k

-- adding the messages of frames, by its answer
abbrev pub AddsAllFrames : ArchiveView → ArchiveView → List Found → Result Counts RanOut → Type 0
AddsAllFrames old new frames (Ok counts) = AddsFrames old new frames counts
AddsAllFrames old new frames (Err ran_out) = AddsSome old new frames ran_out.done

-- ---- one slot

-- the answer to a piece
abbrev pub fed_of : Counts → Answer
fed_of counts = Fed counts.messages counts.refused counts.changed

-- the answer to a stream's end
abbrev pub ended_of : Counts → Answer
ended_of counts = Ended counts.messages counts.refused counts.changed

-- taking in a piece, by its answer; the frames are those that become sure, for each stream that the
-- framer `Stands` for
abbrev pub Feeds : Holding → Holding → List ℕ → Result Answer StepFault → Type 0
Feeds old new piece (Ok answer) =
    (old.framer.fed + length piece < 2 ^ 64) × AreOctets piece
    × StandsWithAll old.framer new.framer piece
    × ((stream : List ℕ) (out : ℕ) → Stands old.framer stream out
    → (counts : Counts) × (answer ≡ fed_of counts)
    × AddsFrames old.archive new.archive (drop out (sure (stream ++ piece))) counts)
Feeds old new piece (Err (NoSlot i)) = ⊥
Feeds old new piece (Err StreamTooLong) =
    (2 ^ 64 - 1 < old.framer.fed + length piece) × (new ≡ old)
Feeds old new piece (Err (OutOfMemory k)) =
    (old.framer.fed + length piece < 2 ^ 64) × AreOctets piece × (new.framer ≡ old.framer)
    × ((stream : List ℕ) (out : ℕ) → Stands old.framer stream out
    → AddsSome old.archive new.archive (drop out (sure (stream ++ piece))) k)

-- ending a stream, by its answer; the frames are those of the cut not yet handed out, for each
-- stream that the framer `Stands` for
abbrev pub Ends : Holding → Holding → Result Answer StepFault → Type 0
Ends old new (Ok answer) =
    (new.framer ≡ new_framing)
    × ((stream : List ℕ) (out : ℕ) → Stands old.framer stream out
    → (counts : Counts) × (answer ≡ ended_of counts)
    × AddsFrames old.archive new.archive (drop out (cut stream)) counts)
Ends old new (Err (NoSlot i)) = ⊥
Ends old new (Err StreamTooLong) = ⊥
Ends old new (Err (OutOfMemory k)) =
    (new.framer ≡ old.framer)
    × ((stream : List ℕ) (out : ℕ) → Stands old.framer stream out
    → AddsSome old.archive new.archive (drop out (cut stream)) k)

-- ---- slots

-- all archives are under the tables
abbrev pub AreAllUnder : Entries → List Holding → Type 0
AreAllUnder tables slots = AllByRecursion (λ h. h.archive.tables ≡ tables) slots

-- ---- steps

-- a step, for any slots that the depot `StandsFor`: its answer is one to the step, and the depot
-- then has the slots after it
pub record StepDoes (old new : DepotView) (step : Step) (result : Result Answer StepFault)
    : Type 0 where
  pub tables : new.tables ≡ old.tables
  pub answer : (slots : List Slot) → StandsFor old slots → IsAnswer old.tables step slots result
  pub slots : (slots : List Slot) → StandsFor old slots
      → StandsFor new (after old.tables step result slots)

-- both slots are there
pub record AreThere (old : DepotView) (from into : ℕ) : Type 0 where
  pub source : Holding
  pub source_there : slice_get old.slots from ≡ Some source
  pub target : Holding
  pub target_there : slice_get old.slots into ≡ Some target

-- i is the first of two slots that is not there
abbrev pub IsFirstMissing : DepotView → ℕ → ℕ → ℕ → Type 0
IsFirstMissing old from into i =
    ((i ≡ from) × (slice_get old.slots from ≡ None))
    ⊎ ((source : Holding) × (slice_get old.slots from ≡ Some source) × (i ≡ into)
    × (slice_get old.slots into ≡ None))

-- an archive holds what a slot's archive does, if that is what is kept of some reports
abbrev pub IsAsGood : Entries → ArchiveView → ArchiveView → Type 0
IsAsGood tables source joined =
    (reports : List Report) → AreUnder tables reports
    → source ≡ archive_of tables reports → joined ≡ source

-- the slots with an archive merged into one
abbrev pub with_merged : List Holding → ℕ → Holding → ArchiveView → List Holding
with_merged slots i target joined =
    set slots i (record target { archive = merged target.archive joined })

-- merging an archive into a slot, by its answer
abbrev pub TakesIn : DepotView → DepotView → ℕ → ArchiveView → Result Answer StepFault → Type 0
TakesIn old new into joined (Ok Joined) =
    (target : Holding) × (slice_get old.slots into ≡ Some target)
    × (new ≡ record old { slots = with_merged old.slots into target joined })
TakesIn old new into joined (Ok (Fed m r c)) = ⊥
TakesIn old new into joined (Ok (Ended m r c)) = ⊥
TakesIn old new into joined (Err (NoSlot i)) = ⊥
TakesIn old new into joined (Err StreamTooLong) = ⊥
TakesIn old new into joined (Err (OutOfMemory k)) = (k ≡ 0) × (new ≡ old)

-- a step that joins `from` to `into`
abbrev pub IsJoin : Step → ℕ → ℕ → Type 0
IsJoin step from into =
    (step ≡ Merge from into) ⊎ ((step ≡ Transfer from into) ⊎ (step ≡ Copy from into))
