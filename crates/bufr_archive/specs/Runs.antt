-- What each step brings, leaves and answers, and the runs of a depot.
use Rattle.std.specs.Prelude.{◌≡◌, ℕ, ◌+◌, ◌-◌, ◌^◌, ◌≤◌, Bool, nat_lt, if◌then◌else◌, Option, Some}
use Rattle.std.specs.Prelude.{None, Result, Ok, Err, List, [], ◌∷◌, ◌++◌, length, take, drop}
use Rattle.bufr_frame.specs.declared.frames.Found.{Found}
use Rattle.bufr_frame.specs.Streams.{cut, sure}
use Rattle.bufr_tables.specs.Entries.{Entries}
use Rattle.bufr_message.specs.declared.report.Report.{Report}
use Rattle.bufr_gather.specs.Archives.{entries_of}
use Rattle.bufr_archive.specs.Adding.{count_changes}
use Rattle.bufr_gather.specs.ReportEntries.{report_entries}
use Rattle.bufr_gather.specs.StreamsTold.{reports_among}
use Rattle.bufr_archive.specs.Slots.{count_messages, count_refused, Slot, slot_at}
use Rattle.bufr_archive.specs.Slots.{changed_at, gains, gains_all}
use Rattle.bufr_archive.specs.declared.steps.Step.{Step}
use Rattle.bufr_archive.specs.declared.steps.Step.TheVariants.{Feed, End, Merge, Transfer, Copy}
use Rattle.bufr_archive.specs.declared.steps.Answer.{Answer}
use Rattle.bufr_archive.specs.declared.steps.Answer.TheVariants.{Fed, Ended, Joined}
use Rattle.bufr_archive.specs.declared.steps.StepFault.{StepFault}
use Rattle.bufr_archive.specs.declared.steps.StepFault.TheVariants.{NoSlot, StreamTooLong}
use Rattle.bufr_archive.specs.declared.steps.StepFault.TheVariants.{OutOfMemory}

-- ---- what a step brings

-- the frames that a piece makes sure
abbrev pub frames_of_piece : List ℕ → List ℕ → List Found
frames_of_piece stream piece = drop (length (sure stream)) (sure (stream ++ piece))

-- the last frames of a stream, not sure before its end
abbrev pub frames_of_end : List ℕ → List Found
frames_of_end stream = drop (length (sure stream)) (cut stream)

-- the octets and `more` pass 2^64 - 1
abbrev pub are_too_many : ℕ → ℕ → Bool
are_too_many octets more = nat_lt (2 ^ 64 - 1) (octets + more)

-- the stream with the piece passes 2^64 - 1 octets
abbrev pub is_too_long : List ℕ → List ℕ → Bool
is_too_long stream piece = are_too_many (length stream) (length piece)

-- the frames that a step brings to its slot; a piece that makes the stream too long brings none
abbrev pub frames_of_step : Step → Slot → List Found
frames_of_step (Feed i piece) slot =
    if is_too_long slot.open_stream piece then [] else frames_of_piece slot.open_stream piece
frames_of_step (End i) slot = frames_of_end slot.open_stream
frames_of_step (Merge from into) slot = []
frames_of_step (Transfer from into) slot = []
frames_of_step (Copy from into) slot = []

-- the reports that a step brings to its slot
abbrev pub new_reports : Entries → Step → Slot → List Report
new_reports tables step slot = reports_among tables (frames_of_step step slot)

-- the slot of a step: the one that gains reports
abbrev pub slot_of : Step → ℕ
slot_of (Feed i piece) = i
slot_of (End i) = i
slot_of (Merge from into) = into
slot_of (Transfer from into) = into
slot_of (Copy from into) = into

-- the reports that a step brings, if its slot is there
abbrev pub reports_brought : Entries → Step → Option Slot → List Report
reports_brought tables step None = []
reports_brought tables step (Some s) = new_reports tables step s

-- ---- what a step leaves

-- the slots after slot `into` gains all of a source, if that is there
abbrev pub joined_with : Option Slot → ℕ → List Slot → List Slot
joined_with None into slots = slots
joined_with (Some source) into slots = changed_at slots into (gains_all source)

-- the slots after slot `into` gains all of slot `from`
abbrev pub joined : ℕ → ℕ → List Slot → List Slot
joined from into slots = joined_with (slot_at slots from) into slots

-- the slots after a step
abbrev pub done : Entries → Step → List Slot → List Slot
done tables (Feed i piece) slots = changed_at slots i
    (λ s. record (gains (new_reports tables (Feed i piece) s) s) {
      open_stream = s.open_stream ++ piece;
    })
done tables (End i) slots = changed_at slots i
    (λ s. record (gains (new_reports tables (End i) s) s) {
      ended = s.ended ++ s.open_stream ∷ [];
      open_stream = [];
    })
done tables (Merge from into) slots = joined from into slots
done tables (Transfer from into) slots = joined from into slots
done tables (Copy from into) slots = joined from into slots

-- the slots after a step and its answer; if memory ran out, the slot has the first k reports more,
-- and its stream is unchanged; other faults change nothing
abbrev pub after : Entries → Step → Result Answer StepFault → List Slot → List Slot
after tables step (Ok answer) slots = done tables step slots
after tables step (Err (OutOfMemory k)) slots =
    changed_at slots (slot_of step) (λ s. gains (take k (new_reports tables step s)) s)
after tables step (Err (NoSlot i)) slots = slots
after tables step (Err StreamTooLong) slots = slots

-- ---- what a step answers

-- the number of reports of frames that change what a slot keeps, put in one by one
abbrev pub changes_of : Entries → List Found → Slot → ℕ
changes_of tables frames slot =
    count_changes (entries_of (report_entries tables slot.reports))
    (entries_of (report_entries tables (reports_among tables frames)))

-- the counts of the frames of a piece
abbrev pub fed_answer : Entries → List Found → Slot → Answer
fed_answer tables frames slot =
    Fed (count_messages tables frames) (count_refused tables frames) (changes_of tables frames slot)

-- the counts of the last frames
abbrev pub ended_answer : Entries → List Found → Slot → Answer
ended_answer tables frames slot =
    Ended (count_messages tables frames) (count_refused tables frames)
    (changes_of tables frames slot)

-- the answer to a piece
abbrev pub feed_answer : Entries → ℕ → List ℕ → Option Slot → Result Answer StepFault
feed_answer tables i piece None = Err (NoSlot i)
feed_answer tables i piece (Some s) =
    if is_too_long s.open_stream piece then Err StreamTooLong
    else Ok (fed_answer tables (frames_of_piece s.open_stream piece) s)

-- the answer to a stream's end
abbrev pub end_answer : Entries → ℕ → Option Slot → Result Answer StepFault
end_answer tables i None = Err (NoSlot i)
end_answer tables i (Some s) = Ok (ended_answer tables (frames_of_end s.open_stream) s)

-- the answer to a join; a fault names the first slot that is not there
abbrev pub join_answer : ℕ → ℕ → Option Slot → Option Slot → Result Answer StepFault
join_answer from into None target = Err (NoSlot from)
join_answer from into (Some source) None = Err (NoSlot into)
join_answer from into (Some source) (Some target) = Ok Joined

-- the answer to a step, with enough memory
abbrev pub answer_of : Entries → Step → List Slot → Result Answer StepFault
answer_of tables (Feed i piece) slots = feed_answer tables i piece (slot_at slots i)
answer_of tables (End i) slots = end_answer tables i (slot_at slots i)
answer_of tables (Merge from into) slots =
    join_answer from into (slot_at slots from) (slot_at slots into)
answer_of tables (Transfer from into) slots =
    join_answer from into (slot_at slots from) (slot_at slots into)
answer_of tables (Copy from into) slots =
    join_answer from into (slot_at slots from) (slot_at slots into)

-- memory ran out in a step that could be done, after the first k of its reports
pub record RanOut (tables : Entries) (step : Step) (slots : List Slot) (k : ℕ) : Type 0 where
  pub few : k ≤ length (reports_brought tables step (slot_at slots (slot_of step)))
  pub answer : Answer
  pub else_done : answer_of tables step slots ≡ Ok answer

-- the answers to a step: the one with enough memory, or that memory ran out after k reports
abbrev pub IsAnswer : Entries → Step → List Slot → Result Answer StepFault → Type 0
IsAnswer tables step slots (Err (OutOfMemory k)) = RanOut tables step slots k
IsAnswer tables step slots (Err (NoSlot i)) = answer_of tables step slots ≡ Err (NoSlot i)
IsAnswer tables step slots (Err StreamTooLong) = answer_of tables step slots ≡ Err StreamTooLong
IsAnswer tables step slots (Ok answer) = answer_of tables step slots ≡ Ok answer

-- ---- runs

-- each answer is one to its step
abbrev pub Run : Entries → List Step → List (Result Answer StepFault) → List Slot → Type 0
Run tables [] [] slots = Unit {0}
Run tables (step ∷ steps) (answer ∷ answers) slots =
    IsAnswer tables step slots answer × Run tables steps answers (after tables step answer slots)
Run tables [] (answer ∷ answers) slots = ⊥
Run tables (step ∷ steps) [] slots = ⊥

-- the slots after steps and their answers
abbrev pub after_all : Entries → List Step → List (Result Answer StepFault) → List Slot
    → List Slot
after_all tables [] answers slots = slots
after_all tables (step ∷ steps) [] slots = slots
after_all tables (step ∷ steps) (answer ∷ answers) slots =
    after_all tables steps answers (after tables step answer slots)
