-- What an engine over a stream returns at each of its ends: the last step to `run_show` and
-- `run_check`.
use Rattle.std.proofs.Common.{◌≡◌, ℕ, false, Option, Some, None, List, [], ◌++◌, length}
use Rattle.std.proofs.Common.{drop, Result, Ok, Err, sym, ap, ◌∙◌, subst, IfSome}
use Rattle.bufr_bits.specs.Devices.{Reading, Writing}
use Rattle.bufr_tables.specs.Entries.{Entries}
use Rattle.bufr_frame.specs.declared.frames.Found.{Found}
use Rattle.bufr_frame.specs.Streams.{cut, sure}
use Rattle.bufr_frame.specs.StreamLaws.{cut-piece}
use Rattle.bufr_engines.specs.declared.printer.Printer.{Printer}
use Rattle.bufr_io.specs.declared.fault.Input.TheVariants.{Number}
use Rattle.bufr_io.specs.declared.fault.Tally.{Tally}
use Rattle.bufr_io.specs.declared.fault.ToolFault.{ToolFault}
use Rattle.bufr_io.specs.declared.fault.ToolFault.TheVariants as faults
use Rattle.bufr_io.specs.declared.input.Pieces.{Pieces}
use Rattle.bufr_engines.specs.declared.frame_lines.OutputForm.{OutputForm}
use Rattle.bufr_io.specs.Engines.{IsFresh, WasReadOut, HasGiven, AreAllOf, FailsAfter}
use Rattle.bufr_io.specs.Inputs.{GoesOn, ReadsOn}
use Rattle.bufr_io.specs.Taking.{EndsEarly, unread, at_piece, at_end}
use Rattle.bufr_engines.specs.Output.{frames_text, stream_text, last_text, tally_of}
use Rattle.bufr_io.specs.Lines.{WritesLines}
use Rattle.bufr_io.specs.Reached.{frames_by}
use Rattle.bufr_engines.specs.StreamEngines.{text_by, Prints, PrintsEnd}
use Rattle.bufr_engines.specs.StreamEngines.{HasPrintedSince, Stops}
use Rattle.bufr_io.specs.ReadingLaws.{HasGiven_none}
use Rattle.bufr_io.specs.WritingLaws.{fails_longer}
use Rattle.bufr_engines.proofs.LineFacts.{lines_none, lines_longer}
use Rattle.bufr_engines.proofs.PartFacts.{all_written}
use Rattle.bufr_engines.proofs.PrintingFacts.{fails_further, text_append}
use Rattle.bufr_engines.proofs.StreamFacts.{end_stopped}

prints_unread : (reads : ℕ) (old new : Reading) (pieces : Pieces) (read : List ℕ) (start : Printer)
    (first : Writing) (p : Printer) (now : Writing) (e : ToolFault)
    → HasPrintedSince start first p now (sure read) → p.held.items ≡ []
    → ReadsOn (Number 1) reads old new pieces read (Err e)
    → Prints start.printing start.message_reader reads old new first now (Err e)
prints_unread reads old new pieces read start first p now (faults.ReadFailed which) h none r = (
  r.0,
  r.1,
  read,
  r.2,
  all_written p.held.items _ 0 p.written first now none h.printed.text,
)
prints_unread reads old new pieces read start first p now (faults.EndlessInput which) h none r = (
  r.0,
  r.1,
  read,
  r.2,
  all_written p.held.items _ 0 p.written first now none h.printed.text,
)
prints_unread reads old new pieces read start first p now e h none r = absurd r

-- the first octets of the sure frames' text begin the whole stream's text too
front_of_all : (printing : OutputForm) (tables : Entries) (left now : Option (List ℕ)) (read : List ℕ)
    (first last : Writing) (written : ℕ)
    → IfSome left (λ all. (rest : List ℕ) × (all ≡ read ++ rest) × (now ≡ Some rest))
    → FailsAfter written first last (frames_text printing tables (sure read))
    → IfSome left (λ stream. FailsAfter written first last (stream_text printing tables stream))
front_of_all printing tables None now read first last written given f = tt
front_of_all printing tables (Some all) now read first last written given f =
    let rest = given.0 in
    let more = drop (length (sure read)) (cut (read ++ rest)) in
    let longer : FailsAfter written first last (frames_text printing tables (cut (read ++ rest))) =
    subst (λ (fs : List Found). FailsAfter written first last (frames_text printing tables fs))
    (sym (cut-piece read rest))
    (fails_further printing tables first last (sure read) more written f) in
    subst (λ (s : List ℕ). FailsAfter written first last (stream_text printing tables s))
    (sym given.1)
    (fails_longer first last _
    (last_text printing (tally_of printing tables (read ++ rest))) written longer)

prints_part : (printing : OutputForm) (tables : Entries) (reads : ℕ) (old new : Reading)
    (first now : Writing) (read : List ℕ) (count : ℕ) (e : ToolFault)
    → GoesOn old new read count → Stops (frames_text printing tables (sure read)) first now e
    → Prints printing tables reads old new first now (Err e)
prints_part printing tables reads old new first now read count
    (faults.WriteFailed written) g p = (
      g.works,
      read,
      g.so_far,
      subst (λ b. FailsAfter written first now (text_by printing tables b read)) (sym g.met_end) p,
      front_of_all printing tables old.left new.left read first now written g.so_far p,
    )
prints_part printing tables reads old new first now read count faults.OutOfMemory g p = (
  g.works,
  read,
  g.so_far,
  subst (λ b. WritesLines first now (frames_text printing tables (frames_by b read)))
      (sym g.met_end) p,
)
prints_part printing tables reads old new first now read count e g p = absurd p

of_all : (left : Option (List ℕ)) (read : List ℕ) (P : List ℕ → Type 0)
    → IfSome left (λ all. all ≡ read) → P read → IfSome left P
of_all None read P same p = tt
of_all (Some all) read P same p = subst P (sym same) p

pub prints_whole : (printing : OutputForm) (tables : Entries) (reads : ℕ) (old new : Reading)
    (first now : Writing) (read : List ℕ) (r : Result Tally ToolFault) → WasReadOut new
    → AreAllOf old read → HasGiven old new read → PrintsEnd printing tables read first now r
    → Prints printing tables reads old new first now r
prints_whole printing tables reads old new first now read (Ok tally) out all given p =
    (out, read, all, p.0, p.1)
prints_whole printing tables reads old new first now read
    (Err (faults.WriteFailed written)) out all given p = (
      out.works,
      read,
      given,
      subst (λ b. FailsAfter written first now (text_by printing tables b read))
          (sym out.met_end) p,
      of_all old.left read
          (λ stream. FailsAfter written first now (stream_text printing tables stream)) all p,
    )
prints_whole printing tables reads old new first now read
    (Err faults.OutOfMemory) out all given p = (
      out.works,
      read,
      given,
      subst (λ b. WritesLines first now (frames_text printing tables (frames_by b read)))
          (sym out.met_end) p,
    )
prints_whole printing tables reads old new first now read (Err e) out all given p = absurd p

pub prints_nothing : (printing : OutputForm) (tables : Entries) (reads : ℕ) (reader : Reading)
    (writer : Writing) → IsFresh reader → writer.failed ≡ false
    → Prints printing tables reads reader reader writer writer (Err faults.OutOfMemory)
prints_nothing printing tables reads reader writer fresh works =
    (fresh.failed, [], HasGiven_none reader, lines_none writer _ works)

stops_further : (printing : OutputForm) (tables : Entries) (first now : Writing)
    (front rest frames : List Found) (e : ToolFault) → frames ≡ front ++ rest
    → Stops (frames_text printing tables front) first now e
    → Stops (frames_text printing tables frames) first now e
stops_further printing tables first now front rest frames (faults.WriteFailed written) is s =
    subst (λ (fs : List Found). FailsAfter written first now (frames_text printing tables fs))
    (sym is) (fails_further printing tables first now front rest written s)
stops_further printing tables first now front rest frames faults.OutOfMemory is s =
    lines_longer first now (frames_text printing tables front) (frames_text printing tables rest)
    (frames_text printing tables frames)
    (ap (frames_text printing tables) is ∙ text_append printing tables front rest) s
stops_further printing tables first now front rest frames e is s = absurd s

-- stops printing among these frames
abbrev StopsPrinting : Printer → Writing → Writing → List Found → ToolFault → Type 0
StopsPrinting start first now frames e =
    Stops (frames_text start.printing start.message_reader frames) first now e

pub prints_early : (reads : ℕ) (old new : Reading) (start : Printer) (first : Writing) (p : Printer)
    (now : Writing) (e : ToolFault)
    → EndsEarly (HasPrintedSince start first p now) (p.held.items ≡ [])
    (StopsPrinting start first now) (Number 1) reads old new e
    → Prints start.printing start.message_reader reads old new first now (Err e)
prints_early reads old new start first p now e (unread pieces read r h none) =
    prints_unread reads old new pieces read start first p now e h none r
prints_early reads old new start first p now e (at_piece read count on s) =
    prints_part start.printing start.message_reader reads old new first now read count e on
    (stops_further start.printing start.message_reader first now s.front s.rest (sure read) e s.parted
    s.stopped)
prints_early reads old new start first p now e (at_end stream out all given s) =
    prints_whole start.printing start.message_reader reads old new first now stream (Err e) out all given
    (end_stopped start.printing start.message_reader first now stream e
    (stops_further start.printing start.message_reader first now s.front s.rest (cut stream) e s.parted
    s.stopped))

pub prints_made : (printing : OutputForm) (tables : Entries) (reads : ℕ) (old new : Reading)
    (first now : Writing) (start : Printer) (r : Result Tally ToolFault)
    → start.printing ≡ printing → start.message_reader ≡ tables
    → Prints start.printing start.message_reader reads old new first now r
    → Prints printing tables reads old new first now r
prints_made printing tables reads old new first now start r is under h =
    subst (λ q. Prints q tables reads old new first now r) is
    (subst (λ t. Prints start.printing t reads old new first now r) under h)
