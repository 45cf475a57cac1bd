-- What the engines over the frames of a stream return and write (this project's own).
use Rattle.std.specs.Prelude.{◌≡◌, ℕ, ◌+◌, ◌*◌, ◌^◌, ◌≤◌, Bool, true, false, List, ◌++◌, length}
use Rattle.std.specs.Prelude.{◌<◌, [], ◌∷◌, IfSome, Result, Ok, Err}
use Rattle.bufr_bits.specs.Devices.{Reading, Writing}
use Rattle.bufr_tables.specs.Entries.{Entries}
use Rattle.bufr_frame.specs.declared.frames.Found.{Found}
use Rattle.bufr_frame.specs.Streams.{cut, sure}
use Rattle.bufr_listing.specs.Listings.{line, field_line}
use Rattle.bufr_message.specs.declared.Field.{Field}
use Rattle.bufr_engines.specs.declared.printer.Printer.{Printer}
use Rattle.bufr_io.specs.declared.fault.Input.TheVariants.{Number}
use Rattle.bufr_io.specs.declared.fault.Tally.{Tally}
use Rattle.bufr_io.specs.declared.fault.ToolFault.{ToolFault}
use Rattle.bufr_io.specs.declared.fault.ToolFault.TheVariants as faults
use Rattle.bufr_engines.specs.declared.frame_lines.OutputForm.{OutputForm}
use Rattle.bufr_io.specs.Engines.{WasReadOut, HasFailed, IsEndless, HasGiven, AreAllOf}
use Rattle.bufr_io.specs.Engines.{WritesAll, WritesAfter, FailsAfter}
use Rattle.bufr_engines.specs.Refusals.{frame_refused, refused_of}
use Rattle.bufr_engines.specs.Output.{frame_text, frames_text, octets_of}
use Rattle.bufr_engines.specs.Output.{stream_text, tally_of}
use Rattle.bufr_io.specs.Lines.{AreWholeLines, WritesLines}
use Rattle.bufr_io.specs.Reached.{frames_by}

-- ---- an engine

-- the text for these frames, and at the end the last line
abbrev pub text_by : OutputForm → Entries → Bool → List ℕ → List ℕ
text_by printing tables true read = stream_text printing tables read
text_by printing tables false read = frames_text printing tables (sure read)

-- What `run_show` and `run_check` return and do. Without a fault: they read the whole stream and
-- write its text. If a read fails or the input is endless: they have written the lines of the sure
-- frames of the octets read, and nothing else. If memory runs out: they have written the first
-- whole lines of the frames that a framer may hand out after the octets read, and nothing else. If
-- the writer fails: they have written the first `written` octets of the text for the octets read,
-- which begin the text of the whole stream too.
abbrev pub Prints : OutputForm → Entries → ℕ → Reading → Reading → Writing → Writing
    → Result Tally ToolFault → Type 0
Prints printing tables reads reader reader' writer writer' (Ok tally) =
    WasReadOut reader' × (stream : List ℕ) × AreAllOf reader stream
    × WritesAll writer writer' (stream_text printing tables stream)
    × (tally ≡ tally_of printing tables stream)
Prints printing tables reads reader reader' writer writer' (Err (faults.ReadFailed name)) =
    (name ≡ Number 1) × HasFailed reader' × (read : List ℕ) × HasGiven reader reader' read
    × WritesAll writer writer' (frames_text printing tables (sure read))
Prints printing tables reads reader reader' writer writer' (Err (faults.EndlessInput name)) =
    (name ≡ Number 1) × IsEndless reads reader' × (read : List ℕ) × HasGiven reader reader' read
    × WritesAll writer writer' (frames_text printing tables (sure read))
Prints printing tables reads reader reader' writer writer' (Err (faults.WriteFailed written)) =
    (reader'.failed ≡ false) × (read : List ℕ) × HasGiven reader reader' read
    × FailsAfter written writer writer' (text_by printing tables reader'.met_end read)
    × IfSome reader.left (λ stream. FailsAfter written writer writer'
    (stream_text printing tables stream))
Prints printing tables reads reader reader' writer writer' (Err faults.OutOfMemory) =
    (reader'.failed ≡ false) × (read : List ℕ) × HasGiven reader reader' read
    × WritesLines writer writer' (frames_text printing tables (frames_by reader'.met_end read))
Prints printing tables reads reader reader' writer writer' (Err fault) = ⊥

-- ---- field by field

-- takes the first of the fields left and adds its line, or none is left
abbrev pub HoldsField : Bool → List Field → List Field → List ℕ → List ℕ → Type 0
HoldsField true old new text text' = (f : Field) × (old ≡ f ∷ new)
    × (text' ≡ text ++ line (field_line f))
HoldsField false old new text text' = (old ≡ []) × (new ≡ []) × (text' ≡ text)

-- ---- text by text

-- writes the first lines of a text after `before` octets, so that the writer has `now`, and holds
-- the rest of the text: whole lines both
pub record WritesAllBut (held text : List ℕ) (before now : ℕ) (writer writer' : Writing) : Type 0
  where
    pub front : List ℕ
    pub parted : text ≡ front ++ held
    pub front_whole : AreWholeLines front
    pub held_whole : AreWholeLines held
    pub written : WritesAll writer writer' front
    pub counted : now ≡ before + length front

-- writes or holds the first lines of a text
pub record WritesSome (held text : List ℕ) (before now : ℕ) (writer writer' : Writing) : Type 0
  where
    pub front : List ℕ
    pub rest : List ℕ
    pub parted : text ≡ front ++ rest
    pub done : WritesAllBut held front before now writer writer'

-- writes all lines that the printer holds, or the writer fails after their first octets
abbrev pub WritesHeld : Printer → Printer → Writing → Writing → Result (Unit {0}) ToolFault
    → Type 0
WritesHeld p p' writer writer' (Ok done) =
    WritesAll writer writer' p.held.items × (p'.held.items ≡ [])
    × (p'.written ≡ p.written + length p.held.items)
WritesHeld p p' writer writer' (Err fault) =
    WritesAfter p.written p.held.items writer writer' (Err fault)

-- adds a text to the lines that the printer holds: writes the first lines of both and holds the
-- others; or the writer fails after the first octets; or memory runs out after some of the lines
abbrev pub Adds : List ℕ → Printer → Printer → Writing → Writing → Result (Unit {0}) ToolFault
    → Type 0
Adds text p p' writer writer' (Ok done) = WritesAllBut p'.held.items (p.held.items ++ text)
    p.written p'.written writer writer'
Adds text p p' writer writer' (Err (faults.WriteFailed written)) =
    (more : ℕ) × (written ≡ p.written + more)
    × FailsAfter more writer writer' (p.held.items ++ text)
Adds text p p' writer writer' (Err faults.OutOfMemory) = WritesSome p'.held.items
    (p.held.items ++ text) p.written p'.written writer writer'
Adds text p p' writer writer' (Err fault) = ⊥

-- writes the first of the lines that the printer holds, or the writer fails after their first
-- octets
abbrev pub WritesPart : Printer → Printer → Writing → Writing → Result (Unit {0}) ToolFault
    → Type 0
WritesPart p p' writer writer' (Ok done) = WritesAllBut p'.held.items p.held.items
    p.written p'.written writer writer'
WritesPart p p' writer writer' (Err fault) =
    WritesAfter p.written p.held.items writer writer' (Err fault)

-- the command, the tables and the counts stay; lines may move to the writer
pub record Keeps (p p' : Printer) : Type 0 where
  pub printing : p'.printing ≡ p.printing
  pub tables : p'.message_reader ≡ p.message_reader
  pub frames : p'.frames ≡ p.frames
  pub refused : p'.refused ≡ p.refused
  pub octets : p'.octets ≡ p.octets

-- the octets written and those held, as long as a vector can be, fit the counter
abbrev pub Fits : Printer → Type 0
Fits p = length p.held.items < 2 ^ 64 → p.written + length p.held.items < 2 ^ 128

-- ---- frame by frame

-- prints and counts a frame
pub record HasAdded (printing : OutputForm) (tables : Entries) (frame : Found) (p p' : Printer)
    (writer writer' : Writing) : Type 0 where
  pub text : WritesAllBut p'.held.items (p.held.items ++ frame_text printing tables frame)
      p.written p'.written writer writer'
  pub frames : p'.frames ≡ p.frames + 1
  pub refused : p'.refused ≡ p.refused + frame_refused tables frame
  pub octets : p'.octets ≡ p.octets + length frame.bytes
  pub short : length (frame_text printing tables frame) < 2 ^ 80

-- prints and counts a frame, or stops within its text
abbrev pub PrintsFrame : OutputForm → Entries → Found → Printer → Printer → Writing → Writing
    → Result (Unit {0}) ToolFault → Type 0
PrintsFrame printing tables frame p p' writer writer' (Ok done) =
    HasAdded printing tables frame p p' writer writer'
PrintsFrame printing tables frame p p' writer writer' (Err fault) =
    Adds (frame_text printing tables frame) p p' writer writer' (Err fault) × Fits p'

-- has printed and counted these frames since the writer's state `first`: their text is what it has
-- written since and what it holds
pub record HasPrinted (printing : OutputForm) (tables : Entries) (first now : Writing)
    (p : Printer) (frames : List Found) : Type 0 where
  pub printing_is : p.printing ≡ printing
  pub tables_are : p.message_reader ≡ tables
  pub text : WritesAllBut p.held.items (frames_text printing tables frames) 0 p.written
      first now
  pub frames_are : p.frames ≡ length frames
  pub refused_are : p.refused ≡ refused_of tables frames
  pub octets_are : p.octets ≡ octets_of frames
  pub short : length (frames_text printing tables frames) + length frames ≤ 2 ^ 80 * length frames

-- stops within a text with a fault: the writer fails after its first octets, or memory runs out
-- when some of its lines are written or held
abbrev pub StopsWithin : List ℕ → Writing → Printer → Writing → ToolFault → Type 0
StopsWithin text first p now (faults.WriteFailed written) = FailsAfter written first now text
StopsWithin text first p now faults.OutOfMemory =
    WritesSome p.held.items text 0 p.written first now × Fits p
StopsWithin text first p now fault = ⊥

-- stops within a text with a fault, and holds no line
abbrev pub Stops : List ℕ → Writing → Writing → ToolFault → Type 0
Stops text first now (faults.WriteFailed written) = FailsAfter written first now text
Stops text first now faults.OutOfMemory = WritesLines first now text
Stops text first now fault = ⊥

-- has printed and counted these frames since these states of the printer and of its writer
pub record HasPrintedSince (start : Printer) (first : Writing) (p : Printer) (now : Writing)
    (frames : List Found) : Type 0 where
  pub counted : p.frames ≡ start.frames + length frames
  pub printed : HasPrinted start.printing start.message_reader first now p frames

-- has printed all frames of a stream of `fed` octets, which has ended
pub record HasEnded (printing : OutputForm) (tables : Entries) (first now : Writing) (p : Printer)
    (fed : ℕ) (stream : List ℕ) : Type 0 where
  pub printed : HasPrinted printing tables first now p (cut stream)
  pub long : fed ≡ length stream

-- writes the text after the frames too, or the writer fails after the first octets of the stream's
-- text; if memory runs out, some lines of its frames
abbrev pub PrintsEnd : OutputForm → Entries → List ℕ → Writing → Writing → Result Tally ToolFault
    → Type 0
PrintsEnd printing tables stream first now (Ok tally) =
    WritesAll first now (stream_text printing tables stream)
    × (tally ≡ tally_of printing tables stream)
PrintsEnd printing tables stream first now (Err (faults.WriteFailed written)) =
    FailsAfter written first now (stream_text printing tables stream)
PrintsEnd printing tables stream first now (Err faults.OutOfMemory) =
    WritesLines first now (frames_text printing tables (cut stream))
PrintsEnd printing tables stream first now (Err fault) = ⊥
