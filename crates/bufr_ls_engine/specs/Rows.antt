-- The rows of frames, as functions of the streams (this project's own). `envelope_of` of bufr_sections
-- gives the sections of a message.
use Rattle.std.specs.Prelude.{◌≡◌, ℕ, ◌==◌, ◌||◌, not, Bool, true, false, List, [], ◌∷◌, ◌++◌}
use Rattle.std.specs.Prelude.{length, get_or, decimal, sum_by, Result, Ok, Err}
use Rattle.std.specs.List.{join_by, flat_map, list_all}
use Rattle.std.specs.Int.{from_bool}
use Rattle.bufr_tables.specs.Descriptors.{six_digits}
use Rattle.bufr_sections.specs.declared.fault.Refused.{Refused}
use Rattle.bufr_sections.specs.declared.fault.Refused.TheVariants as faults
use Rattle.bufr_sections.specs.Reasons.{reason}
use Rattle.bufr_sections.specs.Sections.{Envelope, envelope_of}
use Rattle.bufr_frame.specs.declared.frames.Found.{Found}
use Rattle.bufr_frame.specs.Streams.{cut}
use Rattle.bufr_io.specs.declared.fault.Tally.{Tally}
use Rattle.bufr_io.specs.Numbered.{frames_from, inputs_from, inputs_to}
use Rattle.bufr_ls_engine.specs.Columns.{word}
use Rattle.bufr_ls_engine.specs.declared.column.Column.{Column}
use Rattle.bufr_ls_engine.specs.declared.column.Column.TheVariants.{Input, Message, Place, Length}
use Rattle.bufr_ls_engine.specs.declared.column.Column.TheVariants.{Edition, Centre, SubCentre}
use Rattle.bufr_ls_engine.specs.declared.column.Column.TheVariants.{Update, Category, International}
use Rattle.bufr_ls_engine.specs.declared.column.Column.TheVariants.{LocalCategory, MasterTable}
use Rattle.bufr_ls_engine.specs.declared.column.Column.TheVariants.{MasterVersion, LocalVersion}
use Rattle.bufr_ls_engine.specs.declared.column.Column.TheVariants.{Year, Month, Day, Hour, Minute}
use Rattle.bufr_ls_engine.specs.declared.column.Column.TheVariants.{Second, Subsets, Observed}
use Rattle.bufr_ls_engine.specs.declared.column.Column.TheVariants.{Compressed, Descriptors, Reason}

-- ---- a field

-- the edition of a frame, in its octet 8
abbrev pub edition_of : List ℕ → ℕ
edition_of octets = get_or octets 7 0

-- the field of a column of the sections of a message, whose master table is 0
unfoldable pub said_in : Column → Envelope → List ℕ
said_in Centre e = decimal e.head.centre
said_in SubCentre e = decimal e.head.sub_centre
said_in Update e = decimal e.head.update
said_in Category e = decimal e.head.category
said_in International e = decimal e.head.international
said_in LocalCategory e = decimal e.head.local_category
said_in MasterTable e = decimal 0
said_in MasterVersion e = decimal e.head.master_version
said_in LocalVersion e = decimal e.head.local_version
said_in Year e = decimal e.head.year
said_in Month e = decimal e.head.month
said_in Day e = decimal e.head.day
said_in Hour e = decimal e.head.hour
said_in Minute e = decimal e.head.minute
said_in Second e = decimal e.head.second
said_in Subsets e = decimal e.count
said_in Observed e = decimal (from_bool e.observed)
said_in Compressed e = decimal (from_bool e.compressed)
said_in Descriptors e = join_by six_digits (32 ∷ []) e.descriptors
said_in _ e = []

-- the master table of a refusal
abbrev pub master_table_of : Refused → List ℕ
master_table_of (faults.MasterTable number) = decimal number
master_table_of why = []

-- the field of a column of a refusal
unfoldable pub refused_in : Column → Refused → List ℕ
refused_in MasterTable why = master_table_of why
refused_in Reason why = reason why
refused_in _ why = []

-- the field of a column of either
abbrev pub told_in : Column → Result Envelope Refused → List ℕ
told_in column (Ok e) = said_in column e
told_in column (Err why) = refused_in column why

-- the field of a column in the row of a frame with these numbers, given its sections
unfoldable pub field_as : Column → ℕ → ℕ → Found → Result Envelope Refused → List ℕ
field_as Input input message frame said = decimal input
field_as Message input message frame said = decimal message
field_as Place input message frame said = decimal frame.place
field_as Length input message frame said = decimal (length frame.bytes)
field_as Edition input message frame said = decimal (edition_of frame.bytes)
field_as column input message frame said = told_in column said

-- the field of a column in the row of a frame with these numbers
abbrev pub field : Column → ℕ → ℕ → Found → List ℕ
field column input message frame =
    field_as column input message frame (envelope_of frame.bytes)

-- neither a comma, a quote nor the end of a line
abbrev pub is_plain : ℕ → Bool
is_plain c = not (c == 44 || c == 34 || c == 10 || c == 13)

-- a text that needs no quotes
abbrev pub IsPlain : List ℕ → Type 0
IsPlain text = list_all is_plain text ≡ true

-- a column whose field of a message has at most 40 octets: each but the descriptors
abbrev pub is_short : Column → Bool
is_short Descriptors = false
is_short _ = true

-- ---- a line

-- the fields of a frame, with commas between them, given its sections
abbrev pub fields_as : List Column → ℕ → ℕ → Found → Result Envelope Refused → List ℕ
fields_as columns input message frame said =
    join_by (λ column. field_as column input message frame said) (44 ∷ []) columns

-- the row of a frame, given its sections
abbrev pub row_as : List Column → ℕ → ℕ → Found → Result Envelope Refused → List ℕ
row_as columns input message frame said = fields_as columns input message frame said ++ 10 ∷ []

-- the row of a frame with this number in the input of this number
abbrev pub row : List Column → ℕ → ℕ → Found → List ℕ
row columns input message frame =
    row_as columns input message frame (envelope_of frame.bytes)

-- the header line: the words of the columns, with commas between them
abbrev pub header : List Column → List ℕ
header columns = join_by word (44 ∷ []) columns ++ 10 ∷ []

-- ---- all lines

-- the rows of the first frames of an input
abbrev pub rows : List Column → ℕ → List Found → List ℕ
rows columns input frames = frames_from (row columns input) 1 frames

-- what `bufr-ls` prints of inputs with these streams: the header line, and a row for each frame
abbrev pub listed_heads : List Column → List (List ℕ) → List ℕ
listed_heads columns streams = header columns ++ inputs_from (row columns) 1 streams

-- what it prints of inputs with these streams, and of the first frames of the next input
abbrev pub listed_to : List Column → List (List ℕ) → List Found → List ℕ
listed_to columns streams frames = header columns ++ inputs_to (row columns) streams frames

-- ---- counts

-- the number of refusals, one or none
abbrev pub refused_as : Result Envelope Refused → ℕ
refused_as (Ok said) = 0
refused_as (Err why) = 1

-- the number of refusals of a frame
abbrev pub frame_refused : Found → ℕ
frame_refused frame = refused_as (envelope_of frame.bytes)

-- the number of refused frames
abbrev pub refused_of : List Found → ℕ
refused_of frames = sum_by frame_refused frames

-- the frames of streams, one stream after another
abbrev pub frames_of : List (List ℕ) → List Found
frames_of streams = flat_map cut streams

-- the counts of streams
abbrev pub counted : List (List ℕ) → Tally
counted streams = record {
  frames = length (frames_of streams);
  refused = refused_of (frames_of streams);
  skipped = 0;
  reports = 0;
}
