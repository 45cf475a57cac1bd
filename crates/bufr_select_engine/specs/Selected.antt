-- The rows and the refusals of frames, as functions of the streams (this project's own).
use Rattle.std.specs.Prelude.{ℕ, ◌+◌, List, [], ◌∷◌, ◌++◌, length, codes, decimal, sum_by}
use Rattle.std.specs.Prelude.{Option, Result, Ok, Err}
use Rattle.std.specs.List.{flat_map}
use Rattle.bufr_message.specs.declared.Decoded.{Decoded}
use Rattle.bufr_message.specs.declared.Message.{Message}
use Rattle.bufr_frame.specs.declared.frames.Found.{Found}
use Rattle.bufr_frame.specs.Streams.{cut}
use Rattle.bufr_io.specs.declared.fault.Tally.{Tally}
use Rattle.bufr_io.specs.Numbered.{inputs_from, inputs_to}
use Rattle.bufr_select_rows.specs.declared.column.Column.{Column}
use Rattle.bufr_select_rows.specs.MessageRows.{subsets_rows}
use Rattle.bufr_select_rows.specs.Rows.{Origin, header}
use Rattle.bufr_select_rows.specs.Pairs.{message_under, unread_reason}
use Rattle.bufr_select_rows.specs.declared.pairs.VersionTables.{VersionTables}
use Rattle.bufr_select_rows.specs.declared.pairs.Unread.{Unread}

-- what is selected: the pairs of tables, the columns, and the descriptor whose fields have a row each
pub record Selection : Type 0 where
  pub pairs : List VersionTables
  pub columns : List Column
  pub each : Option ℕ

-- ---- a frame

-- where the rows of a message come from, before its first subset
abbrev pub from_message : ℕ → ℕ → ℕ → Message → Origin
from_message input number place m = record {
  input = input;
  message = number;
  place = place;
  subset = 0;
  head = m.head;
  observed = m.observed;
  compressed = m.compressed;
}

-- the rows of a message
abbrev pub message_rows : Selection → ℕ → ℕ → ℕ → Message → List ℕ
message_rows s input number place m =
    subsets_rows s.each s.columns (from_message input number place m) 1 m.subsets

-- the rows of a frame, given its message
abbrev pub rows_as : Selection → ℕ → ℕ → Found → Result Decoded Unread → List ℕ
rows_as s input number frame (Ok found) = message_rows s input number frame.place found.message
rows_as s input number frame (Err why) = []

-- the rows of a frame that has this number in the input of this number
abbrev pub frame_rows : Selection → ℕ → ℕ → Found → List ℕ
frame_rows s input number frame =
    rows_as s input number frame (message_under s.pairs frame.bytes)

-- the line of a refused frame at a place
abbrev pub refusal_line : ℕ → ℕ → Unread → List ℕ
refusal_line input place why = codes "bufr-select: input " ++ decimal input ++ codes " at "
    ++ decimal place ++ codes ": " ++ unread_reason why ++ 10 ∷ []

-- the line of a frame, given its message
abbrev pub refusal_as : ℕ → Found → Result Decoded Unread → List ℕ
refusal_as input frame (Ok found) = []
refusal_as input frame (Err why) = refusal_line input frame.place why

-- the line of a frame, if it is refused
abbrev pub frame_refusal : Selection → ℕ → ℕ → Found → List ℕ
frame_refusal s input number frame =
    refusal_as input frame (message_under s.pairs frame.bytes)

-- ---- inputs

-- what `bufr-select` prints of inputs with these streams: the header line, and the rows of each frame
abbrev pub selected : Selection → List (List ℕ) → List ℕ
selected s streams = header s.columns ++ inputs_from (frame_rows s) 1 streams

-- what it prints of inputs with these streams, and of the first frames of the next input
abbrev pub selected_to : Selection → List (List ℕ) → List Found → List ℕ
selected_to s streams frames = header s.columns ++ inputs_to (frame_rows s) streams frames

-- the refusals of inputs with these streams
abbrev pub refusals : Selection → List (List ℕ) → List ℕ
refusals s streams = inputs_from (frame_refusal s) 1 streams

-- the refusals of inputs with these streams, and of the first frames of the next input
abbrev pub refusals_to : Selection → List (List ℕ) → List Found → List ℕ
refusals_to s streams frames = inputs_to (frame_refusal s) streams frames

-- ---- counts

-- the number of refusals, one or none
abbrev pub refused_as : Result Decoded Unread → ℕ
refused_as (Ok found) = 0
refused_as (Err why) = 1

-- the number of refusals of a frame
abbrev pub frame_refused : Selection → Found → ℕ
frame_refused s frame = refused_as (message_under s.pairs frame.bytes)

-- the number of refused frames
abbrev pub refused_of : Selection → List Found → ℕ
refused_of s frames = sum_by (frame_refused s) frames

-- the frames of streams, one stream after another
abbrev pub frames_of : List (List ℕ) → List Found
frames_of streams = flat_map cut streams

-- the counts of streams
abbrev pub counted : Selection → List (List ℕ) → Tally
counted s streams = record {
  frames = length (frames_of streams);
  refused = refused_of s (frames_of streams);
  skipped = 0;
  reports = 0;
}
