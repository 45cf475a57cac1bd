-- The number of a stream's frames that spell no message under the tables (this project's own).
use Rattle.std.specs.Prelude.{ℕ, Result, Ok, Err, List, sum_by}
use Rattle.bufr_tables.specs.Entries.{Entries}
use Rattle.bufr_frame.specs.declared.frames.Found.{Found}
use Rattle.bufr_message.specs.declared.Decoded.{Decoded}
use Rattle.bufr_message.specs.declared.Refused.{Refused}
use Rattle.bufr_message.specs.Messages.{message_of}

-- the number of refusals of one message: 1 or 0
abbrev pub refused_as : Result Decoded Refused → ℕ
refused_as (Ok found) = 0
refused_as (Err why) = 1

-- the number of refusals of one frame under the tables: 1 or 0
abbrev pub frame_refused : Entries → Found → ℕ
frame_refused tables frame = refused_as (message_of tables frame.bytes)

-- the number of frames that spell no message
abbrev pub refused_of : Entries → List Found → ℕ
refused_of tables frames = sum_by (frame_refused tables) frames
