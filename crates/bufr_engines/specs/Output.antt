-- What `show` and `check` print, as functions of what they read (this project's own).
use Rattle.std.specs.Prelude.{ℕ, ◌-◌, Result, Ok, Err, List, [], ◌∷◌, ◌++◌, length, codes, decimal}
use Rattle.std.specs.Prelude.{sum_by}
use Rattle.std.specs.List.{flat_map}
use Rattle.bufr_tables.specs.Entries.{Entries}
use Rattle.bufr_frame.specs.declared.frames.Found.{Found}
use Rattle.bufr_frame.specs.Streams.{cut}
use Rattle.bufr_message.specs.declared.Decoded.{Decoded}
use Rattle.bufr_message.specs.declared.Summary.{Summary}
use Rattle.bufr_message.specs.declared.Refused.{Refused}
use Rattle.bufr_message.specs.Summary.{summary}
use Rattle.bufr_message.specs.Messages.{message_of}
use Rattle.bufr_message.specs.declared.Field.{Field}
use Rattle.bufr_listing.specs.Listings.{line, field_line, listing}
use Rattle.bufr_message.specs.Reasons.{reason}
use Rattle.bufr_io.specs.declared.fault.Tally.{Tally}
use Rattle.bufr_engines.specs.Refusals.{refused_of}
use Rattle.bufr_engines.specs.declared.frame_lines.OutputForm.{OutputForm}
use Rattle.bufr_engines.specs.declared.frame_lines.OutputForm.TheVariants.{Shown, Checked}

-- ---- one frame

-- the lines of `show` for fields of a subset, a line for each
abbrev pub fields_text : List Field → List ℕ
fields_text fields = flat_map (λ f. line (field_line f)) fields

-- the text of `show` for a frame: the listing of its message, or its place and the refusal
abbrev pub shown_as : Found → Result Decoded Refused → List ℕ
shown_as frame (Ok found) = listing found.message
shown_as frame (Err why) = codes "# refused " ++ decimal frame.place ++ 32 ∷ reason why ++ 10 ∷ []

-- the place and the length of a frame, at the start of its line in `check`
abbrev pub place_and_length : Found → List ℕ
place_and_length frame = decimal frame.place ++ 32 ∷ decimal (length frame.bytes)

-- the line of `check` for a frame that spells a message: the number of its subsets, and the number
-- of octets of section 4 after the data
abbrev pub checked_line : Found → Summary → List ℕ
checked_line frame said = place_and_length frame ++ codes " ok "
    ++ decimal said.subsets ++ 32 ∷ decimal said.slack_octets ++ 10 ∷ []

-- the line of `check` for a frame: the line of its message, or the refusal
abbrev pub checked_as : Found → Result Decoded Refused → List ℕ
checked_as frame (Ok found) = checked_line frame (summary found)
checked_as frame (Err why) = place_and_length frame ++ codes " refused " ++ reason why ++ 10 ∷ []

-- the text of either command for a frame
abbrev pub printed_as : OutputForm → Found → Result Decoded Refused → List ℕ
printed_as Shown frame found = shown_as frame found
printed_as Checked frame found = checked_as frame found

-- the text for a frame under the tables
abbrev pub frame_text : OutputForm → Entries → Found → List ℕ
frame_text printing tables frame = printed_as printing frame (message_of tables frame.bytes)

-- ---- frames

-- the texts for frames, one after another
abbrev pub frames_text : OutputForm → Entries → List Found → List ℕ
frames_text printing tables frames = flat_map (frame_text printing tables) frames

-- the number of octets of the frames
abbrev pub octets_of : List Found → ℕ
octets_of frames = sum_by (λ frame. length frame.bytes) frames

-- ---- a stream that has ended

-- the number of a stream's octets outside its frames, for the command that counts them: the
-- stream's length less the length of its frames
abbrev pub skipped_by : OutputForm → ℕ → ℕ → ℕ
skipped_by Shown long inside = 0
skipped_by Checked long inside = long - inside

-- the counts of a stream
abbrev pub tally_of : OutputForm → Entries → List ℕ → Tally
tally_of printing tables stream = record {
  frames = length (cut stream);
  refused = refused_of tables (cut stream);
  skipped = skipped_by printing (length stream) (octets_of (cut stream));
  reports = 0;
}

-- the last line of `check`
abbrev pub tally_line : Tally → List ℕ
tally_line tally = codes "frames " ++ decimal tally.frames ++ codes " refused "
    ++ decimal tally.refused ++ codes " skipped " ++ decimal tally.skipped ++ 10 ∷ []

-- the text after the frames
abbrev pub last_text : OutputForm → Tally → List ℕ
last_text Shown tally = []
last_text Checked tally = tally_line tally

-- the text for a stream: for each frame of its cut, and the last line
abbrev pub stream_text : OutputForm → Entries → List ℕ → List ℕ
stream_text printing tables stream =
    frames_text printing tables (cut stream) ++ last_text printing (tally_of printing tables stream)

-- the output of `show` for a stream
abbrev pub shown : Entries → List ℕ → List ℕ
shown tables stream = frames_text Shown tables (cut stream)

-- the output of `check` for a stream
abbrev pub checked : Entries → List ℕ → List ℕ
checked tables stream =
    frames_text Checked tables (cut stream) ++ tally_line (tally_of Checked tables stream)
