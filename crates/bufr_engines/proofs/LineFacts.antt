-- The text of a frame is whole lines, and so is the part written before memory runs out: for
-- `run_show` and `run_check`.
use Rattle.std.proofs.Common.{◌≡◌, ℕ, false, inl, List, [], ◌∷◌, ◌++◌, codes, decimal, length}
use Rattle.std.proofs.Common.{Result, Ok, Err, refl, ap, ◌∙◌}
use Rattle.std.proofs.Common.{append_assoc}
use Rattle.bufr_bits.specs.Devices.{Writing}
use Rattle.bufr_tables.specs.Entries.{Entries}
use Rattle.bufr_frame.specs.declared.frames.Found.{Found}
use Rattle.bufr_listing.specs.Listings.{line, joined, field_line, lines_of, listing}
use Rattle.bufr_message.specs.declared.Decoded.{Decoded}
use Rattle.bufr_message.specs.declared.Field.{Field}
use Rattle.bufr_message.specs.declared.Message.{Message}
use Rattle.bufr_message.specs.declared.Refused.{Refused}
use Rattle.bufr_message.specs.Messages.{message_of}
use Rattle.bufr_message.specs.Reasons.{reason}
use Rattle.bufr_engines.specs.declared.frame_lines.OutputForm.{OutputForm}
use Rattle.bufr_engines.specs.declared.frame_lines.OutputForm.TheVariants.{Shown, Checked}
use Rattle.bufr_io.specs.Engines.{WritesAll}
use Rattle.bufr_io.specs.WritingLaws.{writes_none}
use Rattle.bufr_engines.specs.Output.{fields_text, place_and_length, printed_as, frame_text}
use Rattle.bufr_io.specs.Lines.{AreWholeLines, WritesLines}
pub use Rattle.bufr_io.specs.LineLaws.{line_whole, end_whole, both_whole, all_whole}

-- ---- listings

pub joined_whole : (ls : List (List ℕ)) → AreWholeLines (joined ls)
joined_whole ls = all_whole line ls line_whole

pub fields_whole : (fields : List Field) → AreWholeLines (fields_text fields)
fields_whole fields = all_whole (λ f. line (field_line f)) fields (λ f. line_whole (field_line f))

listing_whole : (m : Message) → AreWholeLines (listing m)
unfolding listing
listing_whole m = joined_whole (lines_of m)

-- ---- frames

pub printed_whole : (printing : OutputForm) (frame : Found) (found : Result Decoded Refused)
    → AreWholeLines (printed_as printing frame found)
printed_whole Shown frame (Ok found) = listing_whole found.message
printed_whole Shown frame (Err why) =
    line_whole (codes "# refused " ++ decimal frame.place ++ 32 ∷ reason why)
printed_whole Checked frame (Ok found) =
    line_whole (place_and_length frame ++ codes " ok " ++ decimal (length found.message.subsets)
    ++ 32 ∷ decimal found.slack_octets)
printed_whole Checked frame (Err why) =
    line_whole (place_and_length frame ++ codes " refused " ++ reason why)

pub frame_whole : (printing : OutputForm) (tables : Entries) (frame : Found)
    → AreWholeLines (frame_text printing tables frame)
frame_whole printing tables frame = printed_whole printing frame (message_of tables frame.bytes)

-- ---- lines that were written

pub lines_none : (w : Writing) (text : List ℕ) → w.failed ≡ false → WritesLines w w text
lines_none w text works = record {
  front = [];
  rest = text;
  parted = refl;
  whole = inl refl;
  written = writes_none w works;
}

pub some_lines : (first now : Writing) (front rest text : List ℕ) → text ≡ front ++ rest
    → AreWholeLines front → WritesAll first now front → WritesLines first now text
some_lines first now front rest text parted whole all =
    record { front = front; rest = rest; parted = parted; whole = whole; written = all }

pub lines_longer : (first now : Writing) (text more all : List ℕ) → all ≡ text ++ more
    → WritesLines first now text → WritesLines first now all
lines_longer first now text more all is h = record {
  front = h.front;
  rest = h.rest ++ more;
  parted = is ∙ ap (λ (t : List ℕ). t ++ more) h.parted ∙ append_assoc h.front h.rest more;
  whole = h.whole;
  written = h.written;
}
