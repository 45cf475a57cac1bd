-- What `MessageReader::check` returns (this project's own).
use Rattle.std.specs.Prelude.{length, Result}
use Rattle.bufr_base.specs.Answers.{◌>>=◌, result_map}
use Rattle.bufr_expand.specs.Trees.{Tree}
use Rattle.bufr_sections.specs.declared.message.Decoded.{Decoded}
use Rattle.bufr_sections.specs.declared.fault.Refused.{Refused}
use Rattle.bufr_sections.specs.Sections.{Envelope}
use Rattle.bufr_message.specs.declared.summary.Summary.{Summary}
use Rattle.bufr_message.specs.Kept.{message_under}

-- the summary of a message as read: its number of subsets, and the number of octets of section 4
-- after its data
abbrev pub summary : Decoded → Summary
summary d = record { subsets = length d.message.subsets; slack_octets = d.slack_octets }

-- the summary of the message of sections whose descriptors have this tree, or the first fault
abbrev pub summary_under : Tree → Result Envelope Refused → Result Summary Refused
summary_under tree sections = result_map summary (sections >>= message_under tree)
