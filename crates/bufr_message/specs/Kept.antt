-- Messages under the template of their descriptors.
use Rattle.std.specs.Prelude.{Result}
use Rattle.bufr_bits.specs.Bits.{bits}
use Rattle.bufr_base.specs.Answers.{◌>>=◌}
use Rattle.bufr_expand.specs.Trees.{Tree}
use Rattle.bufr_data.specs.Data.{subsets_in}
use Rattle.bufr_sections.specs.declared.message.Decoded.{Decoded}
use Rattle.bufr_sections.specs.declared.fault.Refused.{Refused}
use Rattle.bufr_sections.specs.Sections.{Envelope}
use Rattle.bufr_message.specs.Messages.{data_or, ended}

-- the message of sections whose descriptors have this tree, and its slack, or the first fault
abbrev pub message_under : Tree → Envelope → Result Decoded Refused
message_under tree e =
    data_or (subsets_in tree e.compressed e.count (bits e.contents)) >>= λ found. ended e found
