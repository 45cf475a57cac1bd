-- Under which pair of tables a frame is read (this project's own).
use Rattle.std.specs.Prelude.{ℕ, Bool, true, List, [], ◌∷◌, ◌++◌, nat_le, codes, decimal}
use Rattle.std.specs.Prelude.{Option, Some, None, Result, Ok, Err, if◌then◌else◌}
use Rattle.std.specs.Option.{option_map_or}
use Rattle.bufr_message.specs.Messages.{message_of}
use Rattle.bufr_message.specs.declared.Decoded.{Decoded}
use Rattle.bufr_message.specs.declared.Refused.{Refused}
use Rattle.bufr_message.specs.Reasons.{reason}
use Rattle.bufr_sections.specs.Sections.{Envelope, envelope_of}
use Rattle.bufr_select_rows.specs.declared.pairs.VersionTables.{VersionTables}
use Rattle.bufr_select_rows.specs.declared.pairs.Unread.{Unread}
use Rattle.bufr_select_rows.specs.declared.pairs.Unread.TheVariants as unread

-- whether a pair of tables reads a version: one that is not above its greatest version, or any
abbrev pub reads_version : ℕ → VersionTables → Bool
reads_version version pair = option_map_or (λ greatest. nat_le version greatest) pair.greatest true

-- the first pair that reads a version
abbrev pub first_reading : ℕ → List VersionTables → Option VersionTables
first_reading version [] = None
first_reading version (pair ∷ pairs) =
    if reads_version version pair then Some pair else first_reading version pairs

-- the message of a reader, or its refusal
abbrev pub or_refused : Result Decoded Refused → Result Decoded Unread
or_refused (Ok found) = Ok found
or_refused (Err why) = Err (unread.Refused why)

-- the message that octets spell under a pair; there may be none for the version
abbrev pub message_by : Option VersionTables → ℕ → List ℕ → Result Decoded Unread
message_by (Some pair) version octets = or_refused (message_of pair.reader octets)
message_by None version octets = Err (unread.NoTables version)

-- the message that octets of a version spell under the first pair that reads the version
abbrev pub message_of_version : List VersionTables → ℕ → List ℕ → Result Decoded Unread
message_of_version pairs version octets =
    message_by (first_reading version pairs) version octets

-- the version of the master tables that sections name, or their refusal
abbrev pub version_said : Result Envelope Refused → Result ℕ Unread
version_said (Ok e) = Ok e.head.master_version
version_said (Err why) = Err (unread.Refused why)

-- the message that octets spell, given the version that they name
abbrev pub message_said : List VersionTables → List ℕ → Result ℕ Unread → Result Decoded Unread
message_said pairs octets (Ok version) = message_of_version pairs version octets
message_said pairs octets (Err why) = Err why

-- the message that octets spell under the first pair that reads their version, or why there is none
unfoldable pub message_under : List VersionTables → List ℕ → Result Decoded Unread
message_under pairs octets = message_said pairs octets (version_said (envelope_of octets))

-- the text of a reason
abbrev pub unread_reason : Unread → List ℕ
unread_reason (unread.Refused why) = reason why
unread_reason (unread.NoTables version) = codes "no tables of version " ++ decimal version
