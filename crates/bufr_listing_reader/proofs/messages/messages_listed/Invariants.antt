use Rattle.std.proofs.Common.{◌≡◌, length}
use Rattle.bufr_listing_reader.specs.Reading.{messages_listed}
use Rattle.bufr_listing_reader.specs.Unread.{behind, all_of}
use Rattle.bufr_listing_reader.proofs.messages.messages_listed.Given as goal

-- the messages read, and those left, are the text's
abbrev pub invariant-loop-messages : goal.invariant-loop-messages
invariant-loop-messages l = all_of (behind l.messages.items l.left) ≡ messages_listed l.tables l.text

abbrev pub decreases-loop-messages : goal.decreases-loop-messages
decreases-loop-messages l = length l.left.messages
