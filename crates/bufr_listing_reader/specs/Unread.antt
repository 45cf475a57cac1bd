-- What a reader of messages has left.
use Rattle.std.specs.Prelude.{◌≡◌, ℕ, zero, suc, ◌+◌, List, [], ◌∷◌, ◌++◌, length, Option, Some, None}
use Rattle.std.specs.Prelude.{Result, Ok, Err}
use Rattle.std.specs.Str.Lines.{lines}
use Rattle.bufr_base.specs.declared.failure.Failure.{Failure}
use Rattle.bufr_base.specs.declared.failure.Failure.TheVariants as failures
use Rattle.bufr_tables.specs.Entries.{Entries}
use Rattle.bufr_sections.specs.declared.message.Message.{Message}
use Rattle.bufr_listing.specs.declared.fault.ListingFault.{ListingFault}
use Rattle.bufr_listing.specs.declared.fault.ListingFault.TheVariants.{BadLine}
use Rattle.bufr_listing_reader.specs.Lines.{Line, counting_lines}
use Rattle.bufr_listing_reader.specs.Reading.{MessageRead, message_read}

-- the messages left before the first fault, and that fault if there is one
pub record Unread : Type 0 where
  pub messages : List Message
  pub fault : Option ListingFault

-- these messages, and then what is left
abbrev pub behind : List Message → Unread → Unread
behind messages u = record { messages = messages ++ u.messages; fault = u.fault }

-- nothing left
abbrev pub nothing : Unread
nothing = record { messages = []; fault = None }

-- a fault left, and no message before it
abbrev pub stopped : ListingFault → Unread
stopped fault = record { messages = []; fault = Some fault }

-- the next message and what is left after it, or its fault
abbrev pub unread_from : Result MessageRead ListingFault → (List Line → Unread) → Unread
unread_from (Ok first) left_in = behind (first.0 ∷ []) (left_in first.1)
unread_from (Err fault) left_in = stopped fault

-- what is left in lines, at most `left` of them
unfoldable pub unread_by : ℕ → Entries → ℕ → List Line → Unread
unread_by left tables past [] = nothing
unread_by zero tables past (l ∷ ls) = stopped (BadLine past)
unread_by (suc left) tables past (l ∷ ls) =
    unread_from (message_read tables past (l ∷ ls)) (λ rest. unread_by left tables past rest)

-- what is left in lines; `past` is the number after the text's last line
abbrev pub unread : Entries → ℕ → List Line → Unread
unread tables past ls = unread_by (length ls) tables past ls

-- what is left of a whole text: its messages up to the first fault
abbrev pub unread_in : Entries → List ℕ → Unread
unread_in tables text = unread tables (length (lines text) + 1) (counting_lines text)

-- messages, or the fault after them
abbrev pub or_fault : List Message → Option ListingFault → Result (List Message) ListingFault
or_fault messages None = Ok messages
or_fault messages (Some fault) = Err fault

-- all messages left, or the fault after them
abbrev pub all_of : Unread → Result (List Message) ListingFault
all_of u = or_fault u.messages u.fault

-- the call hands out the next message and leaves those after it; or nothing is left; or it returns
-- the fault before any further message. Without a message handed out, all stays
abbrev pub HandsOutMessage : Unread → Result (Option Message) (Failure ListingFault) → Unread
    → Type 0
HandsOutMessage old (Ok (Some m)) new = old ≡ behind (m ∷ []) new
HandsOutMessage old (Ok None) new = (old ≡ nothing) × (new ≡ nothing)
HandsOutMessage old (Err (failures.Fault fault)) new =
    (old ≡ stopped fault) × (new ≡ stopped fault)
HandsOutMessage old (Err failures.OutOfMemory) new = new ≡ old
