-- What `encode` returns and writes (this project's own).
use Rattle.std.specs.Prelude.{◌≡◌, ℕ, ◌+◌, Bool, ◌||◌, List, ◌∷◌, ◌++◌, length, map}
use Rattle.std.specs.Prelude.{Option, Some, None, Result, Ok, Err}
use Rattle.std.specs.List.{flat_map}
use Rattle.bufr_base.specs.declared.failure.Failure.{Failure}
use Rattle.bufr_base.specs.declared.failure.Failure.TheVariants.{Fault}
use Rattle.bufr_bits.specs.Devices.{Reading, Writing}
use Rattle.bufr_tables.specs.Entries.{Entries}
use Rattle.bufr_message.specs.Encodings.{code}
use Rattle.bufr_message.specs.declared.EncodeFault.{EncodeFault}
use Rattle.bufr_message.specs.declared.Message.{Message}
use Rattle.bufr_listing_reader.specs.Reading.{messages_listed}
use Rattle.bufr_listing_reader.specs.Unread.{Unread, HandsOutMessage}
use Rattle.bufr_listing.specs.declared.ListingFault.{ListingFault}
use Rattle.bufr_io.specs.declared.fault.Input.TheVariants.{Number}
use Rattle.bufr_io.specs.declared.fault.Tally.{Tally}
use Rattle.bufr_io.specs.declared.fault.ToolFault.{ToolFault}
use Rattle.bufr_io.specs.declared.fault.ToolFault.TheVariants as faults
use Rattle.bufr_io.specs.Engines.{WasReadOut, HasFailed, IsEndless, AreAllOf, WritesAll}
use Rattle.bufr_io.specs.Engines.{FailsAfter}
use Rattle.bufr_engines.specs.declared.encode.Encoded.{Encoded}

-- ---- messages

-- a message as the command asks for it: compressed, if the command compresses
abbrev pub as_asked : Bool → Message → Message
as_asked compressed m = record m { compressed = m.compressed || compressed }

-- the octets of a message as the command asks for it, or its first fault
abbrev pub code_as_asked : Entries → Bool → Message → Result (List ℕ) EncodeFault
code_as_asked tables compressed m = code tables (as_asked compressed m)

-- the octets are the encodings of messages, one after another
pub record AreEncodings (tables : Entries) (compressed : Bool) (messages : List Message)
    (octets : List ℕ) : Type 0 where
  pub codes : List (List ℕ)
  pub each : map (code_as_asked tables compressed) messages ≡ map Ok codes
  pub joined : octets ≡ flat_map (λ c. c) codes

-- the message of this number, from 1, is the first without an encoding, and this is its fault
pub record IsFirstNotEncoded (tables : Entries) (compressed : Bool) (messages : List Message)
    (number : ℕ) (fault : EncodeFault) : Type 0 where
  pub before : List Message
  pub message : Message
  pub after : List Message
  pub parted : messages ≡ before ++ message ∷ after
  pub counted : number ≡ length before + 1
  pub octets : List ℕ
  pub encoded : AreEncodings tables compressed before octets
  pub refused : code_as_asked tables compressed message ≡ Err fault

-- ---- the engine

-- reads the reader to its end, and its octets list these messages
pub record ListsMessages (tables : Entries) (reader reader' : Reading) (messages : List Message)
    : Type 0 where
  pub ended : WasReadOut reader'
  pub text : List ℕ
  pub all : AreAllOf reader text
  pub listed : messages_listed tables text ≡ Ok messages

-- reads the reader to its end, and this is the first fault of its octets as a listing
pub record HasListingFault (tables : Entries) (reader reader' : Reading) (fault : ListingFault)
    : Type 0 where
  pub ended : WasReadOut reader'
  pub text : List ℕ
  pub all : AreAllOf reader text
  pub refused : messages_listed tables text ≡ Err fault

-- the counts of `encode` after this number of messages
abbrev pub tally_written : ℕ → Tally
tally_written count = record { frames = count; refused = 0; skipped = 0; reports = 0 }

-- What `run_encode` returns and does. Without a fault: it reads the whole listing and writes the
-- encodings of its messages, one after another. A fault of the listing comes before a fault of a
-- message, and it returns the first of either. If the writer fails: it has written the first
-- `written` octets of these encodings. On every other fault it has written nothing.
abbrev pub Encodes : Bool → Entries → ℕ → Reading → Reading → Writing → Writing
    → Result Tally ToolFault → Type 0
Encodes compressed tables reads reader reader' writer writer' (Ok tally) =
    (messages : List Message) × ListsMessages tables reader reader' messages
    × (octets : List ℕ) × AreEncodings tables compressed messages octets
    × WritesAll writer writer' octets × (tally ≡ tally_written (length messages))
Encodes compressed tables reads reader reader' writer writer' (Err (faults.WriteFailed written)) =
    (messages : List Message) × ListsMessages tables reader reader' messages
    × (octets : List ℕ) × AreEncodings tables compressed messages octets
    × FailsAfter written writer writer' octets
Encodes compressed tables reads reader reader' writer writer' (Err (faults.Listing why)) =
    HasListingFault tables reader reader' why × (writer' ≡ writer)
Encodes compressed tables reads reader reader' writer writer' (Err (faults.Encode number why)) =
    (messages : List Message) × ListsMessages tables reader reader' messages
    × IsFirstNotEncoded tables compressed messages number why × (writer' ≡ writer)
Encodes compressed tables reads reader reader' writer writer' (Err (faults.ReadFailed name)) =
    (name ≡ Number 1) × HasFailed reader' × (writer' ≡ writer)
Encodes compressed tables reads reader reader' writer writer' (Err (faults.EndlessInput name)) =
    (name ≡ Number 1) × IsEndless reads reader' × (writer' ≡ writer)
Encodes compressed tables reads reader reader' writer writer' (Err faults.OutOfMemory) =
    writer' ≡ writer
Encodes compressed tables reads reader reader' writer writer' (Err fault) = ⊥

-- ---- message by message

-- the encodings and the number of the messages that a text lists; or the first fault of the
-- listing; or, after it, of a message
abbrev pub EncodesListing : Entries → Bool → List ℕ → Result Encoded ToolFault → Type 0
EncodesListing tables compressed text (Ok encoded) =
    (messages : List Message) × (messages_listed tables text ≡ Ok messages)
    × AreEncodings tables compressed messages encoded.octets.items
    × (encoded.count ≡ length messages)
EncodesListing tables compressed text (Err (faults.Listing why)) =
    messages_listed tables text ≡ Err why
EncodesListing tables compressed text (Err (faults.Encode number why)) =
    (messages : List Message) × (messages_listed tables text ≡ Ok messages)
    × IsFirstNotEncoded tables compressed messages number why
EncodesListing tables compressed text (Err faults.OutOfMemory) = Unit {0}
EncodesListing tables compressed text (Err fault) = ⊥

-- hands out the next of the messages left, or returns the fault of the listing
abbrev pub ReadsMessage : Unread → Unread → Result (Option Message) ToolFault → Type 0
ReadsMessage old new (Ok found) = HandsOutMessage old (Ok found) new
ReadsMessage old new (Err (faults.Listing why)) = HandsOutMessage old (Err (Fault why)) new
ReadsMessage old new (Err faults.OutOfMemory) = Unit {0}
ReadsMessage old new (Err fault) = ⊥

-- passes all messages left, or returns the fault of the listing after them
abbrev pub PassesAll : Unread → Result (Unit {0}) ToolFault → Type 0
PassesAll u (Ok done) = u.fault ≡ None
PassesAll u (Err (faults.Listing why)) = u.fault ≡ Some why
PassesAll u (Err faults.OutOfMemory) = Unit {0}
PassesAll u (Err fault) = ⊥

-- returns the fault of the listing after the messages left, or else why the message of this number
-- has no encoding
abbrev pub TellsFault : Unread → ℕ → Failure EncodeFault → ToolFault → Type 0
TellsFault u number failure (faults.Listing why) = u.fault ≡ Some why
TellsFault u number failure (faults.Encode which why) =
    (u.fault ≡ None) × (which ≡ number) × (failure ≡ Fault why)
TellsFault u number failure faults.OutOfMemory = Unit {0}
TellsFault u number failure fault = ⊥
