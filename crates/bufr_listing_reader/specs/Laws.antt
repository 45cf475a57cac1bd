-- Laws on listings and on reading them.
use Rattle.std.specs.Prelude.{◌≡◌, ℕ, List, Ok, Err}
use Rattle.std.specs.List.{flat_map, AllByRecursion}
use Rattle.bufr_tables.specs.Entries.{Entries}
use Rattle.bufr_sections.specs.declared.message.Message.{Message}
use Rattle.bufr_listing.specs.Listings.{listing}
use Rattle.bufr_listing.specs.declared.fault.ListingFault.{ListingFault}
use Rattle.bufr_listing_reader.specs.Lines.{Listed, CanBeListed}
use Rattle.bufr_listing_reader.specs.Reading.{messages_listed}
use Rattle.bufr_listing_reader.specs.FirstFaults.{FirstFault}

-- a text lists the messages that reading returns
abbrev pub MessagesReadAreListed : Type 0
MessagesReadAreListed = (tables : Entries) (text : List ℕ) (messages : List Message)
    → messages_listed tables text ≡ Ok messages → Listed tables text messages

-- reading returns the messages that a text lists
abbrev pub MessagesListedAreRead : Type 0
MessagesListedAreRead = (tables : Entries) (text : List ℕ) (messages : List Message)
    → Listed tables text messages → messages_listed tables text ≡ Ok messages

-- reading the joined listings of messages returns these messages
abbrev pub ListingsAreReadBack : Type 0
ListingsAreReadBack = (tables : Entries) (messages : List Message)
    → AllByRecursion (λ m. CanBeListed tables m) messages
    → messages_listed tables (flat_map listing messages) ≡ Ok messages

-- the fault that reading returns is the text's first
abbrev pub FaultsReadAreFirst : Type 0
FaultsReadAreFirst = (tables : Entries) (text : List ℕ) (fault : ListingFault)
    → messages_listed tables text ≡ Err fault → FirstFault tables text fault

-- reading returns the first fault of a text: so a text has at most one, and lists no messages if it
-- has one
abbrev pub FirstFaultsAreRead : Type 0
FirstFaultsAreRead = (tables : Entries) (text : List ℕ) (fault : ListingFault)
    → FirstFault tables text fault → messages_listed tables text ≡ Err fault
