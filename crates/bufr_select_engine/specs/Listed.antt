-- Rows are determined by listings, so that `bufr-select` and `bufr show` cannot differ.
use Rattle.std.specs.Prelude.{◌≡◌, ℕ, Ok}
use Rattle.std.specs.List.{AllByRecursion}
use Rattle.bufr_tables.specs.Descriptors.{IsDescriptor}
use Rattle.bufr_sections.specs.Sections.{AreOctets}
use Rattle.bufr_message.specs.declared.Decoded.{Decoded}
use Rattle.bufr_message.specs.declared.Message.{Message}
use Rattle.bufr_frame.specs.declared.frames.Found.{Found}
use Rattle.bufr_listing.specs.Listings.{listing}
use Rattle.bufr_select_rows.specs.Pairs.{message_under}
use Rattle.bufr_select_engine.specs.Selected.{Selection, frame_rows, message_rows}

-- each field of each subset has a descriptor
abbrev pub HasDescriptors : Message → Type 0
HasDescriptors m =
    AllByRecursion (λ s. AllByRecursion (λ f. IsDescriptor f.fxy) s.fields) m.subsets

-- messages with the same listing have the same rows
abbrev pub ListingsDetermineRows : Type 0
ListingsDetermineRows = (s : Selection) (input number place : ℕ) (m n : Message)
    → HasDescriptors m → HasDescriptors n → listing m ≡ listing n
    → message_rows s input number place m ≡ message_rows s input number place n

-- frames at the same place have the same rows if their messages have the same listing
abbrev pub ListingsOfFramesDetermineRows : Type 0
ListingsOfFramesDetermineRows = (s : Selection) (input number : ℕ) (a b : Found) (d e : Decoded)
    → AreOctets a.bytes → AreOctets b.bytes
    → message_under s.pairs a.bytes ≡ Ok d → message_under s.pairs b.bytes ≡ Ok e
    → a.place ≡ b.place → listing d.message ≡ listing e.message
    → frame_rows s input number a ≡ frame_rows s input number b
