-- Depots, as contracts see them, and their slots.
use Rattle.std.specs.Prelude.{◌≡◌, List, length}
use Rattle.std.specs.List.{AllZip}
use Rattle.bufr_tables.specs.Entries.{Entries}
use Rattle.bufr_frame.specs.Framings.{Framing}
use Rattle.bufr_frame.specs.Streams.{sure, Stands}
use Rattle.bufr_gather.specs.Archives.{ArchiveView}
use Rattle.bufr_gather.specs.ReportEntries.{AreUnder}
use Rattle.bufr_gather.specs.ReportTexts.{archive_of}
use Rattle.bufr_sections.specs.Sections.{AreOctets}
use Rattle.bufr_archive.specs.Slots.{Slot}

-- what a depot holds for a slot: an archive, and the framer of its stream
pub record Holding : Type 0 where
  pub archive : ArchiveView
  pub framer : Framing

-- a depot: its tables, and what it holds for its slots
pub record DepotView : Type 0 where
  pub tables : Entries
  pub slots : List Holding

-- the archive holds what is kept of the slot's reports, all under the tables; and the framer has
-- taken in the slot's open stream and handed out all its sure frames
pub record HoldsSlot (tables : Entries) (holding : Holding) (slot : Slot) : Type 0 where
  pub under : AreUnder tables slot.reports
  pub archive : holding.archive ≡ archive_of tables slot.reports
  pub octets : AreOctets slot.open_stream
  pub framer : Stands holding.framer slot.open_stream (length (sure slot.open_stream))

-- a depot that holds these slots
abbrev pub StandsFor : DepotView → List Slot → Type 0
StandsFor depot slots = AllZip (HoldsSlot depot.tables) depot.slots slots
