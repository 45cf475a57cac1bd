pub use Rattle.bufr_entries.specs.Entries
pub use Rattle.bufr_entries.specs.Keeping
pub use Rattle.bufr_entries.specs.Marks
pub use Rattle.bufr_entries.specs.Laws as ShelfLaws
pub use Rattle.bufr_gather.specs.Archives
pub use Rattle.bufr_gather.specs.Gathering
pub use Rattle.bufr_gather.specs.ReportEntries
pub use Rattle.bufr_gather.specs.ReportLaws
pub use Rattle.bufr_gather.specs.ReportTexts
pub use Rattle.bufr_gather.specs.StreamsTold
pub use Rattle.bufr_gather.specs.Texts
pub use Rattle.bufr_shelves.specs.Shelves
pub mod Adding
pub mod Agreements
pub mod Headline
pub mod HeldSteps
pub mod Holdings
pub mod Laws
pub mod Runs
pub mod Samples
pub mod Slots
pub use Rattle.bufr_base.specs.Answers
pub use Rattle.bufr_base.specs.declared.failure.Failure
pub use Rattle.bufr_bits.specs.Devices
pub use Rattle.bufr_entries.specs.KeyOrders
pub use Rattle.bufr_entries.specs.Pages
pub use Rattle.bufr_entries.specs.declared.entry.Entry
pub use Rattle.bufr_gather.specs.ArchiveTexts
pub use Rattle.bufr_gather.specs.MergedOctets
pub use Rattle.bufr_gather.specs.Reading
pub use Rattle.bufr_message.specs.Laws as MessageLaws
pub use Rattle.bufr_message.specs.Messages
pub use Rattle.bufr_message.specs.Reports
pub use Rattle.bufr_message.specs.declared.report.Report
pub use Rattle.bufr_shelves.specs.Pairs
pub use Rattle.bufr_shelves.specs.declared.shelf.JoinFault
pub use Rattle.bufr_tables.specs.Entries as TableEntries
