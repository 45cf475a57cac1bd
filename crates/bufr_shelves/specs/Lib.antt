pub use Rattle.bufr_entries.specs.Entries
pub use Rattle.bufr_entries.specs.Keeping
pub mod Pairs
pub mod Ranks
pub mod Shelves
pub mod WalkLaws
