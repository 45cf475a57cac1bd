-- The lemmas of the engines' proofs.
mod TextFacts
mod LineFacts
mod LineLengths
mod ListingFacts
mod PartFacts
mod PrintingFacts
mod StreamFacts
mod EngineFacts
mod OnLiterals
pub mod EncodingFacts
pub mod FrameFacts
pub mod AddedFacts
pub mod CollectFacts
pub mod LawFacts
pub mod HandOnFacts
pub mod WayFacts
pub mod StackFacts
mod FieldFacts
