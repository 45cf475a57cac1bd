-- Lemmas on sections: reading, spelling and refusals.
pub mod OnLiterals
pub mod ListFacts
pub mod SectionFacts
pub mod SpellingFacts
pub mod LengthFacts
pub mod BareFacts
pub mod BehindFacts
pub mod HeadFacts
mod EndFacts
pub mod RefusalFacts
