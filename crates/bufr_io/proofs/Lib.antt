pub mod ReadingFacts
mod TakingFacts
mod LoadFacts
mod OpenFacts
