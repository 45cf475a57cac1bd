-- Lemmas on blanks, first values, slots, usable texts and moments.
pub mod BlankFacts
pub mod FirstFacts
pub mod MomentFacts
pub mod SlotFacts
pub mod UsableFacts
