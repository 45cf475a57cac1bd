-- Lemmas on listings.
pub mod OnLiterals
pub mod ListingFacts
pub mod FrontFacts
pub mod RowFacts
pub mod QuoteFacts
pub mod DecimalFacts
pub mod KeptHeadingFacts
