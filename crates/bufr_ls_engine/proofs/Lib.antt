-- What the contracts of the engine are proved from.
mod RowFacts
mod ListingFacts
mod InputFacts
mod EngineFacts
mod FrontFacts
mod ColumnFacts
mod OnLiterals
mod FieldFacts
mod NumberFacts
mod LineFacts
mod KeptFacts
mod FieldTexts
mod SameHeads
