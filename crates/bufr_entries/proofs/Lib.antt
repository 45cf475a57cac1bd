-- The lemmas behind gathered entries.
pub mod AheadLemmas
pub mod PageLemmas
