-- The lemmas behind both shelves: keys, and pairs in order.
pub mod GatheredFacts
pub mod PairLemmas
pub mod PutLemmas
pub mod ShelvedLemmas
pub mod SortedLemmas
