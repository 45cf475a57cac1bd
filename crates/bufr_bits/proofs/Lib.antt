-- Lemmas on bits of octets that are taken, put and shifted.
pub mod BitLists
pub mod Fronts
pub mod Puts
pub mod Moves
