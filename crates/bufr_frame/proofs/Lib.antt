-- Lemmas on frames: for `Framer`, `frames_of_pieces` and the laws.
pub mod HoldingLaws
pub mod SureLaws
pub mod OpenLaws
pub mod PieceLaws
pub mod FramerLaws
pub mod MarkLaws
pub mod ScanLaws
pub mod ReachLaws
pub mod Agrees
