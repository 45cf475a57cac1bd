pub mod Selected
pub mod Selects
pub mod Tells
pub mod Selectors
pub mod CommandLines
pub mod FrameSamples
pub mod Listed
