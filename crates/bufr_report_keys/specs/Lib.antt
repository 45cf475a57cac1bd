pub mod Asked
pub mod FirstValues
pub mod Keys
pub mod Laws
pub mod Said
pub mod Samples
pub mod Usable
