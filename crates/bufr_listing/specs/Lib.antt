pub mod Listings
pub mod OctetLines
pub mod Laws
pub mod Reasons
pub mod DecimalLaws
pub mod KeptHeadings
