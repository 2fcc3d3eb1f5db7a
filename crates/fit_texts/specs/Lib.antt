pub mod InstantText
pub mod Words
pub mod MessageKeys
pub mod Minutes
pub mod Sheets
pub mod Octets
pub mod Several
pub mod Laws
