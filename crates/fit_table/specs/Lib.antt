pub mod Degrees
pub mod Table
pub mod EventTexts
pub mod Laws
pub mod inner
