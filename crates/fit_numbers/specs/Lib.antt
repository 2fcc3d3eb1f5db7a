pub mod Scaled
pub mod FixedText
pub mod Instant
pub mod Laws
pub mod inner
