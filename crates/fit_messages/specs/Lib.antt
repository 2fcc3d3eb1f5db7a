pub mod Blocks
pub mod Kept
pub mod Laws
pub mod inner
