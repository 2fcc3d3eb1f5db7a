pub mod Checksum
pub mod inner
