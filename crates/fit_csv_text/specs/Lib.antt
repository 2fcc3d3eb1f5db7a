pub mod Reads
pub mod Spellings
pub mod inner
