pub mod Answers
pub mod Sources
pub mod Reads
pub mod inner
