pub mod Answers
pub mod Streams
pub mod Writers
pub mod Laws
pub mod inner
