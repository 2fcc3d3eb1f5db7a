pub mod Answers
pub mod Flows
pub mod Streams
pub mod Laws
pub mod inner
