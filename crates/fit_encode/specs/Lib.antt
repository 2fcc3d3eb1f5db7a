pub mod Sinks
pub mod Faults
pub mod Encoding
pub mod Laws
pub mod inner
