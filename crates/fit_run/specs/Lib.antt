pub mod CommandLine
pub mod Lines
pub mod Run
pub mod Laws
pub mod inner
