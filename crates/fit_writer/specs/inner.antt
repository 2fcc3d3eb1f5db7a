-- Definitions that no public contract cites: what private functions and proofs need.
pub mod Files
pub mod Forms
pub mod Indices
pub mod OpenFiles
pub mod Places
pub mod Spelled
pub mod Plain
pub mod Puts
pub mod Found
pub mod Describing
pub mod Runs
pub mod Kept
