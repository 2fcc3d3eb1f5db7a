-- Definitions that no public contract cites: what private functions and proofs need.
pub mod Runs
pub mod Steps
pub mod Undone
pub mod Scans
pub mod Repeated
pub mod Definitions
pub mod Whole
pub mod ByBytes
pub mod Short
