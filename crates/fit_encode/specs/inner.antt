-- Definitions that no public contract cites: what private functions and proofs need.
pub mod Sending
pub mod Spelling
pub mod Open
pub mod Kept
