-- Definitions that no public contract cites: what private functions and proofs need.
pub mod Turns
pub mod Between
pub mod Scans
pub mod Sections
pub mod Feeds
pub mod Kept
pub mod Skips
pub mod Invariant
pub mod Aheads
