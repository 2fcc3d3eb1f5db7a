-- Definitions that no public contract cites: what private functions and proofs need.
pub mod Columns
pub mod Heads
pub mod Sheets
pub mod Telling
