-- Definitions that no public contract cites: what private functions and proofs need.
pub mod Kept
pub mod ShapeLists
pub mod Describing
