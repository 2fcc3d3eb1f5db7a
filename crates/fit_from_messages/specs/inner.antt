-- Definitions that no public contract cites: what private functions and proofs need.
pub mod Cutting
pub mod Slots
pub mod OpenFiles
pub mod Chains
pub mod Definitions
