-- Definitions that no public contract cites: what private functions and proofs need.
pub mod Alone
pub mod Counters
pub mod InBytes
pub mod Keeps
pub mod Places
pub mod Plans
pub mod Shows
