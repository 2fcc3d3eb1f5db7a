-- Definitions that no public contract cites: what private functions and proofs need.
pub mod Reporting
pub mod TextFaults
pub mod Seven
pub mod Misfits
pub mod Progress
pub mod SoundChain
pub mod Judging
