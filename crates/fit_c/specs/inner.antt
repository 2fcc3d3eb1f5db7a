-- Definitions that no public contract cites: what private functions and proofs need.
pub mod Handles
pub mod WriterHandles
