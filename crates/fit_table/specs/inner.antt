-- Definitions that no public contract cites: what private functions and proofs need.
pub mod TableCells
pub mod TableColumns
pub mod TableKinds
pub mod Fronts
