pub mod Frames
pub mod Shown
pub mod CellKeys
pub mod inner
