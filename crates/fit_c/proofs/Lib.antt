pub mod Common
pub mod Said
pub mod Pieces
pub mod Handed
pub mod LooseBoxes
pub mod Handles
pub mod WriterHandles
