mod LooseReads
mod RowReads
pub mod SomeRows
mod Lanes
mod LooseTexts
mod PlainTexts
mod ShortCells
mod ShortLines
mod Spelled
