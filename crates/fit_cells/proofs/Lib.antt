pub mod Common
mod KnownCells
pub mod AddedRows
pub mod HexFacts
pub mod PairFacts
pub mod ReadFacts
pub mod NumberFacts
mod StringFacts
pub mod KindFacts
pub mod LoneCells
pub mod ClassFacts
pub mod TextFacts
pub mod TextParts
mod SplitFacts
pub mod ItemFacts
pub mod RowFacts
mod ReaderFacts
pub mod OneCell
pub mod RowsWithin
pub mod FormFacts
pub mod PlainFacts
