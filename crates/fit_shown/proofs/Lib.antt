pub mod Common
pub mod FieldWalks
pub mod FloatCells
pub mod OctetCells
pub mod SeveralCells
pub mod ShownCells
pub mod TextCells
pub mod TwoCells
