pub mod Common
pub mod AddedCells
pub mod BeginFacts
pub mod CellFacts
mod DevFields
pub mod DevKeyFacts
mod InstantFacts
pub mod ItemFacts
mod KnownInstants
pub mod MinuteFacts
pub mod NamingFacts
pub mod PlainInstants
pub mod ProfileScales
pub mod SeveralNumbers
pub mod Shapes
pub mod Sheets
pub mod Stamps
