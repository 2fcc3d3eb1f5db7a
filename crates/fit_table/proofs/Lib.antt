pub mod Common
mod BegunRows
mod DegreeFacts
mod FrontFacts
mod KnownTables
mod RowsInBytes
mod ShownAmounts
pub mod TableColumnFacts
pub mod TableNumbers
pub mod TableRows
pub mod ToldTable
