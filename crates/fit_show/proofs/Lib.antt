pub mod Common
pub mod LinesOfChains
mod ShownLines
