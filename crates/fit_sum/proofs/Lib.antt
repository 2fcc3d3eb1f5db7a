pub mod Common
pub mod SixteenBits
mod ShiftsOfSums
mod PolynomialLengths
mod KnownSums
mod Division
mod RegisterOfAdded
mod TableEntries
mod EightBytes
mod PiecesOfLists
mod DivisorPower
mod TurnsAreShifts
mod BytesOfWords
mod SpelledWords
mod PairsOfWords
mod BlocksOfWords
