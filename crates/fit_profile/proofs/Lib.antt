pub mod Common
mod PassedMessages
mod CounterBytes
mod FieldPlaces
pub mod FirstField
mod InBytes
mod Kept
pub mod KnownFacts
mod LeastFacts
mod NameFacts
mod NoCounters
mod Planned
mod ShownFacts
pub mod TakenMessages
mod TextFacts
mod KnownCounters
pub mod SliceReads
