mod KnownReadings
pub mod OneReading
pub mod ProfileNames
pub mod SmallSizes
pub mod ReadBack
pub mod ColumnsBack
pub mod DefinitionBack
pub mod MessageBack
pub mod HeaderBack
pub mod EventsBack
pub mod ChainBack
mod ReadNumbers
pub mod CutEntries
pub mod SameSayings
mod DefinitionFacts
pub mod OneFinding
mod PlacedItems
pub mod MessageFacts
mod FullSlots
mod LoneBlocks
mod SoundFiles
mod DefinedSlots
mod HeaderForms
pub mod ReadChains
mod WrittenBlocks
