pub mod Common
mod Converted
mod SevenCells
mod Closest
mod ClosestRows
mod DefinitionRows
mod ZeroItems
mod HeaderRows
mod MessageRows
mod ValueRows
mod ValueSteps
mod PartSteps
mod NextSteps
mod KnownRows
mod SoFar
mod SoundSteps
mod MoreRows
mod ChainSteps
mod Completed
mod OneStep
mod ProfileOffsets
mod OneWay
mod WholeRuns
mod Judging
mod Following
pub mod PlacesOfRows
mod OneChain
pub mod OneFinding
mod InRange
mod SevenRows
mod FromChain
mod Unwritten
mod ReportTexts
mod JudgedRows
mod WholeRecords
mod OpenFiles
