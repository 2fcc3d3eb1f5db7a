pub mod Common
pub mod Silence
pub mod Flowing
pub mod RowTexts
pub mod OneFinding
pub mod FoundReports
