pub mod Common
mod DayFacts
mod DegreeFacts
mod DigitFacts
pub mod KeptTexts
mod PutFacts
mod ScanFacts
mod ScaleFacts
mod TripleFacts
mod WriteFacts
