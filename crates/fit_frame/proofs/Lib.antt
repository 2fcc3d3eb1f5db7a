pub mod Common
pub mod OneHeader
mod HeaderRows
mod JudgedBytesAreHeaders
mod HeadersAreJudged
mod JudgedBytesBegin
