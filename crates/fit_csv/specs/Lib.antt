pub mod Conversions
pub mod Judged
pub mod RowKinds
pub mod FromText
pub mod Laws
pub mod Follows
pub mod inner
