pub mod Common
pub mod FramedRows
mod KeyRows
mod OpenedRows
pub mod KnownRows
pub mod RowsOfEvents
pub mod ToldRows
mod ValueRows
