pub mod Cells
pub mod Steps
pub mod Rows
pub mod Laws
pub mod Forms
