pub mod Parts
pub mod Slots
pub mod Alone
pub mod Misfits
pub mod SaysChain
pub mod FromBlocks
pub mod Laws
pub mod inner
