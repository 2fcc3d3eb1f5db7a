pub mod Header
pub mod Beginning
pub mod ReasonNames
pub mod inner
