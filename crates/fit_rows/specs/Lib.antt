pub mod ChainRows
pub mod EventTexts
pub mod WholeMessages
pub mod Laws
pub mod inner
