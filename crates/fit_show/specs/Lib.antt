pub mod ShowLines
pub mod Laws
pub mod inner
