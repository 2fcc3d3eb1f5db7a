pub mod Heard
pub mod Reports
pub mod Telling
pub mod Documents
pub mod Laws
pub mod inner
