pub mod Profile
pub mod Names
pub mod Values
