pub mod Common
pub mod RoundTrip
pub mod TableText
pub mod Holding
pub mod RideFaults
pub mod Noted
pub mod Shrinking
pub mod RatesTold
