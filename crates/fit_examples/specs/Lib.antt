pub mod Tables
pub mod Recordings
pub mod RoundTrips
pub mod HeartRates
pub mod Rates
pub mod inner
