pub mod Common
pub mod CurrentFacts
pub mod HeardEvents
