pub mod Common
pub mod Pieces
pub mod Sections
pub mod ClosingSums
pub mod PieceTold
pub mod Invariant
pub mod Advancing
pub mod Ended
pub mod Feeding
mod Items
mod Placed
pub mod Needed
pub mod Consumed
pub mod PieceTaken
pub mod FileRead
pub mod FileGiven
pub mod OneRead
pub mod Holding
pub mod NextRead
pub mod ChainRead
pub mod Skipping
pub mod Passing
pub mod LookingAhead
pub mod Nearly
pub mod Checking
pub mod FilesEnded
