pub mod Rounds
pub mod Floors
pub mod Joined
pub mod Ran
pub mod Closed
