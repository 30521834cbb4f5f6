pub mod States
pub mod Updates
pub mod Acks
pub mod MarksAndTouches
pub mod Rooms
pub mod Bases
pub mod Invariant
