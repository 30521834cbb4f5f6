pub mod Stores
pub mod Slots
pub mod Indexed
pub mod Invariant
pub mod Reading
pub mod Looks
pub mod Prefixes
