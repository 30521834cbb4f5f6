pub mod Orders
pub mod Sides
pub mod Looks
pub mod Runs
pub mod Searches
pub mod Invariant
