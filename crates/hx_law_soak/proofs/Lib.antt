pub mod Turns
pub mod Sums
pub mod Cutting
pub mod Maps
pub mod Times
pub mod Quiet
pub mod Given
pub mod Histories
pub mod Tallies
pub mod Headline
mod Example
