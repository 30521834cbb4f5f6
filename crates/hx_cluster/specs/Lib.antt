pub mod Opened
pub mod Everyone
pub mod Clusters
pub mod Actors
pub mod Dealt
pub mod Setups
