pub mod Kinds
pub mod Sessions
pub mod Lists
pub mod Changes
pub mod Joined
pub mod Invariant
