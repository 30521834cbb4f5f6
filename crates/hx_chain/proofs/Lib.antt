pub mod Members
pub mod Subspaces
pub mod Pending
