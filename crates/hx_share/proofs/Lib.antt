pub mod Left
pub mod Counts
pub mod Ends
