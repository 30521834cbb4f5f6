pub mod Listed
pub mod Events
pub mod Calls
pub mod Searches
pub mod Issued
