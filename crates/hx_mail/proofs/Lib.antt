pub mod Lists
pub mod Steps
pub mod Keeping
pub mod Once
pub mod Lemmas
