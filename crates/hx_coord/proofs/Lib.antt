pub mod Lists
pub mod Steps
pub mod Heard
pub mod Making
pub mod Posted
