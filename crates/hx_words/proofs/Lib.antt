pub mod Decimals
pub mod Words
pub mod Sayings
pub mod Limiting
pub mod Choices
pub mod Names
pub mod Lemmas
