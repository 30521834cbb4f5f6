pub mod Lists
pub mod Places
pub mod Outs
pub mod Offering
pub mod Lemmas
