pub mod AtEach
pub mod Boxing
pub mod ByPlace
pub mod Deals
pub mod Everyone
pub mod Opens
pub mod Zips
