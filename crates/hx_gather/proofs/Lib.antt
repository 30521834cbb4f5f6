pub mod Stretched
pub mod Ordered
pub mod Sources
pub mod Seated
pub mod Gathers
