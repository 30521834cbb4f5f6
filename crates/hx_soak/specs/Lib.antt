pub mod Drawing
pub mod Calling
pub mod Soaking
pub mod Owning
pub mod Tallying
pub mod Summing
pub mod Present
