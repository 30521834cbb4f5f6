pub mod Meaning
pub mod Running
pub mod Lines
