pub mod Sequence
pub mod Soaks
