pub mod Differing
pub mod Writing
pub mod Sums
pub mod Failing
