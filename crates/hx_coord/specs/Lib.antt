pub mod Coordinators
pub mod Changes
pub mod Numbers
pub mod Outcomes
pub mod Invariant
