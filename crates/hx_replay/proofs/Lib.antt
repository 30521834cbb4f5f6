pub mod Stepping
pub mod Scheduling
pub mod Counting
mod Versions
pub mod Reading
pub mod Making
pub mod Judging
pub mod Lawful
pub mod Coursing
mod Ending
mod WornCourses
pub mod Wearing
pub mod Verdicts
mod Stopping
pub mod Lemmas
