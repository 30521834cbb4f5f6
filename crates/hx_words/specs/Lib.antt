pub mod Numbers
pub mod Options
pub mod Saying
pub mod Limits
