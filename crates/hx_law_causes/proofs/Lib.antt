pub mod Outcomes
pub mod Coordinating
pub mod Administered
pub mod Refusals
pub mod Answered
pub mod Causes
pub mod Law
pub mod Told
pub mod Named
pub mod Present
pub mod Headline
pub mod Replaying
mod Example
mod PresentExample
pub mod Lemmas
