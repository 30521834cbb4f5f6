pub mod Says
pub mod Numbers
pub mod Quotes
pub mod Names
pub mod Reading
pub mod Drafts
pub mod Heads
pub mod Attributes
pub mod Subspaces
pub mod Assignments
pub mod Edits
pub mod Terms
pub mod Calls
pub mod Steps
pub mod Sections
pub mod Whole
pub mod Told
pub mod ToldCalls
pub mod ToldLines
pub mod ToldTexts
pub mod Only
pub mod LoneCalls
mod Examples
mod BundleReading
mod BundleCalls
mod BundleSpaces
mod BundleTurns
mod BundleSessions
mod BundleSteps
mod BundleWhole
mod BundleTold
mod BundleOnly
pub mod Lemmas
pub mod Vocabulary
