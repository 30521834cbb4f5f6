pub mod Spelled
pub mod Takes
pub mod Assigning
pub mod Asking
pub mod Editing
pub mod MoreAxes
pub mod Lists
pub mod Lines
pub mod OfText
mod Examples
mod Yields
mod Once
mod Naming
mod FittingCalls
mod Sections
mod FittingAxes
mod SoundLines
pub mod SoundTexts
pub mod LoneCalls
pub mod InSpaces
pub mod BundleLines
pub mod BundleLists
pub mod SoundBundles
mod BundleYields
pub mod BundleValid
pub mod OneSpace
mod OfBundle
mod BundleExamples
pub mod Lemmas
