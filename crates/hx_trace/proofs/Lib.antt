pub mod Longer
pub mod Naming
pub mod Numbering
pub mod Noted
pub mod Lemmas
