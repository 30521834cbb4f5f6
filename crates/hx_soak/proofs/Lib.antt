mod Examples
pub mod Dealing
pub mod Fitting
pub mod Owners
pub mod Lemmas
