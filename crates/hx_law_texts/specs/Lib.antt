pub mod Sayable
pub mod Again
pub mod SayableBundles
