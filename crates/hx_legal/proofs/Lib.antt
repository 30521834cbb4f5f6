pub mod Written
pub mod Fronts
pub mod Edited
