pub mod Ports
pub mod Boxes
pub mod Rule
