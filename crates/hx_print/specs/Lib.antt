pub mod Printing
pub mod Plain
pub mod Prefixes
pub mod BundlePrinting
