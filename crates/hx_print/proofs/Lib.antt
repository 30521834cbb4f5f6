pub mod BundleSessions
pub mod Decimals
pub mod Examples
pub mod Plain
pub mod Prefixes
pub mod Turning
