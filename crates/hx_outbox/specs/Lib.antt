pub mod Zipped
pub mod Places
pub mod Valid
pub mod Outboxes
pub mod Offers
pub mod Floors
