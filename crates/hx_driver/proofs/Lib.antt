pub mod Heard
pub mod Taking
pub mod Taken
pub mod Results
pub mod Made
pub mod Turned
pub mod Waiting
pub mod Same
pub mod Worn
mod Booking
mod Moving
mod Places
pub mod Going
