pub use Rattle.hx_model.specs.Runs
pub mod Entries
pub mod Lists
pub mod Lending
pub mod Rooms
pub mod Places
