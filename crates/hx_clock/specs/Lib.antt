pub mod Parts
pub mod Lent
pub mod PartLists
pub mod Rooms
pub mod Views
pub mod Seats
pub mod Rule
pub mod Laws
