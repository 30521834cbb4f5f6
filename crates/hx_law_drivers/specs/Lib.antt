pub mod Crews
pub mod Rests
pub mod Courses
pub mod Joined
pub mod Laws
