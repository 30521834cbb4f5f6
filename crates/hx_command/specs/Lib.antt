pub mod Threads
pub mod HandedBack
pub mod Reading
pub mod Telling
pub mod Showing
