pub mod Values
pub mod Printed
pub mod Unread
pub mod Readers
pub mod Parts
pub mod Calling
pub mod Tailing
pub mod Drafts
