pub mod ByteOrder
pub mod Counting
pub mod Prefixed
pub mod Lemmas
