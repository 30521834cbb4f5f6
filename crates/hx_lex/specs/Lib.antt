pub mod Answers
pub mod Letters
pub mod Numbers
pub mod Plain
pub mod Quotes
pub mod Pieces
pub mod Lines
pub mod Spelling
