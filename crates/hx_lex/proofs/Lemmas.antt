-- What proofs of other crates may cite. Declares nothing.
pub use Rattle.hx_lex.proofs.Content.{and_left, and_right, high_bytes, ascii}
pub use Rattle.hx_lex.proofs.Parts.{tokens_spelled}
pub use Rattle.hx_lex.proofs.Words.{word_utf8}
