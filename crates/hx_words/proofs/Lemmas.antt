-- What proofs of other crates may cite. Declares nothing.
pub use Rattle.hx_words.proofs.Names.{limits_of, one_request, says_request}
