-- What proofs of other crates may cite. Declares nothing.
pub use Rattle.hx_command.proofs.Wording.{not_both, same_soak}
