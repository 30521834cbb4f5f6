-- What proofs of other crates may cite. Declares nothing.
pub use Rattle.hx_soak.proofs.Dealing.{one_more}
pub use Rattle.hx_soak.proofs.Fitting.{is_script}
pub use Rattle.hx_soak.proofs.Owners.{keys_are_owned}
