-- What proofs of other crates may cite. Declares nothing.
pub use Rattle.hx_run.proofs.Leaving.{how-many}
