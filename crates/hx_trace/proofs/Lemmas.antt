-- What proofs of other crates may cite. Declares nothing.
pub use Rattle.hx_trace.proofs.Noted.{noted_at, unnoted_at}
pub use Rattle.hx_trace.proofs.Numbering.{entry_is}
pub use Rattle.hx_clock.proofs.Lemmas.{get_end}
