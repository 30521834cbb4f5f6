-- What proofs of other crates may cite. Declares nothing.
pub use Rattle.hx_report.proofs.Appending.{one_more}
