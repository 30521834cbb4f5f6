-- What proofs of other crates may cite. Declares nothing.
pub use Rattle.hx_law_drivers.proofs.Desks.{one_desk}
pub use Rattle.hx_law_drivers.proofs.Opens.{outs_owned}
pub use Rattle.hx_law_drivers.proofs.Paced.{actors_now}
