-- What proofs of other crates may cite. Declares nothing.
pub use Rattle.hx_world.proofs.Tallies.{sum_more, sum_most, sum_to}
pub use Rattle.hx_world.proofs.Spending.{none_there}
