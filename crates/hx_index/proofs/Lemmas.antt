-- What proofs of other crates may cite. Declares nothing.
pub use Rattle.hx_index.proofs.Inserting.{less-differs, within-at}
pub use Rattle.hx_index.proofs.Looping.{set-elsewhere, set-here, set-length}
pub use Rattle.hx_index.proofs.Matched.{if-ok, stands-filter}
pub use Rattle.hx_index.proofs.Pairs.{first-changes, first-comes, same-orders, second-comes, without-length}
pub use Rattle.hx_index.proofs.Showing.{length-repeat}
pub use Rattle.hx_index.proofs.Standing.{with-own}
pub use Rattle.hx_index.proofs.Totals.{slots-exact, slots-total}
