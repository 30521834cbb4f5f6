-- What proofs of other crates may cite. Declares nothing.
pub use Rattle.hx_store.proofs.Lists.{at-map, at-within, all-at}
pub use Rattle.hx_store.proofs.Moves.{moved_all_parts}
pub use Rattle.hx_store.proofs.Showing.{keeps-same, keeps-trans}
