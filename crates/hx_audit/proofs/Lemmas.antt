-- What proofs of other crates may cite. Declares nothing.
pub use Rattle.hx_audit.proofs.Callers.{one_caller, same_self}
pub use Rattle.hx_audit.proofs.Effects.{faults}
pub use Rattle.hx_audit.proofs.Keys.{one_key}
pub use Rattle.hx_audit.proofs.Ranks.{same_rank}
pub use Rattle.hx_audit.proofs.Unique.{own_items, found_in}
pub use Rattle.hx_audit.proofs.Placed.{own_call}
