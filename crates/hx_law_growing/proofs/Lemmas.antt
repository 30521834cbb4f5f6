-- What proofs of other crates may cite. Declares nothing.
pub use Rattle.hx_law_growing.proofs.Calls.{calls_grow, few_calls_of, numbered_from_1, own_calls, same_session, length-set, get-or}
pub use Rattle.hx_law_growing.proofs.Kept.{Within, steps}
pub use Rattle.hx_law_growing.proofs.Runs.{within}
