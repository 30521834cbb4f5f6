-- What proofs of other crates may cite. Declares nothing.
pub use Rattle.hx_law_searches.proofs.Calls.{Calls}
pub use Rattle.hx_law_searches.proofs.CallsKept.{calls_kept, step_is, turn_is}
pub use Rattle.hx_law_searches.proofs.FromChains.{facts}
pub use Rattle.hx_law_searches.proofs.Headline.{runs_are_linear, runs_fit, runs_search_well}
pub use Rattle.hx_law_searches.proofs.Times.{ended_unique}
pub use Rattle.hx_law_searches.proofs.Writes.{not_refused-in}
pub use Rattle.hx_law_searches.proofs.Fitting.{begin-number}
