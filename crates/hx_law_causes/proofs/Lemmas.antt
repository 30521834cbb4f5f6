-- What proofs of other crates may cite. Declares nothing.
pub use Rattle.hx_law_causes.proofs.Headline.{runs_answer_all, runs_have_causes}
pub use Rattle.hx_law_causes.proofs.Replaying.{scheduled-run}
pub use Rattle.hx_law_lemmas.proofs.Lemmas.{AsksOf as Asks, SessionDoes, session-does}
