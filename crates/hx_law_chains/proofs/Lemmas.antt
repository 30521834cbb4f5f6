-- What proofs of other crates may cite. Declares nothing.
pub use Rattle.hx_law_epochs.proofs.Lemmas.{AnySnapshot, AssignsOne, Issues, coordinator-plain, server-plain}
pub use Rattle.hx_law_chains.proofs.Doubts.{lost-place}
pub use Rattle.hx_law_chains.proofs.DoubtsTold.{doubts-told}
pub use Rattle.hx_law_chains.proofs.Elsewhere.{issued-line}
pub use Rattle.hx_law_chains.proofs.Headline.{runs_answer_committed, runs_keep_order, runs_keep_what_stands, runs_posts_stand, runs_send_parts}
pub use Rattle.hx_law_chains.proofs.Holders.{seat-of}
pub use Rattle.hx_law_chains.proofs.Keys.{along-fixed}
pub use Rattle.hx_law_chains.proofs.Lines.{only-upto, sorted-descends}
pub use Rattle.hx_law_chains.proofs.Listening.{runs_hear_neighbours}
pub use Rattle.hx_law_chains.proofs.Moves.{Own}
pub use Rattle.hx_law_chains.proofs.Named.{AreNamed, named}
pub use Rattle.hx_law_chains.proofs.Posts.{Seat}
pub use Rattle.hx_law_chains.proofs.Runs.{chained-run, fixed-run, late-run, lines-run}
pub use Rattle.hx_law_chains.proofs.Serving.{Scene, scene, world}
pub use Rattle.hx_law_chains.proofs.Snapshots.{replica-ascends, replica-sent, snapshots-kept}
pub use Rattle.hx_law_chains.proofs.World.{Along, Chained, Fixed, KeyOk, Law, Lawful, Told, World, around, law-of, lawful-made, lawful-numbered, lawful-sorted}
