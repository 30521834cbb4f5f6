-- What proofs of other crates may cite. Declares nothing.
pub use Rattle.hx_law_posts.proofs.Bounds.{IsSoundAt, IsSoundConfig, answer-up, bounds, sound_answer-up}
pub use Rattle.hx_law_posts.proofs.Configs.{first-of_space, member-server}
pub use Rattle.hx_law_posts.proofs.CoordinatorSteps.{DoesWell, IsMaybeSound, IsSoundCoordinator, coordinator-good, coordinator-up}
pub use Rattle.hx_law_posts.proofs.Hops.{head-server}
pub use Rattle.hx_law_posts.proofs.Kept.{kept_of-sound}
pub use Rattle.hx_law_posts.proofs.Moves.{Descends, offered_all-known}
pub use Rattle.hx_law_posts.proofs.Runs.{KeptSound, epochs_stay_small, kept-run, posts_stay_sound}
pub use Rattle.hx_law_posts.proofs.ServerSteps.{server-good}
pub use Rattle.hx_law_posts.proofs.Servers.{IsSoundReplica, IsSoundServer, Relies, installed-found, replica_for-found, server-up}
pub use Rattle.hx_law_posts.proofs.SessionSteps.{IsOwn, own-up, session-good}
pub use Rattle.hx_law_posts.proofs.SlotPosts.{any-of}
pub use Rattle.hx_law_posts.proofs.Slots.{IsSoundSlot, held-together, together, top-small}
pub use Rattle.hx_law_posts.proofs.Installs.{resumed-known}
