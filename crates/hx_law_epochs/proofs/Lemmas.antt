-- What proofs of other crates may cite. Declares nothing.
pub use Rattle.hx_law_lemmas.proofs.Lemmas.{head-some}
pub use Rattle.hx_law_epochs.proofs.CoordinatorPosts.{Issues, coordinator-plain}
pub use Rattle.hx_law_epochs.proofs.Facts.{EpochsKept, FromServer, Installed, NoLater, Says, SendsSnapshot}
pub use Rattle.hx_law_epochs.proofs.Follows.{member-ready, ready-member, ready-not_lost}
pub use Rattle.hx_law_epochs.proofs.Growing.{GrownOut, ListsServers, grown-out-next, grown-out-self, grown-out-trans, orderly-lists}
pub use Rattle.hx_law_epochs.proofs.Headline.{found-installed, installed-found}
pub use Rattle.hx_law_epochs.proofs.Makers.{ready-follows, ready-orderly, ready-ready, with-follows, with-orderly, with-ready}
pub use Rattle.hx_law_epochs.proofs.Makers.{without-follows, without-leaves, without-orderly, without-ready}
pub use Rattle.hx_law_epochs.proofs.Members.{server-member}
pub use Rattle.hx_law_epochs.proofs.Neighbours.{leader-first, leader-stands, next-is, next-none, previous-none}
pub use Rattle.hx_law_epochs.proofs.Next.{Grown, IsOrderly, MayJoin, any-of, appended-here, config_with-grown, joiner, judged-may, renumbered}
pub use Rattle.hx_law_epochs.proofs.Positions.{Adjacent, HasPlace, PrecedesInChain, adjacent-within, index-some, next-across}
pub use Rattle.hx_law_epochs.proofs.Positions.{next-within, number-placed, number-region, place-at, placed-number, prev-across, prev-within}
pub use Rattle.hx_law_epochs.proofs.Positions.{stands-cases, stands-irreflexive, stands-trans}
pub use Rattle.hx_law_epochs.proofs.Replicas.{Shaped, Takes, installed-is, replica_for-is}
pub use Rattle.hx_law_epochs.proofs.Runs.{EpochsRun, IsKnown, Keeps, Notes, Real, epochs-after, epochs-run, keeps-entry, known-after, known-still}
pub use Rattle.hx_law_epochs.proofs.Runs.{server-does-well, widens}
pub use Rattle.hx_law_epochs.proofs.Senders.{entry-posts, session-posts}
pub use Rattle.hx_law_epochs.proofs.ServerPosts.{AnySnapshot, OfServer, server-plain}
pub use Rattle.hx_law_epochs.proofs.Servers.{Adopts, Does, Stays, Tells}
pub use Rattle.hx_law_epochs.proofs.Serving.{head-ready, ready-listed}
pub use Rattle.hx_law_epochs.proofs.Sessions.{session-config}
pub use Rattle.hx_law_epochs.proofs.SlotPosts.{AssignsOne}
pub use Rattle.hx_law_epochs.proofs.Widening.{MayIssue, Widens, from-map}
