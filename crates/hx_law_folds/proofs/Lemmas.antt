-- What proofs of other crates may cite. Declares nothing.
pub use Rattle.hx_law_folds.proofs.Bare.{bare-folded, bare-from}
pub use Rattle.hx_law_folds.proofs.Deciding.{decide-same}
pub use Rattle.hx_law_folds.proofs.Folds.{folded-twice, kept-folded, mark-folded, top-folded, touches-folded}
pub use Rattle.hx_law_folds.proofs.Installing.{Once, after_join, among-slot-turn, ascend-once, from-kept, installed, keys-ascend, other, some}
pub use Rattle.hx_law_folds.proofs.Joinable.{can-join, joinable-stays, keys-differ, sent-ascends, sent-floors, start-joinable, from-key}
pub use Rattle.hx_law_folds.proofs.Joinable.{with_state-ascends}
pub use Rattle.hx_law_folds.proofs.Joining.{joining-posts}
pub use Rattle.hx_law_folds.proofs.Lists.{all-filter, all-weaker, when_some_both}
pub use Rattle.hx_law_folds.proofs.Prefixes.{kept-marks-line, kept-touches-line, latest-line, marks-line, object-line, prefix-folded, touches-line}
pub use Rattle.hx_law_folds.proofs.Runs.{lean-of, server-of}
pub use Rattle.hx_law_folds.proofs.Servers.{folded-server-twice, found-lean, new-folded, server-folds, state-lean, with-replica-folded, with-slot-lean}
pub use Rattle.hx_law_folds.proofs.Shown.{acknowledged-settled, alike-folded, alike-show, settled-same}
pub use Rattle.hx_law_folds.proofs.Slots.{AllFit, alike-moved_all, all-pending, all-stand, later-of, offered_all-fit, settled-fit}
pub use Rattle.hx_law_folds.proofs.Slots.{slot-folded}
pub use Rattle.hx_law_folds.proofs.Snapshots.{among-marks, kept-sent, pending-sent, sent}
pub use Rattle.hx_law_folds.proofs.Sound.{sound-fits, sound-joins, keys-pass}
pub use Rattle.hx_law_folds.proofs.Standing.{stands-acknowledged, stands-forgotten, stands-marked, stands-offered, stands-settled}
pub use Rattle.hx_law_folds.proofs.States.{among-key, folded-among, folded-new, folded-with}
pub use Rattle.hx_law_folds.proofs.Staying.{server-stays}
