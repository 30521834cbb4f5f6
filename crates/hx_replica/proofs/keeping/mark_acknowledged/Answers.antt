use Rattle.std.proofs.Common.{refl, ◌∙◌}
use Rattle.hx_store.specs.Stores.{marked_at}
use Rattle.hx_replica.proofs.Kept.{pending_there, slot_there, step_at}
use Rattle.hx_replica.proofs.keeping.mark_acknowledged.Goals as goal

pub mark_acknowledged-requires-clause-pending : goal.mark_acknowledged-requires-clause-pending
mark_acknowledged-requires-clause-pending c = pending_there c.args.store.now.states c.args.i c.args.version _ c.requires.pending c.place_at-place.ensures.slot

pub returns-clause-states : goal.returns-clause-states
returns-clause-states c =
    c.mark_acknowledged.ensures.states
    ∙ step_at c.args.store.now c.place_at-place.result c.args.i (marked_at c.args.version.0)
    (λ t. refl) c.place_at-place.ensures.ascend c.place_at-place.ensures.slot

pub returns-clause-ordered : goal.returns-clause-ordered
returns-clause-ordered c = c.mark_acknowledged.ensures.ordered
    (slot_there c.args.store.now c.place_at-place.result c.args.i c.place_at-place.ensures.slot) ∙ c.requires.ordered
