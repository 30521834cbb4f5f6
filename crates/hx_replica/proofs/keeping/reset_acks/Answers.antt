use Rattle.std.proofs.Common.{refl, ◌∙◌}
use Rattle.hx_store.specs.Stores.{forgotten_at}
use Rattle.hx_replica.proofs.Kept.{slot_there, step_at}
use Rattle.hx_replica.proofs.keeping.reset_acks.Goals as goal

pub returns-clause-states : goal.returns-clause-states
returns-clause-states c =
    c.reset_acks.ensures.states
    ∙ step_at c.args.store.now c.place_at-place.result c.args.i forgotten_at (λ t. refl) c.place_at-place.ensures.ascend c.place_at-place.ensures.slot

pub returns-clause-ordered : goal.returns-clause-ordered
returns-clause-ordered c = c.reset_acks.ensures.ordered
    (slot_there c.args.store.now c.place_at-place.result c.args.i c.place_at-place.ensures.slot) ∙ c.requires.ordered
