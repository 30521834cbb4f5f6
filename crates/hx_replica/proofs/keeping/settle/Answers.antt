use Rattle.std.proofs.Common.{◌∙◌}
use Rattle.hx_store.specs.Stores.{settled_at}
use Rattle.hx_replica.proofs.Kept.{settled_key, slot_there, step_at}
use Rattle.hx_replica.proofs.keeping.settle.Goals as goal

pub returns-clause-states : goal.returns-clause-states
returns-clause-states c =
    c.settle.ensures.states
    ∙ step_at c.args.store.now c.place_at-place.result c.args.i settled_at
    (settled_key c.args.store.now.region) c.place_at-place.ensures.ascend c.place_at-place.ensures.slot

pub returns-clause-ordered : goal.returns-clause-ordered
returns-clause-ordered c = c.settle.ensures.ordered
    (slot_there c.args.store.now c.place_at-place.result c.args.i c.place_at-place.ensures.slot) ∙ c.requires.ordered
