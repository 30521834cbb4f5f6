use Rattle.hx_replica.proofs.Placed.{placed_found}
use Rattle.hx_replica.proofs.contexts.place_at.Goals as goal

pub unreachable-requires : goal.unreachable-requires
unreachable-requires c = placed_found c.args.context.now.region c.args.update.now c.requires.placed c.in-None.ensures.found
