use Rattle.std.proofs.Common.{◌∙◌}
use Rattle.hx_store.proofs.Moves.{accepted_moves}
use Rattle.hx_store.proofs.stepping.accept.Goals as goal

pub returns-clause-state : goal.returns-clause-state
returns-clause-state c =
    let slot = c.args.slot.now in
    let offered = c.offer.new.self in
    let acknowledged = c.acknowledge_all.new.slot in
    let region = c.acknowledge_all.ensures.region ∙ c.offer.ensures.region in
    accepted_moves slot.region acknowledged.region slot.state c.args.update c.args.ends.now offered.state acknowledged.state c.settle.new.self.state
    c.offer.ensures.state c.acknowledge_all.ensures.state c.settle.ensures.state region
