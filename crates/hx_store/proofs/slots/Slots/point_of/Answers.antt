use Rattle.std.proofs.Common.{rules}
use Rattle.hx_store.specs.Invariant.{key_in}
use Rattle.hx_store.proofs.Inserting.{split-from}
use Rattle.hx_store.proofs.slots.Slots.point_of.Goals as goal

pub returns : goal.returns
returns c =
    let es = c.args.self.now.entries in
    let found = c.partition_point in
    split-from es (key_in es c.args.place) c.args.order.now found.result c.requires found.ensures.bound found.ensures.partitioned
    (λ a r f' called. search rules)
