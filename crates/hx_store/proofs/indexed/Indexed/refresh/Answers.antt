use Rattle.std.proofs.Common.{arith}
use Rattle.hx_store.proofs.Following.{all-fresh}
use Rattle.hx_store.proofs.indexed.Indexed.refresh.Goals as goal

pub returns-clause-fresh : goal.returns-clause-fresh
returns-clause-fresh c =
    let count = c.loop.invariant.1 in
    let test = c.loop-test.false in
    all-fresh c.args.slots.now c.loop.self c.loop.invariant.0 c.loop.invariant.2 (omega (arith, count, test))
