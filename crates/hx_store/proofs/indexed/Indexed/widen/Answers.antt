use Rattle.std.proofs.Common.{arith}
use Rattle.hx_store.proofs.indexed.Indexed.widen.Goals as goal

pub add_place-requires : goal.add_place-requires
add_place-requires c =
    let count = c.loop.invariant.1 in
    let test = c.loop-test.true in
    omega (arith, count, test)
