use Rattle.std.proofs.Common.{arith}
use Rattle.hx_world.proofs.Numbering.{names_at_end}
use Rattle.hx_world.proofs.waiting.push_names.Goals as goal

pub loop-place-preserved : goal.loop-place-preserved
loop-place-preserved c =
    record {
      items = rw (c.push_reserved.ensures.items, c.loop-place.invariant.items) (names_at_end _ _ _);
      len = omega arith;
      room = omega arith;
    }
