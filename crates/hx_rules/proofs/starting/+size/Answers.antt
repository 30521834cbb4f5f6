-- The rest of the axes are parts too, and no larger a subspace.
use Rattle.std.proofs.Common.{arith}
use Rattle.hx_types.proofs.Lemmas.{parts_of_rest, small_rest}
use Rattle.hx_rules.proofs.starting.+size.Goals as goal

pub size-requires : goal.size-requires
size-requires t c =
    let p = parts_of_rest c.args.axes.now c.in-Some.first.now c.in-Some.rest.now c.in-Some.ensures.cases.0 c.requires.parts in (
      omega (arith, c.decreases, c.in-Some.ensures.cases.1),
      (p.1, small_rest c.args.axes.now c.in-Some.first.now c.in-Some.rest.now c.in-Some.ensures.cases.0 p.0 c.requires.few),
    )
