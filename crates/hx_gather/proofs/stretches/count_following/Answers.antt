use Rattle.std.proofs.Common.{◌≡◌, ◌+◌, arith}
use Rattle.hx_gather.proofs.Stretched.{following_ends, following_more}
use Rattle.hx_gather.proofs.stretches.count_following.Goals as goal
use Rattle.hx_gather.proofs.stretches.count_following.Goals.{then-next-stamp-via-then-next-stamp, then-next-stamp-via-else-next-stamp+then-next-stamp-2}

pub returns-then-next-stamp-clause-count : goal.returns-then-next-stamp-clause-count
returns-then-next-stamp-clause-count c =
    following_ends _ c.args.stamp c.loop-count.count c.args.at c.args.part.now c.stamp-next.result c.stamp-next.ensures
    (λ (e : c.stamp-next.result.0 ≡ c.args.stamp + c.loop-count.count).
    elim c.then-next-stamp.branch [
      | then-next-stamp-via-then-next-stamp w ↦ omega (arith, w.if-next-stamp.true, e)
      | then-next-stamp-via-else-next-stamp+then-next-stamp-2 w ↦ omega (arith, w.if-next-stamp-2.true, w.from.ensures, e)
    ])
    c.loop-count.invariant

pub loop-count-preserved : goal.loop-count-preserved
loop-count-preserved c =
    let e : c.stamp-next.result.0 ≡ c.args.stamp + c.loop-count.count = omega (arith, c.if-next-stamp.false, c.from.ensures, c.if-next-stamp-2.false) in
    following_more _ c.args.stamp c.loop-count.count c.args.at c.args.part.now c.stamp-next.result c.stamp-next.ensures e c.loop-count.invariant
