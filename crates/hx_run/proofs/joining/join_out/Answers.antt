use Rattle.std.proofs.Common.{arith, ◌≡◌, ◌≤◌, ◌∙◌, refl, [], length, append-nil}
use Rattle.hx_outbox.specs.Outboxes.{IsOutPort}
use Rattle.hx_outbox.proofs.Lemmas.{both-long}
use Rattle.hx_run.specs.Joined.{IsKeptPort}
use Rattle.hx_run.proofs.Zipped.{both-refl, both-trans}
use Rattle.hx_run.proofs.Joins.{joined-start, joined-end, kept-refl, kept-trans, places-kept}
use Rattle.hx_run.proofs.joining.join_out.Goals as goal

pub loop-round-init : goal.loop-round-init
loop-round-init g c =
    let le : length c.args.owned_ports.now.items ≤ length c.args.out.ports.items =
    omega (
      arith,
      both-long (IsOutPort c.args.out.index) _ c.args.out.ports.items c.requires.out.ports,
      c.requires.owned_ports.1,
    ) in (
      record { rest = []; all = append-nil _; whole = c.requires.out; index = refl },
      omega arith,
      both-refl IsKeptPort kept-refl c.args.owned_ports.now.items,
      λ w outs h. joined-start c.args.script.now w _ outs c.args.out (length c.args.out.ports.items) c.args.owned_ports.now.items le h,
    )

pub join_last-requires-clause-owned_ports : goal.join_last-requires-clause-owned_ports
join_last-requires-clause-owned_ports g c =
    let i = c.loop-round.invariant in (
      places-kept c.args.script.now 0 c.args.owned_ports.now.items c.loop-round.owned_ports.items i.2
          c.requires.owned_ports.0,
      both-long IsKeptPort c.args.owned_ports.now.items c.loop-round.owned_ports.items i.2
          ∙ c.requires.owned_ports.1,
    )

pub join_last-requires-clause-joined : goal.join_last-requires-clause-joined
join_last-requires-clause-joined g c =
    let j = c.requires.joined in
    (j.0, j.1, c.args.out, c.loop-round.invariant.3 j.0 j.1 j.2)

pub loop-round-preserved : goal.loop-round-preserved
loop-round-preserved g c =
    let i = c.loop-round.invariant in
    let n = c.join_last.ensures in (
      n.rest c.args.out i.0,
      omega (arith, n.fewer, i.1),
      both-trans IsKeptPort kept-trans c.args.owned_ports.now.items c.loop-round.owned_ports.items c.join_last.new.owned_ports.items i.2 n.kept,
      λ w outs h. n.joined w outs c.args.out i.0 (i.3 w outs h),
    )

pub returns-clause-joined : goal.returns-clause-joined
returns-clause-joined g c w outs h =
    let i = c.loop-round.invariant in
    let none : length c.loop-round.out.ports.items ≡ 0 = grind (arith, i.1, c.loop-round-test.false, c.len-round-end.ensures) in
    joined-end c.args.script.now w _ outs c.args.out (length c.loop-round.out.ports.items) c.loop-round.owned_ports.items none (i.3 w outs h)
