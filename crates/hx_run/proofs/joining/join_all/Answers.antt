use Rattle.std.proofs.Common.{arith, ◌≡◌, ◌∙◌, [], ◌∷◌, length, append-nil}
use Rattle.hx_outbox.proofs.Lemmas.{both-long}
use Rattle.hx_run.specs.Joined.{IsKeptPort}
use Rattle.hx_run.proofs.Zipped.{both-refl, both-trans}
use Rattle.hx_run.proofs.Joins.{kept-refl, kept-trans, joined-all, places-kept, order-each, seam}
use Rattle.hx_run.proofs.Onces.{took-once}
use Rattle.hx_run.proofs.joining.join_all.Goals as goal

pub loop-round-init : goal.loop-round-init
loop-round-init g c = (c.requires.outs.0, omega arith, both-refl IsKeptPort kept-refl c.args.owned_ports.now.items, ([], append-nil _, c.requires.joined))

pub join_next-requires-clause-owned_ports : goal.join_next-requires-clause-owned_ports
join_next-requires-clause-owned_ports g c =
    let i = c.loop-round.invariant in (
      places-kept c.args.script.now 0 c.args.owned_ports.now.items c.loop-round.owned_ports.items i.2
          c.requires.owned_ports.0,
      both-long IsKeptPort c.args.owned_ports.now.items c.loop-round.owned_ports.items i.2
          ∙ c.requires.owned_ports.1,
    )

pub loop-round-preserved : goal.loop-round-preserved
loop-round-preserved g c =
    let i = c.loop-round.invariant in
    let n = c.join_next.ensures in (
      n.outs.0,
      omega (arith, n.outs.1, i.1),
      both-trans IsKeptPort kept-trans c.args.owned_ports.now.items c.loop-round.owned_ports.items c.join_next.new.owned_ports.items i.2 n.kept,
      (
        n.joined.0 ∷ i.3.0,
        seam c.loop-round.outs.items c.join_next.new.outs.items i.3.0 c.args.outs.items n.joined.0
            n.joined.1 i.3.1,
        n.joined.2 (length c.args.outs.items) i.3.0 i.3.2,
      ),
    )

pub returns-clause-joined : goal.returns-clause-joined
returns-clause-joined g c =
    let none : length c.loop-round.outs.items ≡ 0 = grind (arith, c.loop-round.invariant.1, c.loop-round-test.false, c.len-round-end.ensures) in
    joined-all c.args.script.now (length c.args.outs.items) c.args.boxes.now c.args.outs.items c.loop-round.outs.items
    c.loop-round.owned_ports.items none c.loop-round.invariant.3

pub returns-clause-order : goal.returns-clause-order
returns-clause-order g c =
    let none : length c.loop-round.outs.items ≡ 0 = grind (arith, c.loop-round.invariant.1, c.loop-round-test.false, c.len-round-end.ensures) in
    order-each c.args.script.now (length c.args.outs.items) c.args.boxes.now c.args.outs.items c.requires.outs.2
    c.requires.outs.1 c.args.owned_ports.now.items c.loop-round.owned_ports.items c.loop-round.invariant.2
    (joined-all c.args.script.now (length c.args.outs.items) c.args.boxes.now c.args.outs.items
    c.loop-round.outs.items c.loop-round.owned_ports.items none c.loop-round.invariant.3)

pub returns-clause-once : goal.returns-clause-once
returns-clause-once g c =
    let none : length c.loop-round.outs.items ≡ 0 = grind (arith, c.loop-round.invariant.1, c.loop-round-test.false, c.len-round-end.ensures) in
    took-once c.args.script.now (length c.args.outs.items) c.args.boxes.now c.args.outs.items c.requires.outs.2
    c.requires.outs.1 c.args.owned_ports.now.items c.loop-round.owned_ports.items c.requires.owned_ports.0
    c.loop-round.invariant.2 (joined-all c.args.script.now
    (length c.args.outs.items) c.args.boxes.now c.args.outs.items c.loop-round.outs.items
    c.loop-round.owned_ports.items none c.loop-round.invariant.3)
