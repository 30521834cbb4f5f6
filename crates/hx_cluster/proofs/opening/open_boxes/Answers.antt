use Rattle.std.proofs.Common.{arith, ◌≡◌, ◌+◌, ◌∙◌, ap, length}
use Rattle.hx_outbox.specs.Places.{names_for}
use Rattle.hx_cluster.specs.Actors.{actor_at}
use Rattle.hx_cluster.proofs.Boxing.{boxes-are, names-more, ports-more}
use Rattle.hx_cluster.proofs.opening.open_boxes.Goals as goal

pub loop-place-preserved : goal.loop-place-preserved
loop-place-preserved g c =
    let i = c.loop-place.invariant in
    let m = c.in_ok-mailbox in
    let script = c.args.script.now in
    let clock = c.args.clock.now in
    let names : m.mailbox.names ≡ names_for script clock (actor_at script.space c.loop-place.place) =
    m.ensures.names ∙ ap (names_for script clock) c.actor_at-owner.ensures in (
      names-more script clock c.loop-place.place c.loop-place.boxes.items _ m.mailbox i.0 c.in_ok-push.ensures.items names,
      ports-more c.args.workers c.loop-place.boxes.items _ m.mailbox c.loop-place.ports.items _ m.of_box i.1
          m.ensures.ports c.in_ok-push.ensures.items c.in_ok-push-2.ensures.items,
    )

pub returns-clause-boxes : goal.returns-clause-boxes
returns-clause-boxes g c =
    let script = c.args.script.now in
    let e : c.loop-place.place ≡ 1 + script.space.servers + length script.sessions =
    omega (arith, c.loop-place-test.false, c.loop-place.auto.place-end, c.len.ensures) in
    boxes-are script c.args.clock.now c.loop-place.place c.loop-place.boxes.items e c.loop-place.invariant.0
