use Rattle.std.proofs.Common.{arith, ◌≡◌, ◌+◌, ◌<◌, ◌%◌, ◌∙◌, sym, ap, subst, length}
use Rattle.std.proofs.Math.Nat.{mod-lt}
use Rattle.hx_outbox.specs.Places.{place_of}
use Rattle.hx_driver.specs.Inboxes.{HasInPort}
use Rattle.hx_cluster.specs.Dealt.{AreNewDesks}
use Rattle.hx_cluster.proofs.AtEach.{at_each_read, at_each_set}
use Rattle.hx_cluster.proofs.ByPlace.{place-at}
use Rattle.hx_cluster.proofs.Deals.{desks-more, desks-same}
use Rattle.hx_cluster.proofs.seating.seat_actor.Goals as goal

pub new_desk-requires-clause-inbox : goal.new_desk-requires-clause-inbox
new_desk-requires-clause-inbox c =
    let space = c.args.setup.now.script.now.space in
    let e : place_of space c.actor_at-actor.result ≡ c.args.place = ap (place_of space) c.actor_at-actor.ensures ∙ place-at space c.args.place in
    (subst (λ k. HasInPort c.args.setup.now.workers c.args.setup.now.boxes.now k c.args.inbox) (sym e) c.requires.inbox.0, c.requires.inbox.1)

pub returns-clause-dealt : goal.returns-clause-dealt
returns-clause-dealt c h =
    let script = c.args.setup.now.script.now in
    let clock = c.args.setup.now.clock.now in
    let boxes = c.args.setup.now.boxes.now in
    let w = c.args.setup.now.workers in
    let k = c.args.place in
    let desks = c.args.desks.now.items in
    let lt : k % w < length desks = let a = mod-lt k {m = w} c.args.setup.now.some in omega (arith, a, c.requires.desks) in
    at_each_set (λ i d. AreNewDesks script clock boxes w k i d.items) (λ i d. AreNewDesks script clock boxes w (k + 1) i d.items) desks (k % w) _ h
    (desks-more script clock boxes w k _ _ c.in_ok-desk.desk
    (at_each_read (λ i d. AreNewDesks script clock boxes w k i d.items) desks
    (k % w) c.index_mut.result.now h lt c.index_mut.ensures.value) c.in_ok-desk.ensures.desk
    (c.in_ok-desk.ensures.actor ∙ c.actor_at-actor.ensures) c.in_ok-push.ensures.items)
    (λ j x n q. desks-same script clock boxes w k j x.items n q)
