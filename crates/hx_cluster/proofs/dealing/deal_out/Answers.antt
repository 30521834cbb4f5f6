use Rattle.std.proofs.Common.{arith, suc, ◌≡◌, ◌+◌, ◌∙◌, sym, ap, subst, length, take, ◌++◌, ◌∷◌, [], length-append}
use Rattle.hx_outbox.proofs.Lemmas.{map-length, both-long}
use Rattle.hx_cluster.specs.Dealt.{AreNewDesks, AtEach, IsNewOutbox}
use Rattle.hx_cluster.specs.Opened.{AreNewPorts}
use Rattle.hx_cluster.proofs.Boxing.{before-all, box-place, in-port-at, take-all}
use Rattle.hx_cluster.proofs.ByPlace.{all-length}
use Rattle.hx_cluster.proofs.Zips.{both-ended, ended_of, first-more, first-place, second-more}
use Rattle.hx_cluster.proofs.dealing.deal_out.Goals as goal

pub add_ports-requires : goal.add_ports-requires
add_ports-requires c =
    let i = c.loop-seat.invariant in
    let ports = second-more c.loop-seat.yielded c.in-Some.seat c.in-Some.of_box _ _ _ c.in-Some.ensures.steps.1.0 i.2 in
    let b = box-place c.args.setup.now.workers c.args.setup.now.boxes.now _ c.in-Some.of_box _ _ c.loop-seat.place
    ports.0 c.requires.ports (i.0 ∙ sym (map-length (λ x. x.1) c.loop-seat.yielded)) in
    b.ports.count ∙ sym i.6

pub seat_actor-requires-clause-place : goal.seat_actor-requires-clause-place
seat_actor-requires-clause-place c =
    let i = c.loop-seat.invariant in
    let seats = first-more c.loop-seat.yielded c.in-Some.seat c.in-Some.of_box _ _ _ c.in-Some.ensures.steps.0.0 i.1 in
    let lt = before-all _ _ _ _ seats.0 in
    let many = all-length c.args.setup.now.script.now in
    omega (arith, lt, i.0, map-length (λ x. x.0) c.loop-seat.yielded, c.requires.all, many)

pub seat_actor-requires-clause-seat : goal.seat_actor-requires-clause-seat
seat_actor-requires-clause-seat c =
    let i = c.loop-seat.invariant in
    let seats = first-more c.loop-seat.yielded c.in-Some.seat c.in-Some.of_box _ _ _ c.in-Some.ensures.steps.0.0 i.1 in
    c.requires.seats c.loop-seat.place c.in-Some.seat (first-place c.loop-seat.yielded c.in-Some.seat _ _ c.loop-seat.place i.0 seats.0)

pub seat_actor-requires-clause-inbox : goal.seat_actor-requires-clause-inbox
seat_actor-requires-clause-inbox c =
    let i = c.loop-seat.invariant in
    let ports = second-more c.loop-seat.yielded c.in-Some.seat c.in-Some.of_box _ _ _ c.in-Some.ensures.steps.1.0 i.2 in
    let b = box-place c.args.setup.now.workers c.args.setup.now.boxes.now _ c.in-Some.of_box _ _ c.loop-seat.place
    ports.0 c.requires.ports (i.0 ∙ sym (map-length (λ x. x.1) c.loop-seat.yielded)) in
    in-port-at c.args.setup.now.workers c.args.setup.now.boxes.now c.loop-seat.place c.in-Some.of_box b

pub overflow_add-place : goal.overflow_add-place
overflow_add-place c =
    let i = c.loop-seat.invariant in
    let seats = first-more c.loop-seat.yielded c.in-Some.seat c.in-Some.of_box _ _ _ c.in-Some.ensures.steps.0.0 i.1 in
    let lt = before-all _ _ _ _ seats.0 in
    let many = all-length c.args.setup.now.script.now in
    omega (
      arith,
      lt,
      i.0,
      map-length (λ x. x.0) c.loop-seat.yielded,
      c.requires.all,
      many,
      c.args.setup.now.valid.sessions,
      c.args.setup.now.valid.space.servers.1,
    )

pub loop-seat-preserved : goal.loop-seat-preserved
loop-seat-preserved c =
    let i = c.loop-seat.invariant in
    let w = c.args.setup.now.workers in
    let boxes = c.args.setup.now.boxes.now in
    let seats = first-more c.loop-seat.yielded c.in-Some.seat c.in-Some.of_box _ _ _ c.in-Some.ensures.steps.0.0 i.1 in
    let ports = second-more c.loop-seat.yielded c.in-Some.seat c.in-Some.of_box _ _ _ c.in-Some.ensures.steps.1.0 i.2 in
    let b = box-place w boxes _ c.in-Some.of_box _ _ c.loop-seat.place ports.0 c.requires.ports (i.0 ∙ sym (map-length (λ x. x.1) c.loop-seat.yielded)) in
    let z : suc c.loop-seat.place ≡ c.loop-seat.place + 1 = omega arith in
    let next : take c.loop-seat.place boxes ++ b.box ∷ [] ≡ take (c.loop-seat.place + 1) boxes = b.taken ∙ ap (λ n. take n boxes) z in (
      omega (arith, i.0, length-append c.loop-seat.yielded ((c.in-Some.seat, c.in-Some.of_box) ∷ [])),
      seats.1,
      ports.1,
      c.in_ok-seat_actor.ensures.dealt i.3,
      c.in_ok-seat_actor.ensures.count ∙ i.4,
      subst (λ l. AtEach (IsNewOutbox l) c.add_ports.new.outs.items) next
          (c.in_ok-add_ports.ensures.added (take c.loop-seat.place boxes) b.box i.5 b.ports.others),
      c.in_ok-add_ports.ensures.count ∙ i.6,
    )

pub returns-clause-desks : goal.returns-clause-desks
returns-clause-desks c =
    let i = c.loop-seat.invariant in
    let long = both-long (AreNewPorts c.args.setup.now.workers) c.args.setup.now.boxes.now c.args.ports.items c.requires.ports in
    let same : length c.args.seats.items ≡ length c.args.ports.items =
    omega (arith, long, c.args.setup.now.boxed.count, c.requires.all, all-length c.args.setup.now.script.now) in
    let done = both-ended c.loop-seat.yielded _ _ _ _ _ _ i.1 i.2 (sym c.loop-seat.seat-iterator.a.rest.ok.0)
    (sym c.loop-seat.seat-iterator.b.rest.ok.0) same (ended_of c.in-None.ensures.steps) in (
      subst (λ n. AtEach (λ i d. AreNewDesks c.args.setup.now.script.now c.args.setup.now.clock.now
          c.args.setup.now.boxes.now c.args.setup.now.workers n i d.items) c.loop-seat.desks.items)
          (i.0 ∙ sym done ∙ c.requires.all) i.3,
      i.4,
    )

pub returns-clause-outs : goal.returns-clause-outs
returns-clause-outs c =
    let i = c.loop-seat.invariant in
    let long = both-long (AreNewPorts c.args.setup.now.workers) c.args.setup.now.boxes.now c.args.ports.items c.requires.ports in
    let same : length c.args.seats.items ≡ length c.args.ports.items =
    omega (arith, long, c.args.setup.now.boxed.count, c.requires.all, all-length c.args.setup.now.script.now) in
    let done = both-ended c.loop-seat.yielded _ _ _ _ _ _ i.1 i.2 (sym c.loop-seat.seat-iterator.a.rest.ok.0)
    (sym c.loop-seat.seat-iterator.b.rest.ok.0) same (ended_of c.in-None.ensures.steps) in
    (subst (λ l. AtEach (IsNewOutbox l) c.loop-seat.outs.items) (take-all c.args.setup.now.boxes.now c.loop-seat.place (i.0 ∙ sym done ∙ same ∙ long)) i.5, i.6)
