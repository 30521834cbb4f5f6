use Rattle.std.proofs.Common.{map}
use Rattle.hx_run.proofs.Closes.{joins-need, places-need, ports-need, left-of, order-of, once-of}
use Rattle.hx_run.proofs.closing.close.Goals as goal

pub join_all-requires-clause-outs : goal.join_all-requires-clause-outs
join_all-requires-clause-outs g c =
    let r = c.requires.crews in
    joins-need c.args.floor.now.script.now c.args.floor.now.clock.now c.args.floor.now.boxes.now r.0
    (map (λ d. d.crew) c.args.drivers.items) r.1 r.2 r.3 c.in_ok-apart.apart.outs.items c.in_ok-apart.ensures.outs

pub join_all-requires-clause-owned_ports : goal.join_all-requires-clause-owned_ports
join_all-requires-clause-owned_ports g c =
    let r = c.requires.crews in
    places-need c.args.floor.now.script.now c.args.floor.now.clock.now c.args.floor.now.boxes.now r.0
    c.args.floor.now.boxed (map (λ d. d.crew) c.args.drivers.items) r.3 c.requires.actors
    c.in_ok-apart.apart.owned_ports.items c.sort_by_place.new.owned_ports.items c.in_ok-apart.ensures.owned_ports
    c.sort_by_place.ensures.permutation
    c.in_ok-sort_by_place.ensures.sorted

pub join_all-requires-clause-joined : goal.join_all-requires-clause-joined
join_all-requires-clause-joined g c =
    let r = c.requires.crews in
    ports-need c.args.floor.now.script.now c.args.floor.now.clock.now c.args.floor.now.boxes.now r.0
    c.args.floor.now.boxed (map (λ d. d.crew) c.args.drivers.items) r.2 r.3 c.in_ok-apart.apart.owned_ports.items
    c.sort_by_place.new.owned_ports.items c.in_ok-apart.ensures.owned_ports c.sort_by_place.ensures.permutation
    c.in_ok-apart.apart.outs.items c.in_ok-apart.ensures.outs

pub returns-clause-left : goal.returns-clause-left
returns-clause-left g c =
    let r = c.requires.crews in
    left-of c.args.floor.now.script.now c.args.floor.now.clock.now c.args.floor.now.boxes.now r.0
    c.args.floor.now.boxed (map (λ d. d.crew) c.args.drivers.items) r.1 r.2 r.3 c.requires.actors
    c.in_ok-apart.apart.actors.items c.in_ok-apart.ensures.actors c.in_ok-apart.apart.totals.items
    c.in_ok-apart.ensures.totals c.in_ok-apart.apart.owned_ports.items
    c.sort_by_place.new.owned_ports.items c.join_all.new.owned_ports.items c.in_ok-apart.ensures.owned_ports
    c.sort_by_place.ensures.permutation c.in_ok-sort_by_place.ensures.sorted c.in_ok-apart.apart.outs.items
    c.in_ok-apart.ensures.outs c.join_all.ensures.kept c.join_all.ensures.joined
    c.in_ok-ports.ports.items c.in_ok-ports.ensures

pub returns-clause-order : goal.returns-clause-order
returns-clause-order g c =
    order-of c.args.floor.now.script.now c.args.floor.now.clock.now c.args.floor.now.boxes.now c.requires.crews.0
    (map (λ d. d.crew) c.args.drivers.items) c.in_ok-apart.apart.owned_ports.items
    c.sort_by_place.new.owned_ports.items c.in_ok-apart.ensures.owned_ports c.sort_by_place.ensures.permutation
    c.in_ok-apart.apart.outs.items
    c.in_ok-apart.ensures.outs c.join_all.ensures.order

pub returns-clause-once : goal.returns-clause-once
returns-clause-once g c =
    once-of c.args.floor.now.script.now c.args.floor.now.clock.now c.args.floor.now.boxes.now c.requires.crews.0
    (map (λ d. d.crew) c.args.drivers.items) c.in_ok-apart.apart.owned_ports.items
    c.sort_by_place.new.owned_ports.items c.in_ok-apart.ensures.owned_ports c.sort_by_place.ensures.permutation
    c.in_ok-apart.apart.outs.items
    c.in_ok-apart.ensures.outs c.join_all.ensures.once
