use Rattle.std.proofs.Common.{refl}
use Rattle.hx_world.specs.declared.actors.Actors.{Actors}
use Rattle.hx_world.proofs.Turning.{ascending, came_to_coordinator, can_coordinate}
use Rattle.hx_world.proofs.actors.to_coordinator.Goals as goal

pub coordinator_takes-requires-clause-can : goal.coordinator_takes-requires-clause-can
coordinator_takes-requires-clause-can c = can_coordinate c.args.inside.now.script c.args.inside.now.actors
    c.args.inside.now.log c.requires.world c.args.input c.requires.may

pub coordinator_takes-requires-clause-ascending : goal.coordinator_takes-requires-clause-ascending
coordinator_takes-requires-clause-ascending c = ascending c.args.inside.now.script c.args.inside.now.actors c.args.inside.now.log c.requires.world

pub returns-clause-world : goal.returns-clause-world
returns-clause-world c =
    let after : Actors =
    record { coordinator = c.coordinator_takes.new.counted; servers = c.args.inside.now.actors.servers; sessions = c.args.inside.now.actors.sessions } in
    (came_to_coordinator c.args.inside.now.script c.args.inside.now.actors c.args.inside.now.log c.requires.world c.args.input
    after c.coordinator_takes.new.log c.coordinator_takes.result c.requires.may c.coordinator_takes.ensures.decided
    c.coordinator_takes.ensures.log c.coordinator_takes.ensures.taken refl refl).world

pub returns-clause-turn : goal.returns-clause-turn
returns-clause-turn c =
    let after : Actors =
    record { coordinator = c.coordinator_takes.new.counted; servers = c.args.inside.now.actors.servers; sessions = c.args.inside.now.actors.sessions } in
    (came_to_coordinator c.args.inside.now.script c.args.inside.now.actors c.args.inside.now.log c.requires.world c.args.input
    after c.coordinator_takes.new.log c.coordinator_takes.result c.requires.may c.coordinator_takes.ensures.decided
    c.coordinator_takes.ensures.log c.coordinator_takes.ensures.taken refl refl).turn

pub returns-clause-same : goal.returns-clause-same
returns-clause-same c =
    let after : Actors =
    record { coordinator = c.coordinator_takes.new.counted; servers = c.args.inside.now.actors.servers; sessions = c.args.inside.now.actors.sessions } in
    (came_to_coordinator c.args.inside.now.script c.args.inside.now.actors c.args.inside.now.log c.requires.world c.args.input
    after c.coordinator_takes.new.log c.coordinator_takes.result c.requires.may c.coordinator_takes.ensures.decided
    c.coordinator_takes.ensures.log c.coordinator_takes.ensures.taken refl refl).same
