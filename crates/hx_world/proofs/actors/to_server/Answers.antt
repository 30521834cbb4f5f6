use Rattle.std.proofs.Common.{◌-◌, refl}
use Rattle.std.specs.Vec.{with_item}
use Rattle.hx_world.specs.declared.actors.Actors.{Actors}
use Rattle.hx_world.proofs.Turning.{ascending, came_to_server, can_serve, may_serve, server_in, server_low}
use Rattle.hx_world.proofs.actors.to_server.Goals as goal

pub overflow_sub-server : goal.overflow_sub-server
overflow_sub-server c = server_low c.args.inside.now.script c.args.inside.now.actors c.args.inside.now.log c.requires.world c.args.server c.requires.actor

pub index_mut-counted-requires : goal.index_mut-counted-requires
index_mut-counted-requires c = server_in c.args.inside.now.script c.args.inside.now.actors c.args.inside.now.log c.requires.world c.args.server c.requires.actor

pub server_takes-requires-clause-can : goal.server_takes-requires-clause-can
server_takes-requires-clause-can c =
    can_serve c.args.inside.now.script c.args.inside.now.actors c.args.inside.now.log c.requires.world c.args.server c.requires.actor
    c.index_mut-counted.result.now c.index_mut-counted.ensures.value c.args.input c.requires.running c.requires.may

pub server_takes-requires-clause-may : goal.server_takes-requires-clause-may
server_takes-requires-clause-may c =
    may_serve c.args.inside.now.script c.args.inside.now.actors c.args.inside.now.log c.requires.world c.args.server c.requires.actor
    c.index_mut-counted.result.now c.index_mut-counted.ensures.value c.args.input c.requires.may

pub server_takes-requires-clause-ascending : goal.server_takes-requires-clause-ascending
server_takes-requires-clause-ascending c = ascending c.args.inside.now.script c.args.inside.now.actors c.args.inside.now.log c.requires.world

pub returns-clause-world : goal.returns-clause-world
returns-clause-world c =
    let after : Actors =
    record {
      coordinator = c.args.inside.now.actors.coordinator;
      servers = with_item c.args.inside.now.actors.servers (c.args.server.0 - 1) c.server_takes.new.counted;
      sessions = c.args.inside.now.actors.sessions;
    } in
    (came_to_server c.args.inside.now.script c.args.inside.now.actors c.args.inside.now.log c.requires.world c.args.server c.requires.actor
    c.index_mut-counted.result.now c.index_mut-counted.ensures.value c.args.input c.requires.running c.requires.may
    c.server_takes.new.counted after c.server_takes.new.log c.server_takes.result c.server_takes.ensures.decided
    c.server_takes.ensures.log c.server_takes.ensures.taken refl refl refl).world

pub returns-clause-turn : goal.returns-clause-turn
returns-clause-turn c =
    let after : Actors =
    record {
      coordinator = c.args.inside.now.actors.coordinator;
      servers = with_item c.args.inside.now.actors.servers (c.args.server.0 - 1) c.server_takes.new.counted;
      sessions = c.args.inside.now.actors.sessions;
    } in
    (came_to_server c.args.inside.now.script c.args.inside.now.actors c.args.inside.now.log c.requires.world c.args.server c.requires.actor
    c.index_mut-counted.result.now c.index_mut-counted.ensures.value c.args.input c.requires.running c.requires.may
    c.server_takes.new.counted after c.server_takes.new.log c.server_takes.result c.server_takes.ensures.decided
    c.server_takes.ensures.log c.server_takes.ensures.taken refl refl refl).turn

pub returns-clause-same : goal.returns-clause-same
returns-clause-same c =
    let after : Actors =
    record {
      coordinator = c.args.inside.now.actors.coordinator;
      servers = with_item c.args.inside.now.actors.servers (c.args.server.0 - 1) c.server_takes.new.counted;
      sessions = c.args.inside.now.actors.sessions;
    } in
    (came_to_server c.args.inside.now.script c.args.inside.now.actors c.args.inside.now.log c.requires.world c.args.server c.requires.actor
    c.index_mut-counted.result.now c.index_mut-counted.ensures.value c.args.input c.requires.running c.requires.may
    c.server_takes.new.counted after c.server_takes.new.log c.server_takes.result c.server_takes.ensures.decided
    c.server_takes.ensures.log c.server_takes.ensures.taken refl refl refl).same
