use Rattle.std.proofs.Common.{◌-◌, refl}
use Rattle.std.specs.Vec.{with_item}
use Rattle.hx_world.specs.declared.actors.Actors.{Actors}
use Rattle.hx_world.proofs.Turning.{ascending, came_to_session, can_attend, may_attend, session_in, session_low}
use Rattle.hx_world.proofs.actors.to_session.Goals as goal

pub overflow_sub-session : goal.overflow_sub-session
overflow_sub-session c = session_low c.args.inside.now.script c.args.inside.now.actors c.args.inside.now.log c.requires.world c.args.session c.requires.actor

pub index_mut-counted-requires : goal.index_mut-counted-requires
index_mut-counted-requires c = session_in c.args.inside.now.script c.args.inside.now.actors c.args.inside.now.log
    c.requires.world c.args.session c.requires.actor

pub session_takes-requires-clause-can : goal.session_takes-requires-clause-can
session_takes-requires-clause-can c =
    can_attend c.args.inside.now.script c.args.inside.now.actors c.args.inside.now.log c.requires.world c.args.session c.requires.actor
    c.index_mut-counted.result.now c.index_mut-counted.ensures.value c.args.input c.requires.may

pub session_takes-requires-clause-may : goal.session_takes-requires-clause-may
session_takes-requires-clause-may c =
    may_attend c.args.inside.now.script c.args.inside.now.actors c.args.inside.now.log c.requires.world c.args.session c.requires.actor
    c.index_mut-counted.result.now c.index_mut-counted.ensures.value c.args.input c.requires.may

pub session_takes-requires-clause-ascending : goal.session_takes-requires-clause-ascending
session_takes-requires-clause-ascending c = ascending c.args.inside.now.script c.args.inside.now.actors c.args.inside.now.log c.requires.world

pub returns-clause-world : goal.returns-clause-world
returns-clause-world c =
    let after : Actors =
    record {
      coordinator = c.args.inside.now.actors.coordinator;
      servers = c.args.inside.now.actors.servers;
      sessions = with_item c.args.inside.now.actors.sessions (c.args.session.0 - 1) c.session_takes.new.counted;
    } in
    (came_to_session c.args.inside.now.script c.args.inside.now.actors c.args.inside.now.log c.requires.world c.args.session c.requires.actor
    c.index_mut-counted.result.now c.index_mut-counted.ensures.value c.args.input
    c.session_takes.new.counted after c.session_takes.new.log c.session_takes.result c.requires.may
    c.session_takes.ensures.decided c.session_takes.ensures.log c.session_takes.ensures.taken refl refl refl).world

pub returns-clause-turn : goal.returns-clause-turn
returns-clause-turn c =
    let after : Actors =
    record {
      coordinator = c.args.inside.now.actors.coordinator;
      servers = c.args.inside.now.actors.servers;
      sessions = with_item c.args.inside.now.actors.sessions (c.args.session.0 - 1) c.session_takes.new.counted;
    } in
    (came_to_session c.args.inside.now.script c.args.inside.now.actors c.args.inside.now.log c.requires.world c.args.session c.requires.actor
    c.index_mut-counted.result.now c.index_mut-counted.ensures.value c.args.input
    c.session_takes.new.counted after c.session_takes.new.log c.session_takes.result c.requires.may
    c.session_takes.ensures.decided c.session_takes.ensures.log c.session_takes.ensures.taken refl refl refl).turn

pub returns-clause-same : goal.returns-clause-same
returns-clause-same c =
    let after : Actors =
    record {
      coordinator = c.args.inside.now.actors.coordinator;
      servers = c.args.inside.now.actors.servers;
      sessions = with_item c.args.inside.now.actors.sessions (c.args.session.0 - 1) c.session_takes.new.counted;
    } in
    (came_to_session c.args.inside.now.script c.args.inside.now.actors c.args.inside.now.log c.requires.world c.args.session c.requires.actor
    c.index_mut-counted.result.now c.index_mut-counted.ensures.value c.args.input
    c.session_takes.new.counted after c.session_takes.new.log c.session_takes.result c.requires.may
    c.session_takes.ensures.decided c.session_takes.ensures.log c.session_takes.ensures.taken refl refl refl).same
