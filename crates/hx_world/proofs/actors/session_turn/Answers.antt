use Rattle.std.proofs.Common.{◌-◌, refl}
use Rattle.std.specs.Vec.{with_item}
use Rattle.hx_model.specs.Types.{Tick}
use Rattle.hx_world.specs.declared.actors.Actors.{Actors}
use Rattle.hx_world.proofs.Turning.{came_to_session, session_in, session_low, session_number}
use Rattle.hx_world.proofs.actors.session_turn.Goals as goal

pub overflow_sub-session : goal.overflow_sub-session
overflow_sub-session c = session_low c.args.inside.now.script c.args.inside.now.actors c.args.inside.now.log c.requires.world c.args.session c.requires.actor

pub index_mut-counted-requires : goal.index_mut-counted-requires
index_mut-counted-requires c = session_in c.args.inside.now.script c.args.inside.now.actors c.args.inside.now.log
    c.requires.world c.args.session c.requires.actor

pub session_ticks-requires : goal.session_ticks-requires
session_ticks-requires c = record {
  id = session_number c.args.inside.now.script c.args.inside.now.actors c.args.inside.now.log c.requires.world c.args.session c.requires.actor
      c.index_mut-counted.result.now c.index_mut-counted.ensures.value;
}

pub returns-clause-world : goal.returns-clause-world
returns-clause-world c =
    let after : Actors =
    record {
      coordinator = c.args.inside.now.actors.coordinator;
      servers = c.args.inside.now.actors.servers;
      sessions = with_item c.args.inside.now.actors.sessions (c.args.session.0 - 1) c.session_ticks.new.counted;
    } in
    (came_to_session c.args.inside.now.script c.args.inside.now.actors c.args.inside.now.log c.requires.world c.args.session c.requires.actor
    c.index_mut-counted.result.now c.index_mut-counted.ensures.value Tick
    c.session_ticks.new.counted after c.session_ticks.new.log c.session_ticks.result tt
    c.session_ticks.ensures.decided c.session_ticks.ensures.log c.session_ticks.ensures.taken refl refl refl).world

pub returns-clause-turn : goal.returns-clause-turn
returns-clause-turn c =
    let after : Actors =
    record {
      coordinator = c.args.inside.now.actors.coordinator;
      servers = c.args.inside.now.actors.servers;
      sessions = with_item c.args.inside.now.actors.sessions (c.args.session.0 - 1) c.session_ticks.new.counted;
    } in
    (came_to_session c.args.inside.now.script c.args.inside.now.actors c.args.inside.now.log c.requires.world c.args.session c.requires.actor
    c.index_mut-counted.result.now c.index_mut-counted.ensures.value Tick
    c.session_ticks.new.counted after c.session_ticks.new.log c.session_ticks.result tt
    c.session_ticks.ensures.decided c.session_ticks.ensures.log c.session_ticks.ensures.taken refl refl refl).turn

pub returns-clause-same : goal.returns-clause-same
returns-clause-same c =
    let after : Actors =
    record {
      coordinator = c.args.inside.now.actors.coordinator;
      servers = c.args.inside.now.actors.servers;
      sessions = with_item c.args.inside.now.actors.sessions (c.args.session.0 - 1) c.session_ticks.new.counted;
    } in
    (came_to_session c.args.inside.now.script c.args.inside.now.actors c.args.inside.now.log c.requires.world c.args.session c.requires.actor
    c.index_mut-counted.result.now c.index_mut-counted.ensures.value Tick
    c.session_ticks.new.counted after c.session_ticks.new.log c.session_ticks.result tt
    c.session_ticks.ensures.decided c.session_ticks.ensures.log c.session_ticks.ensures.taken refl refl refl).same
