use Rattle.std.proofs.Common.{◌-◌, ◌∙◌, List, refl, rules, sym, subst}
use Rattle.std.specs.Prelude.{reverse}
use Rattle.std.specs.Vec.{with_item}
use Rattle.hx_model.specs.Types.{Entry, Server}
use Rattle.hx_model.specs.Runs.{MayTake}
use Rattle.hx_replica.specs.Servers as server
use Rattle.hx_world.specs.declared.actors.Actors.{Actors}
use Rattle.hx_world.specs.declared.logs.Log.{Log}
use Rattle.hx_world.specs.Filing.{IsSameLog, heard}
use Rattle.hx_world.specs.Servers.{HasTaken}
use Rattle.hx_world.specs.Turns.{IsAdmitted, IsBarred}
use Rattle.hx_world.proofs.Heard.{filed_on}
use Rattle.hx_world.proofs.Turning.{ascending, can_serve, may_serve, not_served, served, server_in, server_low, unserved}
use Rattle.hx_world.proofs.hearing.to_server.Goals as goal

pub overflow_sub-server : goal.overflow_sub-server
overflow_sub-server c = server_low c.args.inside.now.script c.args.inside.now.actors c.args.inside.now.log c.requires.world c.args.server c.requires.actor

pub index_mut-counted-requires : goal.index_mut-counted-requires
index_mut-counted-requires c = server_in c.args.inside.now.script c.args.inside.now.actors c.args.inside.now.log c.requires.world c.args.server c.requires.actor

pub server_hears-requires-clause-can : goal.server_hears-requires-clause-can
server_hears-requires-clause-can c =
    subst (λ (t : List Entry). server.CanTake c.index_mut-counted.result.now.server.space
    c.index_mut-counted.result.now.server.state (heard c.args.id t)) (sym c.growing-trace.ensures.entries)
    (can_serve c.args.inside.now.script c.args.inside.now.actors c.args.inside.now.log c.requires.world c.args.server c.requires.actor
    c.index_mut-counted.result.now c.index_mut-counted.ensures.value (heard c.args.id c.args.inside.now.log.trace) c.requires.running c.requires.may)

pub server_hears-requires-clause-may : goal.server_hears-requires-clause-may
server_hears-requires-clause-may c =
    subst (λ (t : List Entry). MayTake (reverse t) (Server c.index_mut-counted.result.now.server.state.id)
    (heard c.args.id t)) (sym c.growing-trace.ensures.entries)
    (may_serve c.args.inside.now.script c.args.inside.now.actors c.args.inside.now.log c.requires.world c.args.server c.requires.actor
    c.index_mut-counted.result.now c.index_mut-counted.ensures.value (heard c.args.id c.args.inside.now.log.trace) c.requires.may)

pub server_hears-requires-clause-ascending : goal.server_hears-requires-clause-ascending
server_hears-requires-clause-ascending c = ascending c.args.inside.now.script c.args.inside.now.actors c.args.inside.now.log c.requires.world

pub returns-in_err-server_hears-clause-world : goal.returns-in_err-server_hears-clause-world
returns-in_err-server_hears-clause-world c =
    let after : Actors =
    record {
      coordinator = c.args.inside.now.actors.coordinator;
      servers = with_item c.args.inside.now.actors.servers (c.args.server.0 - 1) c.server_hears.new.counted;
      sessions = c.args.inside.now.actors.sessions;
    } in
    let log : Log = record { trace = c.server_hears.new.trace.entries; waiting = c.server_hears.new.waiting; lent = c.server_hears.new.lent } in
    let logs : IsSameLog c.args.inside.now.log log =
    record {
      trace = c.in_err-server_hears.ensures.same_trace ∙ c.growing-trace.ensures.entries;
      waiting = c.in_err-server_hears.ensures.same_waiting;
    } in
    unserved c.args.inside.now.script c.args.inside.now.actors c.args.inside.now.log c.requires.world c.args.server c.requires.actor
    c.index_mut-counted.result.now c.index_mut-counted.ensures.value
    (heard c.args.id c.args.inside.now.log.trace) c.requires.running c.requires.may c.server_hears.new.counted
    after log c.in_err-server_hears.ensures.same logs refl refl refl

pub returns-in_err-server_hears-clause-err : goal.returns-in_err-server_hears-clause-err
returns-in_err-server_hears-clause-err c =
    let why =
    not_served c.args.inside.now.script c.args.inside.now.actors c.args.inside.now.log c.requires.world c.args.server c.requires.actor
    c.index_mut-counted.result.now c.index_mut-counted.ensures.value
    (heard c.args.id c.args.inside.now.log.trace) c.requires.running c.requires.may c.in_err-server_hears.field-0.0
    (subst (λ (t : List Entry). IsBarred (server.server_entry c.index_mut-counted.result.now.server.space
    c.index_mut-counted.result.now.server.state (heard c.args.id t)) c.index_mut-counted.result.now.entries
    c.in_err-server_hears.field-0.0) c.growing-trace.ensures.entries c.in_err-server_hears.ensures.barred) in
    search (rules, why)

pub returns-clause-world : goal.returns-clause-world
returns-clause-world c =
    let after : Actors =
    record {
      coordinator = c.args.inside.now.actors.coordinator;
      servers = with_item c.args.inside.now.actors.servers (c.args.server.0 - 1) c.server_hears.new.counted;
      sessions = c.args.inside.now.actors.sessions;
    } in
    let log : Log = record { trace = c.server_hears.new.trace.entries; waiting = c.server_hears.new.waiting; lent = c.server_hears.new.lent } in
    let files =
    filed_on c.args.inside.now.log log c.growing-trace.result.now.entries c.server_hears.new.trace.entries c.server_hears.new.waiting.items
    (λ (t : List Entry). server.server_entry c.index_mut-counted.result.now.server.space
    c.index_mut-counted.result.now.server.state (heard c.args.id t)) c.growing-trace.ensures.entries
    c.in_ok-server_hears.ensures.log refl refl in
    let taken = subst (λ (t : List Entry). HasTaken c.index_mut-counted.result.now c.server_hears.new.counted
    (heard c.args.id t)) c.growing-trace.ensures.entries c.in_ok-server_hears.ensures.taken in
    let admitted =
    subst (λ (t : List Entry). IsAdmitted (server.server_entry c.index_mut-counted.result.now.server.space
    c.index_mut-counted.result.now.server.state (heard c.args.id t)) c.index_mut-counted.result.now.entries)
    c.growing-trace.ensures.entries c.in_ok-server_hears.ensures.admitted in
    (served c.args.inside.now.script c.args.inside.now.actors c.args.inside.now.log c.requires.world c.args.server c.requires.actor
    c.index_mut-counted.result.now c.index_mut-counted.ensures.value
    (heard c.args.id c.args.inside.now.log.trace) c.requires.running c.requires.may c.server_hears.new.counted after log
    files taken admitted refl refl refl).world

pub returns-clause-ok : goal.returns-clause-ok
returns-clause-ok c =
    let after : Actors =
    record {
      coordinator = c.args.inside.now.actors.coordinator;
      servers = with_item c.args.inside.now.actors.servers (c.args.server.0 - 1) c.server_hears.new.counted;
      sessions = c.args.inside.now.actors.sessions;
    } in
    let log : Log = record { trace = c.server_hears.new.trace.entries; waiting = c.server_hears.new.waiting; lent = c.server_hears.new.lent } in
    let files =
    filed_on c.args.inside.now.log log c.growing-trace.result.now.entries c.server_hears.new.trace.entries c.server_hears.new.waiting.items
    (λ (t : List Entry). server.server_entry c.index_mut-counted.result.now.server.space
    c.index_mut-counted.result.now.server.state (heard c.args.id t)) c.growing-trace.ensures.entries
    c.in_ok-server_hears.ensures.log refl refl in
    let taken = subst (λ (t : List Entry). HasTaken c.index_mut-counted.result.now c.server_hears.new.counted
    (heard c.args.id t)) c.growing-trace.ensures.entries c.in_ok-server_hears.ensures.taken in
    let admitted =
    subst (λ (t : List Entry). IsAdmitted (server.server_entry c.index_mut-counted.result.now.server.space
    c.index_mut-counted.result.now.server.state (heard c.args.id t)) c.index_mut-counted.result.now.entries)
    c.growing-trace.ensures.entries c.in_ok-server_hears.ensures.admitted in
    (served c.args.inside.now.script c.args.inside.now.actors c.args.inside.now.log c.requires.world c.args.server c.requires.actor
    c.index_mut-counted.result.now c.index_mut-counted.ensures.value
    (heard c.args.id c.args.inside.now.log.trace) c.requires.running c.requires.may c.server_hears.new.counted after log
    files taken admitted refl refl refl).turn
