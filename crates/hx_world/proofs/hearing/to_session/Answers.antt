use Rattle.std.proofs.Common.{◌-◌, ◌∙◌, List, refl, rules, sym, subst}
use Rattle.std.specs.Prelude.{reverse}
use Rattle.std.specs.Vec.{with_item}
use Rattle.hx_model.specs.Types.{Entry, Session}
use Rattle.hx_model.specs.Runs.{MayTake}
use Rattle.hx_session.specs.Sessions as session
use Rattle.hx_world.specs.declared.actors.Actors.{Actors}
use Rattle.hx_world.specs.declared.logs.Log.{Log}
use Rattle.hx_world.specs.Filing.{IsSameLog, heard}
use Rattle.hx_world.specs.Sessions.{HasTaken}
use Rattle.hx_world.specs.Turns.{IsAdmitted, IsBarred}
use Rattle.hx_world.proofs.Heard.{filed_on}
use Rattle.hx_world.proofs.Turning.{ascending, can_attend, may_attend, not_attended, attended, session_in, session_low, unattended}
use Rattle.hx_world.proofs.hearing.to_session.Goals as goal

pub overflow_sub-session : goal.overflow_sub-session
overflow_sub-session c = session_low c.args.inside.now.script c.args.inside.now.actors c.args.inside.now.log c.requires.world c.args.session c.requires.actor

pub index_mut-counted-requires : goal.index_mut-counted-requires
index_mut-counted-requires c = session_in c.args.inside.now.script c.args.inside.now.actors c.args.inside.now.log
    c.requires.world c.args.session c.requires.actor

pub session_hears-requires-clause-can : goal.session_hears-requires-clause-can
session_hears-requires-clause-can c =
    subst (λ (t : List Entry). session.CanTake c.index_mut-counted.result.now.session.space
    c.index_mut-counted.result.now.session.state (heard c.args.id t)) (sym c.growing-trace.ensures.entries)
    (can_attend c.args.inside.now.script c.args.inside.now.actors c.args.inside.now.log c.requires.world c.args.session c.requires.actor
    c.index_mut-counted.result.now c.index_mut-counted.ensures.value (heard c.args.id c.args.inside.now.log.trace) c.requires.may)

pub session_hears-requires-clause-may : goal.session_hears-requires-clause-may
session_hears-requires-clause-may c =
    subst (λ (t : List Entry). MayTake (reverse t) (Session c.index_mut-counted.result.now.session.state.id)
    (heard c.args.id t)) (sym c.growing-trace.ensures.entries)
    (may_attend c.args.inside.now.script c.args.inside.now.actors c.args.inside.now.log c.requires.world c.args.session c.requires.actor
    c.index_mut-counted.result.now c.index_mut-counted.ensures.value (heard c.args.id c.args.inside.now.log.trace) c.requires.may)

pub session_hears-requires-clause-ascending : goal.session_hears-requires-clause-ascending
session_hears-requires-clause-ascending c = ascending c.args.inside.now.script c.args.inside.now.actors c.args.inside.now.log c.requires.world

pub returns-in_err-session_hears-clause-world : goal.returns-in_err-session_hears-clause-world
returns-in_err-session_hears-clause-world c =
    let after : Actors =
    record {
      coordinator = c.args.inside.now.actors.coordinator;
      servers = c.args.inside.now.actors.servers;
      sessions = with_item c.args.inside.now.actors.sessions (c.args.session.0 - 1) c.session_hears.new.counted;
    } in
    let log : Log = record { trace = c.session_hears.new.trace.entries; waiting = c.session_hears.new.waiting; lent = c.session_hears.new.lent } in
    let logs : IsSameLog c.args.inside.now.log log =
    record {
      trace = c.in_err-session_hears.ensures.same_trace ∙ c.growing-trace.ensures.entries;
      waiting = c.in_err-session_hears.ensures.same_waiting;
    } in
    unattended c.args.inside.now.script c.args.inside.now.actors c.args.inside.now.log c.requires.world c.args.session c.requires.actor
    c.index_mut-counted.result.now c.index_mut-counted.ensures.value c.session_hears.new.counted after log
    c.in_err-session_hears.ensures.same logs refl refl refl

pub returns-in_err-session_hears-clause-err : goal.returns-in_err-session_hears-clause-err
returns-in_err-session_hears-clause-err c =
    let why =
    not_attended c.args.inside.now.script c.args.inside.now.actors c.args.inside.now.log c.requires.world c.args.session c.requires.actor
    c.index_mut-counted.result.now c.index_mut-counted.ensures.value (heard c.args.id c.args.inside.now.log.trace) c.in_err-session_hears.field-0.0
    (subst (λ (t : List Entry). IsBarred (session.session_entry c.index_mut-counted.result.now.session.space
    c.index_mut-counted.result.now.session.state (heard c.args.id t)) c.index_mut-counted.result.now.entries
    c.in_err-session_hears.field-0.0) c.growing-trace.ensures.entries c.in_err-session_hears.ensures.barred) in
    search (rules, why)

pub returns-clause-world : goal.returns-clause-world
returns-clause-world c =
    let after : Actors =
    record {
      coordinator = c.args.inside.now.actors.coordinator;
      servers = c.args.inside.now.actors.servers;
      sessions = with_item c.args.inside.now.actors.sessions (c.args.session.0 - 1) c.session_hears.new.counted;
    } in
    let log : Log = record { trace = c.session_hears.new.trace.entries; waiting = c.session_hears.new.waiting; lent = c.session_hears.new.lent } in
    let files =
    filed_on c.args.inside.now.log log c.growing-trace.result.now.entries c.session_hears.new.trace.entries c.session_hears.new.waiting.items
    (λ (t : List Entry). session.session_entry c.index_mut-counted.result.now.session.space
    c.index_mut-counted.result.now.session.state (heard c.args.id t)) c.growing-trace.ensures.entries
    c.in_ok-session_hears.ensures.log refl refl in
    let taken = subst (λ (t : List Entry). HasTaken c.index_mut-counted.result.now c.session_hears.new.counted
    (heard c.args.id t)) c.growing-trace.ensures.entries c.in_ok-session_hears.ensures.taken in
    let admitted =
    subst (λ (t : List Entry). IsAdmitted (session.session_entry c.index_mut-counted.result.now.session.space
    c.index_mut-counted.result.now.session.state (heard c.args.id t)) c.index_mut-counted.result.now.entries)
    c.growing-trace.ensures.entries c.in_ok-session_hears.ensures.admitted in
    (attended c.args.inside.now.script c.args.inside.now.actors c.args.inside.now.log c.requires.world c.args.session c.requires.actor
    c.index_mut-counted.result.now c.index_mut-counted.ensures.value
    (heard c.args.id c.args.inside.now.log.trace) c.session_hears.new.counted after log c.requires.may
    files taken admitted refl refl refl).world

pub returns-clause-ok : goal.returns-clause-ok
returns-clause-ok c =
    let after : Actors =
    record {
      coordinator = c.args.inside.now.actors.coordinator;
      servers = c.args.inside.now.actors.servers;
      sessions = with_item c.args.inside.now.actors.sessions (c.args.session.0 - 1) c.session_hears.new.counted;
    } in
    let log : Log = record { trace = c.session_hears.new.trace.entries; waiting = c.session_hears.new.waiting; lent = c.session_hears.new.lent } in
    let files =
    filed_on c.args.inside.now.log log c.growing-trace.result.now.entries c.session_hears.new.trace.entries c.session_hears.new.waiting.items
    (λ (t : List Entry). session.session_entry c.index_mut-counted.result.now.session.space
    c.index_mut-counted.result.now.session.state (heard c.args.id t)) c.growing-trace.ensures.entries
    c.in_ok-session_hears.ensures.log refl refl in
    let taken = subst (λ (t : List Entry). HasTaken c.index_mut-counted.result.now c.session_hears.new.counted
    (heard c.args.id t)) c.growing-trace.ensures.entries c.in_ok-session_hears.ensures.taken in
    let admitted =
    subst (λ (t : List Entry). IsAdmitted (session.session_entry c.index_mut-counted.result.now.session.space
    c.index_mut-counted.result.now.session.state (heard c.args.id t)) c.index_mut-counted.result.now.entries)
    c.growing-trace.ensures.entries c.in_ok-session_hears.ensures.admitted in
    (attended c.args.inside.now.script c.args.inside.now.actors c.args.inside.now.log c.requires.world c.args.session c.requires.actor
    c.index_mut-counted.result.now c.index_mut-counted.ensures.value
    (heard c.args.id c.args.inside.now.log.trace) c.session_hears.new.counted after log c.requires.may
    files taken admitted refl refl refl).turn
