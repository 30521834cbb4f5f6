use Rattle.hx_machine.proofs.Starting.{server_starts, session_starts}
use Rattle.hx_machine.proofs.machines.Machine.start.Goals as goal

pub returns-in_ok-server-in-Server : goal.returns-in_ok-server-in-Server
returns-in_ok-server-in-Server c =
    server_starts c.args.script.now c.args.actor c.in-Server.server c.in_ok-server-in-Server.server c.in-Server.is
    c.in_ok-server-in-Server.ensures.space c.in_ok-server-in-Server.ensures.state

pub returns-in_ok-session-in-Session : goal.returns-in_ok-session-in-Session
returns-in_ok-session-in-Session c =
    session_starts c.args.script.now c.args.actor c.in-Session.session c.as_slice.result.now
    c.index-as_slice-session.result c.in_ok-calls-in-Session.calls c.in_ok-session-in-Session.session
    c.in-Session.is c.requires.actor c.as_slice.ensures c.index-as_slice-session.is c.in_ok-calls-in-Session.ensures
    c.in_ok-session-in-Session.ensures.space c.in_ok-session-in-Session.ensures.state
