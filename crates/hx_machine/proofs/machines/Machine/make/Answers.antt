use Rattle.hx_machine.proofs.Stepping.{coordinator_changed, server_can_make, server_changed, session_changed}
use Rattle.hx_machine.proofs.machines.Machine.make.Goals.{in-Coordinator-Coordinator, in-Server-Server, in-Session-Session}
use Rattle.hx_machine.proofs.machines.Machine.make.Goals as goal

pub make-requires : goal.make-requires
make-requires c =
    let r = c.requires in
    let w = c.in-Server-Server in
    server_can_make r.0 r.1 r.2 r.3 c.args.self.now c.args.self.now c.args.change r.4 r.5 r.6 w.server w.change w.is-0 w.is-1

pub returns : goal.returns
returns c script a past input at can is =
    elim c.match-self.branch [
      | in-Coordinator-Coordinator w ↦ coordinator_changed script a past input c.args.self.now c.match-self.self c.args.change at can is
          w.in-Coordinator-Coordinator.coordinator w.coordinator_makes.new.coordinator w.in-Coordinator-Coordinator.plan
          w.in-Coordinator-Coordinator.is-0 w.in-Coordinator-Coordinator.is-1
          w.self-is w.coordinator_makes.ensures
      | in-Server-Server w ↦ server_changed script a past input c.args.self.now c.match-self.self c.args.change at can is
          w.in-Server-Server.server w.make.new.self w.in-Server-Server.change w.in-Server-Server.is-0 w.in-Server-Server.is-1
          w.self-is w.make.ensures.space w.make.ensures.state
      | in-Session-Session w ↦ session_changed script a past input c.args.self.now c.match-self.self c.args.change at can is
          w.in-Session-Session.session w.make-in-Session-Session.new.self w.in-Session-Session.change w.in-Session-Session.is-0 w.in-Session-Session.is-1
          w.self-is w.make-in-Session-Session.ensures.space w.make-in-Session-Session.ensures.state
    ]
