use Rattle.std.proofs.Common.{◌++◌, ap, ◌∙◌}
use Rattle.hx_model.specs.Runs.{Output}
use Rattle.hx_machine.proofs.Stepping.{server_bare, server_changes, server_made}
use Rattle.hx_machine.proofs.Taking.{coordinator_ready, server_ready, session_ready}
use Rattle.hx_machine.proofs.machines.Machine.step.Goals as goal

pub coordinator_steps-requires : goal.coordinator_steps-requires
coordinator_steps-requires c =
    let r = c.requires in
    coordinator_ready r.0 r.1 r.2 c.args.input.now c.args.self.now c.in-Coordinator.coordinator c.in-Coordinator.is r.3 r.4

pub server_steps-requires-clause-can : goal.server_steps-requires-clause-can
server_steps-requires-clause-can c =
    let r = c.requires in
    server_ready r.0 r.1 r.2 c.args.input.now c.args.self.now c.in-Server.server c.in-Server.is r.3 r.4

pub server_steps-requires-clause-bare : goal.server_steps-requires-clause-bare
server_steps-requires-clause-bare c =
    let r = c.requires in
    server_bare r.0 r.1 r.2 c.args.self.now c.in-Server.server c.in-Server.is r.3

pub session_steps-requires : goal.session_steps-requires
session_steps-requires c =
    let r = c.requires in
    session_ready r.0 r.1 r.2 c.args.input.now c.args.self.now c.in-Session.session c.in-Session.is r.3 r.4

pub returns-in-Ok-server_steps-clause-posts : goal.returns-in-Ok-server_steps-clause-posts
returns-in-Ok-server_steps-clause-posts c script a past at can =
    c.in-Ok-server_steps.ensures.posts
    ∙ ap (λ (o : Output). c.args.posts.now ++ o.posts) (server_made script a past c.args.input.now c.args.self.now c.in-Server.server c.in-Server.is at can)

pub returns-in-Ok-server_steps-clause-notes : goal.returns-in-Ok-server_steps-clause-notes
returns-in-Ok-server_steps-clause-notes c script a past at can =
    c.in-Ok-server_steps.ensures.notes
    ∙ ap (λ (o : Output). c.args.notes.now ++ o.notes) (server_made script a past c.args.input.now c.args.self.now c.in-Server.server c.in-Server.is at can)

pub returns-in-Ok-server_steps-clause-change : goal.returns-in-Ok-server_steps-clause-change
returns-in-Ok-server_steps-clause-change c script a past at can =
    server_changes script a past c.args.input.now c.args.self.now c.in-Server.server c.server_steps.new.server c.in-Ok-server_steps.change c.in-Server.is
    c.in-Ok-server_steps.ensures.change at can
