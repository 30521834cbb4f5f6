use Rattle.hx_model.specs.ServerSteps.{server_step}
use Rattle.hx_replica.proofs.servers.Server.apply.Goals as goal

pub make-requires : goal.make-requires
make-requires c = record { after = (server_step c.args.self.now.space c.args.self.now.state c.args.plan.entry.input).state; is = c.requires.change }

pub returns-clause-state : goal.returns-clause-state
returns-clause-state c = c.make.ensures.state (server_step c.args.self.now.space c.args.self.now.state c.args.plan.entry.input).state c.requires.change

pub returns-clause-sound : goal.returns-clause-sound
returns-clause-sound c = λ sessions n. c.make.ensures.sound c.args.plan.entry.input sessions n c.requires.change
