-- No entry is made.
use Rattle.hx_service.proofs.Stepped.{none_made}
use Rattle.hx_service.proofs.advancing.has_next.Goals as goal

pub returns-in-Ok-Quiet-clause-state : goal.returns-in-Ok-Quiet-clause-state
returns-in-Ok-Quiet-clause-state c =
    let e = none_made c.args.world.now.script c.args.world.now.trace c.drain.new.self.trace c.in-Ok-Quiet.ensures.part in
    λ i. record { script = c.in-Ok-Quiet.ensures.script i; trace = e i }

pub returns-in-Ok-Spent-clause-state : goal.returns-in-Ok-Spent-clause-state
returns-in-Ok-Spent-clause-state c =
    let e = none_made c.args.world.now.script c.args.world.now.trace c.drain.new.self.trace c.in-Ok-Spent.ensures.part in
    λ i. record { script = c.in-Ok-Spent.ensures.script i; trace = e i }
