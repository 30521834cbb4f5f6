use Rattle.std.proofs.Common.{rules}
use Rattle.std.specs.Prelude.{reverse}
use Rattle.hx_world.proofs.Stepping.{not_ticked, ticked}
use Rattle.hx_world.proofs.steps.tick.Goals as goal

pub returns-in_err-actor_takes-clause-refused : goal.returns-in_err-actor_takes-clause-refused
returns-in_err-actor_takes-clause-refused c =
    let why = not_ticked c.args.inside.now.script (reverse c.args.inside.now.log.trace) c.args.actor
    c.in_err-actor_takes.field-0.0 c.in_err-actor_takes.ensures.err in search (rules, why)

pub returns-clause-ok : goal.returns-clause-ok
returns-clause-ok c = ticked c.args.inside.now.script (reverse c.args.inside.now.log.trace)
    (reverse c.actor_takes.new.inside.log.trace) c.args.actor c.in_ok-actor_takes.ensures.ok
