use Rattle.std.proofs.Common.{sym, ap, ◌∙◌}
use Rattle.std.specs.Option.{option_copied}
use Rattle.std.specs.Prelude.{reverse}
use Rattle.hx_world.proofs.Taking.{actor_here}
use Rattle.hx_world.proofs.schedule.running_post.Goals as goal

pub has_halted-requires-clause-actor : goal.has_halted-requires-clause-actor
has_halted-requires-clause-actor c =
    actor_here c.args.inside.now.script (reverse c.args.inside.now.log.trace) c.requires.world.past c.args.id
    c.in-Some.post.now (sym c.sent_post.ensures ∙ ap option_copied c.in-Some.is)
