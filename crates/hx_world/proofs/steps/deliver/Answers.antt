use Rattle.std.proofs.Common.{◌≡◌, Some, rules, sym, ap, ◌∙◌, subst}
use Rattle.std.specs.Option.{option_copied}
use Rattle.std.specs.Prelude.{reverse}
use Rattle.hx_model.specs.Types.{Input}
use Rattle.hx_model.specs.Runs.{post_named}
use Rattle.hx_world.specs.Turns.{HasNoTurn, HasTurn}
use Rattle.hx_world.proofs.Stepping.{delivered, may_take, not_delivered, unsent}
use Rattle.hx_world.proofs.Taking.{actor_here}
use Rattle.hx_world.proofs.steps.deliver.Goals as goal

pub returns-in_default-clause-refused : goal.returns-in_default-clause-refused
returns-in_default-clause-refused c = unsent c.args.inside.now.script (reverse c.args.inside.now.log.trace) c.args.id
    (sym c.sent_post.ensures ∙ ap option_copied c.in_default.is)

pub actor_takes-requires-clause-actor : goal.actor_takes-requires-clause-actor
actor_takes-requires-clause-actor c = actor_here c.args.inside.now.script
    (reverse c.args.inside.now.log.trace) c.requires.world.past c.args.id c.in-Some.post.now
    (sym c.sent_post.ensures ∙ ap option_copied c.in-Some.is)

pub actor_takes-requires-clause-may : goal.actor_takes-requires-clause-may
actor_takes-requires-clause-may c =
    may_take (reverse c.args.inside.now.log.trace) c.args.id c.in-Some.post.now c.in-Ok.input
    (sym c.sent_post.ensures ∙ ap option_copied c.in-Some.is) c.in-Ok.ensures

pub returns-in_err-actor_takes-clause-refused : goal.returns-in_err-actor_takes-clause-refused
returns-in_err-actor_takes-clause-refused c =
    let named : post_named c.args.id (reverse c.args.inside.now.log.trace) ≡ Some c.in-Some.post.now =
    sym c.sent_post.ensures ∙ ap option_copied c.in-Some.is in
    let why =
    not_delivered c.args.inside.now.script (reverse c.args.inside.now.log.trace) c.args.id c.in-Some.post.now named c.in_err-actor_takes.field-0.0
    (subst (λ (x : Input). HasNoTurn c.args.inside.now.script
    (reverse c.args.inside.now.log.trace) c.in-Some.post.now.to x c.in_err-actor_takes.field-0.0) c.in-Ok.ensures
    c.in_err-actor_takes.ensures.err) in
    search (rules, why)

pub returns-clause-ok : goal.returns-clause-ok
returns-clause-ok c =
    let named : post_named c.args.id (reverse c.args.inside.now.log.trace) ≡ Some c.in-Some.post.now =
    sym c.sent_post.ensures ∙ ap option_copied c.in-Some.is in
    delivered c.args.inside.now.script (reverse c.args.inside.now.log.trace) (reverse c.actor_takes.new.inside.log.trace) c.args.id c.in-Some.post.now named
    (subst (λ (x : Input). HasTurn c.args.inside.now.script (reverse c.args.inside.now.log.trace)
    (reverse c.actor_takes.new.inside.log.trace) c.in-Some.post.now.to x) c.in-Ok.ensures c.in_ok-actor_takes.ensures.ok)
