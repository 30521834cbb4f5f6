use Rattle.std.proofs.Common.{◌≡◌, None, Option, Some, rules, sym, ap, ◌∙◌, subst}
use Rattle.std.proofs.lemmas.Bool.{false≢true}
use Rattle.std.specs.Option.{option_copied}
use Rattle.std.specs.Prelude.{IsSome, reverse}
use Rattle.hx_model.specs.Types.{Input, Post}
use Rattle.hx_model.specs.Runs.{MayTake, post_named}
use Rattle.hx_world.specs.Filing.{heard}
use Rattle.hx_world.specs.Turns.{FailsTurn}
use Rattle.hx_world.proofs.Delivering.{delivers_copy}
use Rattle.hx_world.proofs.Heard.{heard_is}
use Rattle.hx_world.proofs.hearing.takes_copy.Goals as goal

pub unreachable-requires : goal.unreachable-requires
unreachable-requires c =
    let none : post_named c.args.id (reverse c.args.inside.now.log.trace) ≡ None = sym c.sent_post.ensures ∙ ap option_copied c.in_default.is in
    false≢true (subst (λ (o : Option Post). IsSome o) none c.requires.sent)

pub running_takes-requires-clause-may : goal.running_takes-requires-clause-may
running_takes-requires-clause-may c =
    let named : post_named c.args.id (reverse c.args.inside.now.log.trace) ≡ Some c.in-Some.post.now =
    sym c.sent_post.ensures ∙ ap option_copied c.in-Some.is in
    let is : heard c.args.id c.args.inside.now.log.trace ≡ c.in_ok-input.input =
    heard_is c.args.id c.args.inside.now.log.trace c.in-Some.post.now named ∙ sym c.in_ok-input.ensures in
    subst (MayTake (reverse c.args.inside.now.log.trace) c.args.actor) is c.requires.may

pub returns-clause-ok : goal.returns-clause-ok
returns-clause-ok c =
    let named : post_named c.args.id (reverse c.args.inside.now.log.trace) ≡ Some c.in-Some.post.now =
    sym c.sent_post.ensures ∙ ap option_copied c.in-Some.is in
    delivers_copy c.args.inside.now.script (reverse c.args.inside.now.log.trace)
    (reverse c.running_takes.new.inside.log.trace) c.args.actor c.args.id c.in-Some.post.now
    c.in_ok-input.input (heard c.args.id c.args.inside.now.log.trace) c.in_ok-running_takes.field-0 c.in_ok-input.ensures
    (c.in_ok-input.ensures ∙ sym (heard_is c.args.id c.args.inside.now.log.trace c.in-Some.post.now named)) c.in_ok-running_takes.ensures.turn

pub returns-in_err-running_takes-clause-err : goal.returns-in_err-running_takes-clause-err
returns-in_err-running_takes-clause-err c =
    let named : post_named c.args.id (reverse c.args.inside.now.log.trace) ≡ Some c.in-Some.post.now =
    sym c.sent_post.ensures ∙ ap option_copied c.in-Some.is in
    let why =
    subst (λ (x : Input). FailsTurn c.args.inside.now.script (reverse c.args.inside.now.log.trace) c.args.actor x c.in_err-running_takes.field-0.0)
    (c.in_ok-input.ensures ∙ sym (heard_is c.args.id c.args.inside.now.log.trace c.in-Some.post.now named)) c.in_err-running_takes.ensures.turn in
    search (rules, why)
