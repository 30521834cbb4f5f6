use Rattle.std.proofs.Common.{◌≡◌, ◌++◌, IfOk, OnOk, ap, subst, sym}
use Rattle.hx_model.specs.ServerSteps.{ServerStep, server_step}
use Rattle.hx_replica.specs.Plans.{IsChange}
use Rattle.hx_replica.specs.Servers.{ServerValue}
use Rattle.hx_replica.proofs.Bareness.{bare_seen}
use Rattle.hx_replica.proofs.Planning.{always, can_hear, nothing_more, step_on}
use Rattle.hx_replica.proofs.servers.Server.change_on.Goals as goal

pub hear-requires : goal.hear-requires
hear-requires c = can_hear c.args.self.now.space c.args.self.now.state c.args.input.now _ c.in-Deliver.from c.in-Deliver.message c.requires c.in-Deliver.is

pub tick-requires : goal.tick-requires
tick-requires c = bare_seen c.self.inside c.args.self.now c.self.view_is c.self.invariant

pub halt-requires : goal.halt-requires
halt-requires c = bare_seen c.self.inside c.args.self.now c.self.view_is c.self.invariant

pub returns-in-Tick-clause-posts : goal.returns-in-Tick-clause-posts
returns-in-Tick-clause-posts c =
    subst (λ (t : ServerStep). OnOk c.tick.result (c.tick.new.posts ≡ c.args.posts.now ++ t.posts))
    (sym (step_on c.args.self.now c.args.input.now _ c.requires c.in-Tick.is)) c.tick.ensures.posts

pub returns-in-Tick-clause-notes : goal.returns-in-Tick-clause-notes
returns-in-Tick-clause-notes c =
    always c.tick.result (nothing_more c.args.notes.now _
    (ap (λ (t : ServerStep). t.notes) (step_on c.args.self.now c.args.input.now _ c.requires c.in-Tick.is)))

pub returns-in-Tick-clause-change : goal.returns-in-Tick-clause-change
returns-in-Tick-clause-change c =
    let v = c.args.self.now in
    subst (λ (x : ServerValue). IfOk c.tick.result (IsChange x (server_step v.space v.state c.args.input.now).state)) (sym c.tick.ensures.stays)
    (subst (λ (t : ServerStep). IfOk c.tick.result (IsChange v t.state)) (sym (step_on v c.args.input.now _ c.requires c.in-Tick.is)) c.tick.ensures.change)

pub returns-in-Halt-clause-posts : goal.returns-in-Halt-clause-posts
returns-in-Halt-clause-posts c =
    subst (λ (t : ServerStep). OnOk c.halt.result (c.halt.new.posts ≡ c.args.posts.now ++ t.posts))
    (sym (step_on c.args.self.now c.args.input.now _ c.requires c.in-Halt.is)) c.halt.ensures.posts

pub returns-in-Halt-clause-notes : goal.returns-in-Halt-clause-notes
returns-in-Halt-clause-notes c =
    always c.halt.result (nothing_more c.args.notes.now _
    (ap (λ (t : ServerStep). t.notes) (step_on c.args.self.now c.args.input.now _ c.requires c.in-Halt.is)))

pub returns-in-Halt-clause-change : goal.returns-in-Halt-clause-change
returns-in-Halt-clause-change c =
    subst (λ (t : ServerStep). IfOk c.halt.result (IsChange c.args.self.now t.state))
    (sym (step_on c.args.self.now c.args.input.now _ c.requires c.in-Halt.is)) c.halt.ensures.change

pub returns-in-Deliver-clause-posts : goal.returns-in-Deliver-clause-posts
returns-in-Deliver-clause-posts c =
    subst (λ (t : ServerStep). OnOk c.hear.result (c.hear.new.posts ≡ c.args.posts.now ++ t.posts))
    (sym (step_on c.args.self.now c.args.input.now _ c.requires c.in-Deliver.is)) c.hear.ensures.posts

pub returns-in-Deliver-clause-notes : goal.returns-in-Deliver-clause-notes
returns-in-Deliver-clause-notes c =
    subst (λ (t : ServerStep). OnOk c.hear.result (c.hear.new.notes ≡ c.args.notes.now ++ t.notes))
    (sym (step_on c.args.self.now c.args.input.now _ c.requires c.in-Deliver.is)) c.hear.ensures.notes

pub returns-in-Deliver-clause-change : goal.returns-in-Deliver-clause-change
returns-in-Deliver-clause-change c =
    subst (λ (t : ServerStep). IfOk c.hear.result (IsChange c.hear.new.self t.state))
    (sym (step_on c.args.self.now c.args.input.now _ c.requires c.in-Deliver.is)) c.hear.ensures.change
