use Rattle.std.proofs.Common.{◌≡◌, ◌++◌, List, refl, ap, subst, sym, ◌∙◌}
use Rattle.hx_model.specs.Types.{Note, Post}
use Rattle.hx_model.specs.ServerSteps.{ServerState, ServerStep, server_step}
use Rattle.hx_replica.specs.Plans.{IsChange, IsPlanOn}
use Rattle.hx_replica.specs.Servers.{ServerValue, server_entry}
use Rattle.hx_replica.proofs.Naming.{entry_named}
use Rattle.hx_replica.proofs.Planning.{made_planned}
use Rattle.hx_replica.proofs.Sounding.{entry_sound}
use Rattle.hx_replica.proofs.servers.Server.prepare.Goals as goal

pub returns-clause-plan : goal.returns-clause-plan
returns-clause-plan c =
    let v = c.change_on.new.self in
    let old = c.args.self.now in
    let same : server_step v.space v.state c.args.input ≡ server_step old.space old.state c.args.input =
    λ i. server_step (c.change_on.ensures.space i) (c.change_on.ensures.state i) c.args.input in
    let is : IsPlanOn v _ = made_planned v c.args.input c.self.inside.id c.change_on.new.posts c.change_on.new.notes c.in-Ok.change _
    (ap (λ (x : ServerValue). x.state.id) c.self.view_is ∙ ap (λ (s : ServerState). s.id) (sym c.change_on.ensures.state))
    (c.in-Ok.ensures.posts ∙ ap (λ (ps : List Post). ps ++ (server_step old.space old.state c.args.input).posts) c.new-posts.ensures ∙ ap
    (λ (t : ServerStep). t.posts) (sym same))
    (c.in-Ok.ensures.notes ∙ ap (λ (ns : List Note). ns ++ (server_step old.space old.state c.args.input).notes) c.new-notes.ensures ∙ ap
    (λ (t : ServerStep). t.notes) (sym same))
    (subst (λ (t : ServerStep). IsChange v t.state c.in-Ok.change) (sym same) c.in-Ok.ensures.change) refl in
    is

pub returns-clause-named : goal.returns-clause-named
returns-clause-named c =
    let v = c.change_on.new.self in
    let old = c.args.self.now in
    let same : server_step v.space v.state c.args.input ≡ server_step old.space old.state c.args.input =
    λ i. server_step (c.change_on.ensures.space i) (c.change_on.ensures.state i) c.args.input in
    let is : IsPlanOn v _ = made_planned v c.args.input c.self.inside.id c.change_on.new.posts c.change_on.new.notes c.in-Ok.change _
    (ap (λ (x : ServerValue). x.state.id) c.self.view_is ∙ ap (λ (s : ServerState). s.id) (sym c.change_on.ensures.state))
    (c.in-Ok.ensures.posts ∙ ap (λ (ps : List Post). ps ++ (server_step old.space old.state c.args.input).posts) c.new-posts.ensures ∙ ap
    (λ (t : ServerStep). t.posts) (sym same))
    (c.in-Ok.ensures.notes ∙ ap (λ (ns : List Note). ns ++ (server_step old.space old.state c.args.input).notes) c.new-notes.ensures ∙ ap
    (λ (t : ServerStep). t.notes) (sym same))
    (subst (λ (t : ServerStep). IsChange v t.state c.in-Ok.change) (sym same) c.in-Ok.ensures.change) refl in
    entry_named old c.args.input _ (is.entry ∙ (λ i. server_entry (c.change_on.ensures.space i) (c.change_on.ensures.state i) c.args.input)) refl

pub returns-clause-sound : goal.returns-clause-sound
returns-clause-sound c =
    let v = c.change_on.new.self in
    let old = c.args.self.now in
    let same : server_step v.space v.state c.args.input ≡ server_step old.space old.state c.args.input =
    λ i. server_step (c.change_on.ensures.space i) (c.change_on.ensures.state i) c.args.input in
    let is : IsPlanOn v _ = made_planned v c.args.input c.self.inside.id c.change_on.new.posts c.change_on.new.notes c.in-Ok.change _
    (ap (λ (x : ServerValue). x.state.id) c.self.view_is ∙ ap (λ (s : ServerState). s.id) (sym c.change_on.ensures.state))
    (c.in-Ok.ensures.posts ∙ ap (λ (ps : List Post). ps ++ (server_step old.space old.state c.args.input).posts) c.new-posts.ensures ∙ ap
    (λ (t : ServerStep). t.posts) (sym same))
    (c.in-Ok.ensures.notes ∙ ap (λ (ns : List Note). ns ++ (server_step old.space old.state c.args.input).notes) c.new-notes.ensures ∙ ap
    (λ (t : ServerStep). t.notes) (sym same))
    (subst (λ (t : ServerStep). IsChange v t.state c.in-Ok.change) (sym same) c.in-Ok.ensures.change) refl in
    entry_sound old c.args.input _ (is.entry ∙ (λ i. server_entry (c.change_on.ensures.space i) (c.change_on.ensures.state i) c.args.input)) refl
