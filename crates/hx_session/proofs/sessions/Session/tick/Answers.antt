use Rattle.std.proofs.Common.{subst}
use Rattle.hx_model.specs.Types.{Tick}
use Rattle.hx_session.specs.Invariant.{IsStateOf}
use Rattle.hx_session.specs.Sessions.{SessionValue}
use Rattle.hx_session.proofs.Posted.{posts_named, posts_of_space, posts_small}
use Rattle.hx_session.proofs.sessions.Session.tick.Goals as goal

pub returns-in_default-clause-of_space : goal.returns-in_default-clause-of_space
returns-in_default-clause-of_space c =
    posts_of_space c.args.self.now.space c.args.self.now.state
    (subst (λ (v : SessionValue). IsStateOf v.space v.state) c.self.view_is c.self.invariant.of_space) Tick tt

pub returns-in_default-clause-named : goal.returns-in_default-clause-named
returns-in_default-clause-named c = posts_named c.args.self.now.space c.args.self.now.state Tick

pub returns-in_default-clause-small : goal.returns-in_default-clause-small
returns-in_default-clause-small c = λ most low. posts_small c.args.self.now.space c.args.self.now.state Tick most low tt

pub returns-clause-of_space : goal.returns-clause-of_space
returns-clause-of_space c =
    posts_of_space c.args.self.now.space c.args.self.now.state
    (subst (λ (v : SessionValue). IsStateOf v.space v.state) c.self.view_is c.self.invariant.of_space) Tick tt

pub returns-clause-named : goal.returns-clause-named
returns-clause-named c = posts_named c.args.self.now.space c.args.self.now.state Tick

pub returns-clause-small : goal.returns-clause-small
returns-clause-small c = λ most low. posts_small c.args.self.now.space c.args.self.now.state Tick most low tt
