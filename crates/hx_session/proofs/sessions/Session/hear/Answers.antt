use Rattle.std.proofs.Common.{subst}
use Rattle.hx_model.specs.Types.{Deliver}
use Rattle.hx_session.specs.Invariant.{IsStateOf}
use Rattle.hx_session.specs.Sessions.{SessionValue}
use Rattle.hx_session.proofs.Posted.{posts_named, posts_of_space, posts_small}
use Rattle.hx_session.proofs.sessions.Session.hear.Goals as goal

pub returns-in_default-clause-of_space : goal.returns-in_default-clause-of_space
returns-in_default-clause-of_space c =
    posts_of_space c.args.self.now.space c.args.self.now.state
    (subst (λ (v : SessionValue). IsStateOf v.space v.state) c.self.view_is c.self.invariant.of_space)
    (Deliver (record { entry = 0; place = 0 }) c.args.from c.args.message.now) c.requires

pub returns-in_default-clause-named : goal.returns-in_default-clause-named
returns-in_default-clause-named c = λ id. posts_named c.args.self.now.space c.args.self.now.state (Deliver id c.args.from c.args.message.now)

pub returns-in_default-clause-small : goal.returns-in_default-clause-small
returns-in_default-clause-small c = λ most low brings. posts_small c.args.self.now.space c.args.self.now.state
    (Deliver (record { entry = 0; place = 0 }) c.args.from c.args.message.now) most low brings

pub returns-clause-of_space : goal.returns-clause-of_space
returns-clause-of_space c =
    posts_of_space c.args.self.now.space c.args.self.now.state
    (subst (λ (v : SessionValue). IsStateOf v.space v.state) c.self.view_is c.self.invariant.of_space)
    (Deliver (record { entry = 0; place = 0 }) c.args.from c.args.message.now) c.requires

pub returns-clause-named : goal.returns-clause-named
returns-clause-named c = λ id. posts_named c.args.self.now.space c.args.self.now.state (Deliver id c.args.from c.args.message.now)

pub returns-clause-small : goal.returns-clause-small
returns-clause-small c = λ most low brings. posts_small c.args.self.now.space c.args.self.now.state
    (Deliver (record { entry = 0; place = 0 }) c.args.from c.args.message.now) most low brings
