use Rattle.std.proofs.Common.{◌++◌, ◌∙◌, List, ap, sym, subst}
use Rattle.hx_model.specs.Types.{Post}
use Rattle.hx_model.specs.SessionSteps.{session_step}
use Rattle.hx_session.specs.Invariant.{IsStateOf}
use Rattle.hx_types.specs.Posted.{ArePostsOf, NameOnly, PostsUpTo}
use Rattle.hx_session.specs.Sessions.{SessionValue, known_to}
use Rattle.hx_session.proofs.Posted.{posts_named, posts_of_space, posts_small}
use Rattle.hx_session.proofs.sessions.Session.prepare.Goals as goal

pub returns-clause-of_space : goal.returns-clause-of_space
returns-clause-of_space c =
    subst (ArePostsOf c.args.self.now.space)
    (sym (c.in-Ok.ensures.posts
    ∙ ap (λ (posts : List Post). posts ++ (session_step c.args.self.now.space c.args.self.now.state c.args.input).posts) c.new-posts.ensures))
    (posts_of_space c.args.self.now.space c.args.self.now.state
    (subst (λ (v : SessionValue). IsStateOf v.space v.state) c.self.view_is c.self.invariant.of_space) c.args.input c.requires)

pub returns-clause-named : goal.returns-clause-named
returns-clause-named c =
    subst (NameOnly (known_to c.args.self.now.state c.args.input))
    (sym (c.in-Ok.ensures.posts
    ∙ ap (λ (posts : List Post). posts ++ (session_step c.args.self.now.space c.args.self.now.state c.args.input).posts) c.new-posts.ensures))
    (posts_named c.args.self.now.space c.args.self.now.state c.args.input)

pub returns-clause-small : goal.returns-clause-small
returns-clause-small c = λ most low brings.
    subst (PostsUpTo most)
    (sym (c.in-Ok.ensures.posts
    ∙ ap (λ (posts : List Post). posts ++ (session_step c.args.self.now.space c.args.self.now.state c.args.input).posts) c.new-posts.ensures))
    (posts_small c.args.self.now.space c.args.self.now.state c.args.input most low brings)
