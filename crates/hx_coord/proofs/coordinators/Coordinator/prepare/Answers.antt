use Rattle.std.proofs.Common.{◌+◌, sym, subst}
use Rattle.hx_coord.specs.Coordinators.{known_to}
use Rattle.hx_types.specs.Posted.{ArePostsOf, NameOnly, PostsUpTo}
use Rattle.hx_coord.proofs.Posted.{posts_named, posts_of_space, posts_small}
use Rattle.hx_coord.proofs.coordinators.Coordinator.prepare.Goals as goal

pub returns-clause-of_space : goal.returns-clause-of_space
returns-clause-of_space c = λ space h brings. subst (ArePostsOf space) (sym c.in-Ok.ensures.posts) (posts_of_space space c.args.self.now h c.args.input brings)

pub returns-clause-named : goal.returns-clause-named
returns-clause-named c = subst (NameOnly (known_to c.args.self.now c.args.input)) (sym c.in-Ok.ensures.posts) (posts_named c.args.self.now c.args.input)

pub returns-clause-small : goal.returns-clause-small
returns-clause-small c = λ most small. subst (PostsUpTo (most + 1)) (sym c.in-Ok.ensures.posts) (posts_small c.args.self.now c.args.input most small)
