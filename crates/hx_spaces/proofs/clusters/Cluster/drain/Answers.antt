use Rattle.std.proofs.Common.{length, subst, ◌≤◌}
use Rattle.hx_spaces.specs.Courses.{Course}
use Rattle.hx_spaces.specs.Draining.{most_in_all}
use Rattle.hx_spaces.specs.Keeping.{course_of}
use Rattle.hx_spaces.proofs.Lengths.{few_in_all}
use Rattle.hx_spaces.proofs.clusters.Cluster.drain.Goals as goal

pub returns-clause-most : goal.returns-clause-most
returns-clause-most c =
    subst (λ (x : Course). length x.order ≤ most_in_all) c.self.view_is
    (few_in_all (course_of c.self.inside.bundle.now c.self.inside.worlds.items c.self.inside.order.items) c.self.inside.begun.items c.self.invariant.kept)
