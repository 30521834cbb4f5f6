use Rattle.std.proofs.Common.{List, map, refl, subst, ◌≡◌}
use Rattle.hx_model.specs.Types.{Script}
use Rattle.hx_spaces.specs.Courses.{newest, run_at_start}
use Rattle.hx_spaces.specs.Keeping.{IsKept, course_of}
use Rattle.hx_spaces.proofs.Openings.{start_kept}
use Rattle.hx_spaces.proofs.Resting.{rest_at_start}
use Rattle.hx_spaces.proofs.clusters.Cluster.start.Goals as goal

pub invariant_of-result : goal.invariant_of-result
invariant_of-result c = record { kept = kept; rest = rest_at_start (map newest c.in_ok-worlds.worlds.items) 0 refl } where
  kept : IsKept (course_of c.args.bundle.now c.in_ok-worlds.worlds.items c.new.result.items) c.in_ok-begun.begun.items
  kept =
      start_kept c.args.bundle.now c.in_ok-worlds.worlds.items c.new.result.items c.in_ok-begun.begun.items c.len.result c.requires
      (subst (λ (l : List Script). map newest c.in_ok-worlds.worlds.items ≡ map run_at_start l) c.as_slice.ensures c.in_ok-worlds.ensures)
      c.new.ensures.items c.len.ensures (c.in_ok-begun.ensures.items_if_clones_equal (λ x h. h))
