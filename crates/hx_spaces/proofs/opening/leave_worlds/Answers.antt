use Rattle.std.proofs.Common.{List, [], ◌∷◌, ◌++◌, map, ap, subst, sym, ◌∙◌}
use Rattle.hx_model.specs.Types.{Entry}
use Rattle.std.specs.List.{All}
use Rattle.hx_world.specs.Worlds.{WorldState}
use Rattle.hx_spaces.specs.Clusters.{IsRunOfSpace}
use Rattle.hx_spaces.specs.Courses.{newest}
use Rattle.hx_spaces.proofs.Openings.{all_yielded, left, left_all, map-push, moved}
use Rattle.hx_spaces.proofs.opening.leave_worlds.Goals as goal

pub returns-clause-runs : goal.returns-clause-runs
returns-clause-runs c =
    left_all c.args.worlds.items
    (subst (λ (l : List WorldState). All (λ (w : WorldState). IsRunOfSpace (newest w)) l)
    (all_yielded c.loop-world.yielded c.loop-world.world-iterator.rest.items c.args.worlds.items _
    c.loop-world.invariant.2 (sym c.loop-world.world-iterator.rest.ok.0) c.in-None.ensures.steps.0)
    c.loop-world.invariant.1)

pub loop-world-preserved : goal.loop-world-preserved
loop-world-preserved c = (
  c.in_ok-push.ensures.items ∙ ap (λ (l : List (List Entry)). l ++ c.leave.result ∷ []) c.loop-world.invariant.0
      ∙ ap (λ (t : List Entry). map (λ (w : WorldState). w.trace) c.loop-world.yielded ++ t ∷ []) c.leave.ensures.trace
      ∙ sym (map-push (λ (w : WorldState). w.trace) c.loop-world.yielded c.in-Some.world),
  left c.loop-world.yielded c.in-Some.world c.leave.result c.loop-world.invariant.1 c.leave.ensures.trace
      c.leave.ensures.valid c.leave.ensures.run c.leave.ensures.few,
  moved c.loop-world.yielded c.loop-world.world-iterator.rest.items c.next.new.self.rest.items c.args.worlds.items
      c.in-Some.world c.loop-world.invariant.2 c.in-Some.ensures.steps.0,
)
