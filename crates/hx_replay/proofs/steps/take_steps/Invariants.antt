use Rattle.std.proofs.Common.{◌≡◌, ℕ, [], length, map, reverse}
use Rattle.std.specs.List.{AllByRecursion}
use Rattle.hx_model.specs.Types.{Step}
use Rattle.hx_world.specs.Worlds.{IsStepOf}
use Rattle.hx_model.specs.Schedule.{stepped}
use Rattle.hx_replay.specs.Steps.{stop_of}
use Rattle.hx_replay.proofs.steps.take_steps.Given as goal

abbrev pub invariant-steps : goal.invariant-steps
invariant-steps l = record {
  script : l.world.script ≡ l.script;
  steps : AllByRecursion (λ (s : ℕ × Step). IsStepOf l.script s.1) l.rest;
  stop : stop_of l.script [] l.script.steps ≡ stop_of l.script (reverse l.world.trace) l.rest;
  stepped_so_far : stepped l.script [] (map (λ (s : ℕ × Step). s.1) l.script.steps)
      ≡ stepped l.script (reverse l.world.trace) (map (λ (s : ℕ × Step). s.1) l.rest);
}

abbrev pub decreases-steps : goal.decreases-steps
decreases-steps l = length l.rest
