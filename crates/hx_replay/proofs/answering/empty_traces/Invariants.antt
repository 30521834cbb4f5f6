use Rattle.std.proofs.Common.{◌≡◌, [], map, take}
use Rattle.hx_model.specs.Types.{Script}
use Rattle.hx_replay.proofs.answering.empty_traces.Given as goal

abbrev pub invariant-loop-script : goal.invariant-loop-script
invariant-loop-script l = l.traces ≡ map (λ (s : Script). []) (take l._script-index l.scripts)
