use Rattle.std.proofs.Common.{◌≡◌, ◌++◌, [], drop, map}
use Rattle.hx_model.specs.Types.{Script}
use Rattle.hx_replay.proofs.bundle_replaying.no_totals.Given as goal

abbrev pub invariant-loop-script : goal.invariant-loop-script
invariant-loop-script l = l.totals ++ map (λ (s : Script). []) (drop l._script-index l.scripts) ≡ map (λ (s : Script). []) l.scripts
