use Rattle.std.proofs.Common.{◌≡◌, map, take}
use Rattle.hx_script.specs.BundleTexts.{first_space_turns}
use Rattle.hx_script.proofs.bundle_reading.all_turns.Given as goal

abbrev pub invariant-loop-calls : goal.invariant-loop-calls
invariant-loop-calls l = l.turns ≡ map first_space_turns (take l.calls-index l.sessions)
