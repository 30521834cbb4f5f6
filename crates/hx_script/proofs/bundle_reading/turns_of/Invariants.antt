use Rattle.std.proofs.Common.{◌≡◌, take}
use Rattle.hx_script.specs.BundleTexts.{first_space_turns}
use Rattle.hx_script.proofs.bundle_reading.turns_of.Given as goal

abbrev pub invariant-loop-call : goal.invariant-loop-call
invariant-loop-call l = l.turns ≡ first_space_turns (take l._call-index l.calls)
