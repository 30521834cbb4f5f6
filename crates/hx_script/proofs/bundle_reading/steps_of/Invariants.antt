use Rattle.std.proofs.Common.{◌≡◌, map, take}
use Rattle.hx_script.specs.BundleTexts.{first_space_step}
use Rattle.hx_script.proofs.bundle_reading.steps_of.Given as goal

abbrev pub invariant-loop-line : goal.invariant-loop-line
invariant-loop-line l = l.made ≡ map first_space_step (take l.line-index l.steps)
