use Rattle.std.proofs.Common.{◌≡◌, map, take}
use Rattle.hx_print.specs.BundlePrinting.{hands_of}
use Rattle.hx_print.proofs.bundles.hands_of.Given as goal

abbrev pub invariant-loop-script : goal.invariant-loop-script
invariant-loop-script l = map (λ h. h.now) l.hands.items ≡ hands_of (take l.script-index l.spaces) l.session.0
