use Rattle.std.proofs.Common.{◌≡◌, length}
use Rattle.hx_model.specs.ServerSteps.{keys_of}
use Rattle.hx_replica.specs.Installing.{texts}
use Rattle.hx_replica.proofs.KeyOrder.{put_keys}
use Rattle.hx_replica.proofs.keys.keys_of.Given as goal

abbrev pub invariant-updates : goal.invariant-updates
invariant-updates l = put_keys l.rest (texts l.keys.items) ≡ keys_of l.updates

abbrev pub decreases-updates : goal.decreases-updates
decreases-updates l = length l.rest
