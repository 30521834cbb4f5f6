use Rattle.std.proofs.Common.{◌≡◌}
use Rattle.hx_replica.specs.Installing.{texts}
use Rattle.hx_replica.proofs.KeyOrder.{IsGone}
use Rattle.hx_replica.proofs.keys.add_key.Given as goal

abbrev pub invariant-loop-number : goal.invariant-loop-number
invariant-loop-number l = record {
  gone : IsGone l.key (texts l.fn.keys.items) l.number;
  same : l.keys.items ≡ l.fn.keys.items;
}
