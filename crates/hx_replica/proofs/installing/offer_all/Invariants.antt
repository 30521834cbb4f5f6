use Rattle.std.proofs.Common.{◌≡◌, drop}
use Rattle.hx_model.specs.ServerSteps.{offered_all}
use Rattle.hx_model.specs.Slots.{moved_all}
use Rattle.hx_replica.specs.Installing.{of_key}
use Rattle.hx_replica.proofs.installing.offer_all.Given as goal

abbrev pub invariant-loop-update : goal.invariant-loop-update
invariant-loop-update l = record {
  region : l.slot.region ≡ l.fn.slot.region;
  state : moved_all (offered_all l.context.region l.slot.state (of_key l.slot.state.base.key (drop l.update-index l.updates))) l.slot.state
      ≡ moved_all (offered_all l.context.region l.fn.slot.state (of_key l.fn.slot.state.base.key l.updates)) l.fn.slot.state;
}
