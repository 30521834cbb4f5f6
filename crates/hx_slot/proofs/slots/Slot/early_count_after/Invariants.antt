use Rattle.std.proofs.Common.{◌≡◌, ◌+◌, ◌-◌, length}
use Rattle.hx_model.specs.Slots.{taken, turns}
use Rattle.hx_slot.proofs.slots.Slot.early_count_after.Given as goal

abbrev pub invariant-loop-count : goal.invariant-loop-count
invariant-loop-count l =
    l.count + length (taken (turns l.self.region (l.most - l.count) l.top.0 l.self.state.early))
    ≡ length (taken (turns l.self.region l.most l.initial.top.0 l.self.state.early))
