use Rattle.std.proofs.Common.{◌≡◌, ◌+◌, ◌-◌, length}
use Rattle.hx_model.specs.Slots.{moved_all, taken, top_of, turns}
use Rattle.hx_slot.proofs.slots.Slot.accept_early.Given as goal

abbrev pub invariant-loop-count : goal.invariant-loop-count
invariant-loop-count l = record {
  count : l.count + length (taken (turns l.self.region (l.most - l.count) (top_of l.self.state) l.self.state.early))
      ≡ length (taken (turns l.initial.self.region l.most (top_of l.initial.self.state) l.initial.self.state.early));
  state : moved_all (turns l.self.region (l.most - l.count) (top_of l.self.state) l.self.state.early) l.self.state
      ≡ moved_all (turns l.initial.self.region l.most (top_of l.initial.self.state) l.initial.self.state.early) l.initial.self.state;
  region : l.self.region ≡ l.initial.self.region;
  spare : l.self.spare ≡ l.initial.self.spare;
  held : l.self.held ≡ l.initial.self.held;
}
