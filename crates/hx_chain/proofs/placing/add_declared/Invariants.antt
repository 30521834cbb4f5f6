use Rattle.std.proofs.Common.{◌≡◌, ◌≤◌, ◌+◌, ◌-◌, ◌*◌, ◌++◌, length}
use Rattle.std.specs.Option.{option_copied}
use Rattle.hx_model.specs.Slots.{top_of, touches_of}
use Rattle.hx_chain.specs.Crossing.{ComeAfterLower}
use Rattle.hx_chain.proofs.Subspaces.{places_before}
use Rattle.hx_chain.proofs.placing.add_declared.Given as goal

abbrev pub invariant-loop-s : goal.invariant-loop-s
invariant-loop-s l = record {
  exact : l.places ≡ l.initial.places ++ places_before l.map l.key (option_copied l.old) (option_copied l.new) (touches_of l.slot.state) l.s;
  after : ComeAfterLower (top_of l.slot.state + 1) l.places;
  few : length l.places ≤ length l.initial.places + 2 * (l.s - 1);
}
