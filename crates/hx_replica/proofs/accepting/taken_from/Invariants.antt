use Rattle.std.proofs.Common.{◌∷◌, ◌-◌, length}
use Rattle.hx_model.specs.Slots.{taken, turns}
use Rattle.hx_replica.proofs.Turns.{IsTaking}
use Rattle.hx_replica.proofs.accepting.taken_from.Given as goal

abbrev pub invariant-loop-turn : goal.invariant-loop-turn
invariant-loop-turn l =
    IsTaking l.slot.region l.slot.state.floor (length l.slot.state.early - l._turn) l.top.0 l.slot.state.early
    (l.update ∷ taken (turns l.slot.region (length l.slot.state.early) l.update.version.0 l.slot.state.early)) l.taken.items
