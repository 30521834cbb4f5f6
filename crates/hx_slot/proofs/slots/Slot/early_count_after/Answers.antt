use Rattle.std.proofs.Common.{◌≡◌, ◌+◌, ◌-◌, List, Some, ◌∙◌, ap, arith, length, suc}
use Rattle.hx_model.specs.Slots.{Move, taken}
use Rattle.hx_slot.proofs.Turns.{turns-first}
use Rattle.hx_slot.proofs.slots.Slot.early_count_after.Goals as goal

pub loop-count-preserved : goal.loop-count-preserved
loop-count-preserved c =
    let s = c.args.self.now in
    let m = c.len-most.result - (c.loop-count.count + 1) in
    let n : c.len-most.result - c.loop-count.count ≡ suc m = omega arith in
    let first = ap (λ (moves : List Move). length (taken moves))
    (turns-first s.region (c.len-most.result - c.loop-count.count) m c.loop-count.top.0 s.state.early
    c.deref.result.now n (ap Some c.deref.ensures ∙ c.in-Some.ensures.turn)) in
    let before = c.loop-count.invariant in
    omega (arith, first, before)
