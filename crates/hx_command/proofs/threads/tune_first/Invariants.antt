use Rattle.std.proofs.Common.{◌≡◌, length}
use Rattle.hx_fate.specs.States.{tuned}
use Rattle.hx_command.proofs.Tuning.{ChangesBelow, StaysFrom}
use Rattle.hx_command.proofs.threads.tune_first.Given as goal

abbrev pub invariant-loop-at : goal.invariant-loop-at
invariant-loop-at g l =
    (length l.fates.items ≡ length l.initial.fates.items)
    × ChangesBelow (λ b. (goal.Fate-dyn g (b.vtable, b.value)).state b.value) (tuned l.tuning) l.at l.initial.fates.items l.fates.items
    × StaysFrom (λ b. (goal.Fate-dyn g (b.vtable, b.value)).state b.value) (tuned l.tuning) l.at l.initial.fates.items l.fates.items
