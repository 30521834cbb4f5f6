use Rattle.std.proofs.Common.{◌≡◌, ℕ, ◌<◌, false}
use Rattle.hx_world.specs.Idle.{is_idle_at}
use Rattle.hx_world.proofs.schedule.first_idle.Given as goal

abbrev pub invariant-loop-place : goal.invariant-loop-place
invariant-loop-place l = (place : ℕ) → place < l.place → is_idle_at l.sessions place ≡ false
