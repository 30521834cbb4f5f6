use Rattle.std.proofs.Common.{◌≡◌, filter, not, take}
use Rattle.std.specs.Borrow.{Bor}
use Rattle.hx_model.specs.Types.{Update}
use Rattle.hx_types.specs.Fitting.{is_refused}
use Rattle.hx_history.proofs.lines.writes_of.Given as goal

abbrev pub invariant-loop-update : goal.invariant-loop-update
invariant-loop-update l = l.writes.items ≡ filter (λ (u : Bor Update). not (is_refused u.now.answer)) (take l.update-index l.line)
