use Rattle.std.proofs.Common.{◌≡◌}
use Rattle.hx_soak.specs.Drawing.{state_after}
use Rattle.hx_soak.specs.Soaking.{calls_drawn}
use Rattle.hx_soak.proofs.scripts.calls_drawn.Given as goal

abbrev pub invariant-loop-turn : goal.invariant-loop-turn
invariant-loop-turn l = (l.generator.state ≡ state_after l.seed l.turn) × (l.made ≡ calls_drawn l.seed l.turn l.session)
