-- A fate that counts or draws.
use Rattle.std.specs.Prelude.{true}
use Rattle.hx_fate.specs.declared.fates.Choice.{Choice}
use Rattle.hx_fate.specs.declared.fates.FateState.{FateState}
use Rattle.hx_fate.specs.declared.losing.Losing.{Losing}
use Rattle.hx_fate.specs.declared.losing.Losing.TheVariants.{Counted, Drawn}
use Rattle.hx_fate.specs.States.{raised_if}
use Rattle.hx_fate.specs.Choices.{choice_at, choice_drawn, draw_of}

abbrev pub state_of : Losing → FateState
state_of (Counted f) = f
state_of (Drawn d) = d.state

-- the next choice: that of its number, or that of its draw
abbrev pub choice_of : Losing → Choice
choice_of (Counted f) = choice_at f.tuning (raised_if true f.chosen)
choice_of (Drawn d) = choice_drawn d.state.tuning (draw_of d.seed d.state.chosen)

-- the same fate in another state
abbrev pub with_state : FateState → Losing → Losing
with_state state (Counted f) = Counted state
with_state state (Drawn d) = Drawn (record { seed = d.seed; state = state })
