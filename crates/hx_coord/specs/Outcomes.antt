-- Calls that are answered by the issue of a configuration.
use Rattle.std.specs.Prelude.{List, map}
use Rattle.hx_model.specs.Types.{Post}
use Rattle.hx_model.specs.CoordinatorSteps.{Answered, outcome}

-- each caller hears its answer
abbrev pub outcomes : List Answered → List Post
outcomes answered = map (λ (a : Answered). outcome a.caller a.answer) answered
