-- The post that an input delivers.
use Rattle.std.specs.Prelude.{List, [], ◌∷◌}
use Rattle.hx_types.specs.declared.ids.Actor.{Actor}
use Rattle.hx_types.specs.declared.traces.Input.{Input}
use Rattle.hx_types.specs.declared.traces.Input.TheVariants.{Tick, Halt, Deliver}
use Rattle.hx_types.specs.Words.{post}
use Rattle.hx_mail.specs.declared.views.Mailed.{Mailed}
use Rattle.hx_mail.specs.Ports.{mailed}

-- the post that an input delivers to an actor
abbrev pub told_by : Actor → Input → List Mailed
told_by a Tick = []
told_by a Halt = []
told_by a (Deliver id from message) = mailed id (post from a message) ∷ []
