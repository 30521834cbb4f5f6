use Rattle.std.proofs.Common.{ap, rules, subst}
use Rattle.hx_clock.specs.Views.{IsAfter}
use Rattle.hx_clock.proofs.Steps.{loads}
use Rattle.hx_clock.proofs.clock.Clock.now.Goals as goal

pub load-requires : goal.load-requires
load-requires c = search (rules, loads)

pub returns-clause-later : goal.returns-clause-later
returns-clause-later c = subst (IsAfter c.load.result) (ap (λ s. s.view) c.seat.view_is) c.load.ensures.2.2
