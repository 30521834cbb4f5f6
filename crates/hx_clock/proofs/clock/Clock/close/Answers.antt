use Rattle.std.proofs.Common.{rules}
use Rattle.hx_clock.specs.Views.{parts_of}
use Rattle.hx_clock.proofs.Carried.{stamps-count}
use Rattle.hx_clock.proofs.Steps.{loads}
use Rattle.hx_clock.proofs.clock.Clock.close.Goals as goal

pub load-requires : goal.load-requires
load-requires c = search (rules, loads)

pub returns-clause-stamps : goal.returns-clause-stamps
returns-clause-stamps c = search rules

pub returns-clause-entries : goal.returns-clause-entries
returns-clause-entries c whole = stamps-count _ (parts_of c.args.seat.now.view) (returns-clause-stamps c whole)
