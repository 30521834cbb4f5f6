use Rattle.std.proofs.Common.{◌-◌, reverse}
use Rattle.hx_law_growing.specs.Growing.{calls_in}
use Rattle.hx_model.specs.Schedule.{IsQuiet}
use Rattle.hx_share.proofs.rest.make_rest.Given as goal

abbrev pub invariant-calls : goal.invariant-calls
invariant-calls g l = IsQuiet l.roster.script (reverse l.roster.trace)

-- fewer and fewer calls are left
abbrev pub decreases-calls : goal.decreases-calls
decreases-calls g l = calls_in g.C.Charter.script - calls_in l.roster.script
