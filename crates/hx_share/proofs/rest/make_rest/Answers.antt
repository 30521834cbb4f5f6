-- Each call is one of those that were left, and in the end none is.
use Rattle.std.proofs.Common.{ap, Ok}
use Rattle.hx_law_growing.specs.Growing.{calls_in}
use Rattle.hx_share.proofs.Counts.{fewer, grows_count}
use Rattle.hx_share.proofs.Left.{settled}
use Rattle.hx_share.proofs.rest.make_rest.Goals as goal

pub calls-smaller : goal.calls-smaller
calls-smaller g c =
    fewer (calls_in g.C.Charter.script) (calls_in c.calls.roster.script) (calls_in c.make_one.new.roster.script) (calls_in c.settle-in-calls.new.self.script)
    (c.in_ok-make_one.ensures.made (ap Ok c.if-branch.true)) (ap calls_in c.in_ok-settle-2.ensures.script)
    (grows_count c.settle-in-calls.new.self.script g.C.Charter.script c.service.ensures.grows)

pub returns-clause-quiet : goal.returns-clause-quiet
returns-clause-quiet g c =
    let none = c.in_ok-make_one.ensures.none (ap Ok c.if-branch.false) in
    settled g.C.Charter.script c.calls.roster c.make_one.new.roster c.service-2.result.now none.0
    c.service-2.ensures.same c.service-2.ensures.grows c.trace.ensures.run
    c.calls.invariant c.service-2.ensures.rest c.quiet_stays.ensures none.1
