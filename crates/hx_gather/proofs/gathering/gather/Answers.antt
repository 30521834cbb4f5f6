use Rattle.std.proofs.Common.{sym, subst}
use Rattle.hx_law_threads.specs.Merged.{AreWholeParts, IsMerged}
use Rattle.hx_gather.proofs.Gathers.{gathered, IsGathered}
use Rattle.hx_gather.proofs.gathering.gather.Goals as goal

pub merge-requires : goal.merge-requires
merge-requires c = record { causal = (subst AreWholeParts (sym c.in_ok-parts.ensures.parts) c.in_ok-parts.ensures.whole).causal }

it : (c : goal.In_ok-trace) → IsGathered c.args.actors.items c.in_ok-trace.trace
it c = gathered c.args.actors.items c.in_ok-parts.parts c.in_ok-trace.trace c.in_ok-parts.ensures.parts c.in_ok-parts.ensures.whole c.in_ok-trace.ensures.merged

pub returns-clause-whole : goal.returns-clause-whole
returns-clause-whole c = (it c).whole

pub returns-clause-drawn : goal.returns-clause-drawn
returns-clause-drawn c =
    let seat = c.in_ok-parts.ensures.seat in
    let w = (it c).whole in
    record { whole = seat.0; merged = w.0; is_merged = subst (λ parts. IsMerged parts w.0) (sym seat.1) w.1; places = w.2; entries = w.3 }

pub returns-clause-run : goal.returns-clause-run
returns-clause-run c = (it c).run

pub returns-clause-own : goal.returns-clause-own
returns-clause-own c = (it c).own
