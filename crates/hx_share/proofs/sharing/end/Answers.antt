-- The trace is a run of the whole script, and nothing is left to do or an actor is worn.
use Rattle.std.proofs.Common.{reverse}
use Rattle.hx_share.proofs.Ends.{quiet, worn-out}
use Rattle.hx_share.proofs.sharing.end.Goals.{in-Ok, in-Err-Worn}
use Rattle.hx_share.proofs.sharing.end.Goals as goal

pub returns : goal.returns
returns g c = record {
  run = c.runs_grow.ensures c.into_service.result.script g.C.Charter.script c.into_service.ensures.grows (reverse c.into_trace.result) c.into_trace.ensures.run;
  served = c.into_trace.ensures.served;
  few = c.into_trace.ensures.few;
  ends = elim c.match-make_rest.branch [
    | in-Ok w ↦ quiet g.C.Charter.script c.make_rest.new.roster c.into_service.result c.into_trace.result c.match-make_rest.worn
        c.into_service.ensures.same c.into_trace.ensures.trace w.worn-is w.in-Ok.ensures.quiet
    | in-Err-Worn w ↦ worn-out g.C.Charter.script c.make_rest.new.roster c.into_service.result c.into_trace.result c.match-make_rest.worn
        c.into_service.ensures.same c.into_trace.ensures.trace w.in-Err-Worn.field-0 w.in-Err-Worn.actor w.worn-is w.in-Err-Worn.field-0-is
        c.into_service.ensures.grows c.into_trace.ensures.run w.in-Err-Worn.ensures.fails
  ];
}
