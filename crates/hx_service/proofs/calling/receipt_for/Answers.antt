-- The receipt is one of those since.
use Rattle.std.proofs.Common.{◌≡◌, Some, reverse, subst, sym}
use Rattle.hx_model.specs.Histories.{note_of_end}
use Rattle.hx_service.specs.Reading.{IsNoted}
use Rattle.hx_service.proofs.Finding as finding
use Rattle.hx_service.proofs.calling.receipt_for.Goals as goal

pub receipt_in-requires : goal.receipt_in-requires
receipt_in-requires c =
    let f = finding.found c.args.world.now.script (reverse c.args.world.now.trace) c.trace-trace.ensures.run
    c.args.booked.now c.requires.booked c.args.before _
    (finding.rest-of c.args.booked.now c.args.before) c.args.caller c.in-Some.found.now (sym c.in-Some.ensures) in
    subst (λ t. IsNoted (reverse t) c.in-Some.found.now) (sym c.trace-trace.ensures.trace)
    (finding.noted c.args.world.now.script (reverse c.args.world.now.trace) c.trace-trace.ensures.run
    c.args.booked.now c.requires.booked c.args.before _
    (finding.rest-of c.args.booked.now c.args.before) c.args.caller c.in-Some.found.now f)

pub returns-in-Some-clause-found : goal.returns-in-Some-clause-found
returns-in-Some-clause-found c =
    let f = finding.found c.args.world.now.script (reverse c.args.world.now.trace) c.trace-trace.ensures.run
    c.args.booked.now c.requires.booked c.args.before _
    (finding.rest-of c.args.booked.now c.args.before) c.args.caller c.in-Some.found.now (sym c.in-Some.ensures) in
    finding.read-is c.args.world.now.script (reverse c.args.world.now.trace) c.trace-trace.ensures.run
    c.args.booked.now c.requires.booked c.args.before _
    (finding.rest-of c.args.booked.now c.args.before) c.args.caller c.in-Some.found.now f
    c.receipt_in.result.caller c.receipt_in.result.begin c.receipt_in.result.end c.receipt_in.result.version c.receipt_in.result.answer.now
    c.receipt_in.ensures.caller c.receipt_in.ensures.begin c.receipt_in.ensures.entry
    (subst (λ t. note_of_end c.in-Some.found.now.caller (reverse t)
    ≡ Some (record {
      entry = c.in-Some.found.now.end;
      version = c.receipt_in.result.version;
      answer = c.receipt_in.result.answer.now;
    })) c.trace-trace.ensures.trace c.receipt_in.ensures.end)

pub returns-in-None-clause-none : goal.returns-in-None-clause-none
returns-in-None-clause-none c =
    finding.none-found c.args.world.now.script (reverse c.args.world.now.trace) c.trace-trace.ensures.run
    c.args.booked.now c.requires.booked c.args.before _
    (finding.rest-of c.args.booked.now c.args.before) c.args.caller (sym c.in-None.ensures)
