-- Each run's parts stand behind those of the runs before it, and at the end all of them stand there.
use Rattle.std.proofs.Common.{◌∙◌, ◌++◌, ◌∷◌, [], ap, append_assoc, map, sym}
use Rattle.std.specs.List.{flat_map}
use Rattle.hx_command.proofs.Parts.{all_yielded, flat_more, map_more}
use Rattle.hx_command.proofs.space_parts.parts_of.Goals as goal

pub loop-ran-preserved : goal.loop-ran-preserved
loop-ran-preserved g c =
    let i = c.loop-ran.invariant in
    let e = c.in_ok-add_run.ensures in
    record {
      traces = map_more (λ r. r.trace) c.loop-ran.yielded c.in-Some.ran _ _ i.traces e.traces;
      seats = map_more (λ r. r.seat) c.loop-ran.yielded c.in-Some.ran _ _ i.seats e.seats;
      totals = map_more (λ r. r.totals.items) c.loop-ran.yielded c.in-Some.ran _ _ i.totals e.totals;
      fates = flat_more (λ r. r.fates.items) c.loop-ran.yielded c.in-Some.ran _ _ i.fates e.fates;
      ports = flat_more (λ r. r.ports.items) c.loop-ran.yielded c.in-Some.ran _ _ i.ports e.ports;
      all = append_assoc c.loop-ran.yielded (c.in-Some.ran ∷ []) _ ∙ ap (λ l. c.loop-ran.yielded ++ l) (sym c.in-Some.ensures.steps.0) ∙ i.all;
    }

pub returns-clause-traces : goal.returns-clause-traces
returns-clause-traces g c =
    let i = c.loop-ran.invariant in
    i.traces ∙ ap (map (λ r. r.trace)) (all_yielded c.loop-ran.yielded c.loop-ran.ran-iterator.rest.items
    c.args.runs.items _ i.all (sym c.loop-ran.ran-iterator.rest.ok.0) c.in-None.ensures.steps.0)

pub returns-clause-seats : goal.returns-clause-seats
returns-clause-seats g c =
    let i = c.loop-ran.invariant in
    i.seats ∙ ap (map (λ r. r.seat)) (all_yielded c.loop-ran.yielded c.loop-ran.ran-iterator.rest.items
    c.args.runs.items _ i.all (sym c.loop-ran.ran-iterator.rest.ok.0) c.in-None.ensures.steps.0)

pub returns-clause-totals : goal.returns-clause-totals
returns-clause-totals g c =
    let i = c.loop-ran.invariant in
    i.totals ∙ ap (map (λ r. r.totals.items)) (all_yielded c.loop-ran.yielded c.loop-ran.ran-iterator.rest.items
    c.args.runs.items _ i.all (sym c.loop-ran.ran-iterator.rest.ok.0) c.in-None.ensures.steps.0)

pub returns-clause-fates : goal.returns-clause-fates
returns-clause-fates g c =
    let i = c.loop-ran.invariant in
    i.fates ∙ ap (flat_map (λ r. r.fates.items)) (all_yielded c.loop-ran.yielded c.loop-ran.ran-iterator.rest.items
    c.args.runs.items _ i.all (sym c.loop-ran.ran-iterator.rest.ok.0) c.in-None.ensures.steps.0)

pub returns-clause-ports : goal.returns-clause-ports
returns-clause-ports g c =
    let i = c.loop-ran.invariant in
    i.ports ∙ ap (flat_map (λ r. r.ports.items)) (all_yielded c.loop-ran.yielded c.loop-ran.ran-iterator.rest.items
    c.args.runs.items _ i.all (sym c.loop-ran.ran-iterator.rest.ok.0) c.in-None.ensures.steps.0)
