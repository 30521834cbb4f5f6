use Rattle.std.proofs.Common.{◌≡◌, ◌∙◌, ap, sym, subst, arith, length, map, drop}
use Rattle.hx_outbox.specs.Places.{AreBoxes}
use Rattle.hx_outbox.proofs.Lemmas.{both-long}
use Rattle.hx_run.specs.Closed.{worn_in}
use Rattle.hx_run.proofs.Ends.{actors-need, all-met, all-posted, closed-of, crews-need, how-long, left-same, lent-crews}
use Rattle.hx_run.proofs.Starts.{cut-same}
use Rattle.hx_run.proofs.running.run_drivers.Goals as goal

pub run_rounds-fault-requires-clause-crews : goal.run_rounds-fault-requires-clause-crews
run_rounds-fault-requires-clause-crews g c κs within =
    lent-crews (λ d. d.crew) c.args.script.now c.args.clock.now c.as_slice-held.result.now c.args.workers
    c.in_ok-drivers.drivers.items c.as_mut_slice.result.now c.as_mut_slice.ensures.value c.in_ok-drivers.ensures.crews

pub close-requires-clause-crews : goal.close-requires-clause-crews
close-requires-clause-crews g c =
    let xs = c.in_ok-drivers.drivers.items in
    let news = c.run_rounds-fault.new.drivers in
    let long = both-long _ c.as_mut_slice.result.now news c.run_rounds-fault.ensures.posted in
    let many : length news ≡ c.in_ok-drivers.drivers.len = grind (arith, long, ap length c.as_mut_slice.ensures.value, c.in_ok-drivers.drivers.ok) in
    let stays = cut-same c.in_ok-drivers.drivers.len news (drop (length news) xs) many in
    crews-need (λ d. d.crew) c.args.script.now c.args.clock.now c.as_slice-held.result.now c.args.workers xs
    c.as_mut_slice.result.now news _ c.as_mut_slice.ensures.value stays c.in_ok-drivers.ensures.crews
    c.run_rounds-fault.ensures.crews c.run_rounds-fault.ensures.course c.requires.workers.0

pub close-requires-clause-actors : goal.close-requires-clause-actors
close-requires-clause-actors g c =
    let xs = c.in_ok-drivers.drivers.items in
    let news = c.run_rounds-fault.new.drivers in
    let long = both-long _ c.as_mut_slice.result.now news c.run_rounds-fault.ensures.posted in
    let many : length news ≡ c.in_ok-drivers.drivers.len = grind (arith, long, ap length c.as_mut_slice.ensures.value, c.in_ok-drivers.drivers.ok) in
    let stays = cut-same c.in_ok-drivers.drivers.len news (drop (length news) xs) many in
    actors-need (λ d. d.crew) c.args.script.now c.args.clock.now c.as_slice-held.result.now c.args.workers xs
    c.as_mut_slice.result.now news _ c.as_mut_slice.ensures.value stays c.in_ok-drivers.ensures.crews
    c.run_rounds-fault.ensures.crews c.run_rounds-fault.ensures.course

pub returns : goal.returns
returns g c =
    let xs = c.in_ok-drivers.drivers.items in
    let news = c.run_rounds-fault.new.drivers in
    let long = both-long _ c.as_mut_slice.result.now news c.run_rounds-fault.ensures.posted in
    let many : length news ≡ c.in_ok-drivers.drivers.len = grind (arith, long, ap length c.as_mut_slice.ensures.value, c.in_ok-drivers.drivers.ok) in
    let stays = cut-same c.in_ok-drivers.drivers.len news (drop (length news) xs) many in
    record {
      closed = (
        map (λ d. d.crew) xs,
        map (λ d. d.crew) news,
        closed-of (λ d. d.crew) c.args.script.now c.args.clock.now c.as_slice-held.result.now c.args.workers xs
            c.as_mut_slice.result.now news _ c.as_mut_slice.ensures.value stays c.in_ok-drivers.ensures.crews
            c.run_rounds-fault.ensures.crews c.run_rounds-fault.ensures.course c.run_rounds-fault.result
            c.requires.script (subst (AreBoxes c.args.script.now c.args.clock.now)
            (sym c.as_slice-held.ensures.value) c.in_ok-boxes.ensures.boxes) c.run_rounds-fault.ensures.over
            c.in_ok-closed.ensures.order c.in_ok-closed.ensures.once,
        left-same (λ d. d.crew) c.args.script.now c.args.clock.now c.as_slice-held.result.now c.args.workers xs
            c.as_mut_slice.result.now news _ c.as_mut_slice.ensures.value stays c.in_ok-drivers.ensures.crews
            c.run_rounds-fault.ensures.crews c.run_rounds-fault.ensures.course c.in_ok-closed.closed.actors.items
            c.in_ok-closed.closed.totals.items c.in_ok-closed.closed.ports.items c.in_ok-closed.ensures.left,
        all-met (λ d. d.crew) c.args.script.now c.args.clock.now c.as_slice-held.result.now c.args.workers xs
            c.as_mut_slice.result.now news _ c.as_mut_slice.ensures.value stays c.in_ok-drivers.ensures.crews
            c.run_rounds-fault.ensures.crews c.run_rounds-fault.ensures.course
            (λ c. worn_in c.fault) _ c.in_ok-met_worn.met_worn.items
            (c.in_ok-met_worn.ensures ∙ ap (map (λ d. worn_in d.crew.fault)) c.as_slice.ensures.value) stays,
        how-long (λ d. d.crew) c.args.script.now c.args.clock.now c.as_slice-held.result.now c.args.workers xs
            c.as_mut_slice.result.now news _ c.as_mut_slice.ensures.value stays c.in_ok-drivers.ensures.crews
            c.run_rounds-fault.ensures.crews c.run_rounds-fault.ensures.course
            (λ d. d.fate) c.in_ok-closed.closed.fates.items c.in_ok-closed.ensures.fates long,
        all-posted (λ d. d.crew) c.args.script.now c.args.clock.now c.as_slice-held.result.now c.args.workers xs
            c.as_mut_slice.result.now news _ c.as_mut_slice.ensures.value stays c.in_ok-drivers.ensures.crews
            c.run_rounds-fault.ensures.crews c.run_rounds-fault.ensures.course (λ d. d.fate)
            (λ x. (goal.Fate-dyn g (x.vtable, x.value)).state x.value) c.args.fates.items
            c.in_ok-closed.closed.fates.items c.run_rounds-fault.ensures.posted
            c.in_ok-drivers.ensures.fates c.in_ok-closed.ensures.fates,
      );
    }
