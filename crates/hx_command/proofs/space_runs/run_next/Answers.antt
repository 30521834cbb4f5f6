-- The fates of the run are the first of those that were there.
use Rattle.std.proofs.Common.{arith}
use Rattle.std.proofs.lemmas.Option.{slice_get_within}
use Rattle.hx_command.proofs.Running.{if_ok_both, own_at}
use Rattle.hx_command.proofs.space_runs.run_next.Goals as goal

pub returns-clause-risen : goal.returns-clause-risen
returns-clause-risen g c =
    if_ok_both c.run_threads.result _ _ _
    (λ ran is all j f h t p q r.
    let within = slice_get_within ran.fates.items j h q in
    all j f h t (own_at c.in_ok-own.own.items c.take_first.new.fates.items c.args.fates.now.items
    c.args.threading.workers j f c.in_ok-own.ensures.split c.in_ok-own.ensures.count (omega (arith, within, is.fates)) p) q r)
    c.run_threads.ensures.ran c.run_threads.ensures.risen
