-- The runs are handed back, or there was no memory for that.
use Rattle.std.proofs.Common.{◌∙◌, inl, inr, ap, map, arith}
use Rattle.hx_command.specs.Threads.{workers_of}
use Rattle.hx_command.specs.HandedBack.{space_run}
use Rattle.hx_command.proofs.Spaced.{few_ran, length_seen}
use Rattle.hx_command.proofs.space_reports.hand_worn.Goals as goal

pub worn_parts-requires : goal.worn_parts-requires
worn_parts-requires g c =
    let runs = c.args.runs.items in
    let few = few_ran (workers_of c.args.bundle.now c.args.command.workers) c.args.actor c.args.bundle.now.spaces (map space_run runs) c.requires in
    let seen = length_seen space_run runs in
    omega (arith, few, seen)

pub returns-in-Ok-clause-handed : goal.returns-in-Ok-clause-handed
returns-in-Ok-clause-handed g c = inl (c.handed.ensures.outcome, c.handed.ensures.handed ∙ c.in-Ok.ensures.handed)

pub returns-in-Err-clause-handed : goal.returns-in-Err-clause-handed
returns-in-Err-clause-handed g c = inr (c.without_trace.ensures.outcome, c.without_trace.ensures.nothing)

pub returns-in-Ok-clause-kept : goal.returns-in-Ok-clause-kept
returns-in-Ok-clause-kept g c = inl (c.handed.ensures.handed ∙ c.in-Ok.ensures.handed, ap (λ v. v.items) c.handed.ensures.fates ∙ c.in-Ok.ensures.fates)

pub returns-in-Err-clause-kept : goal.returns-in-Err-clause-kept
returns-in-Err-clause-kept g c = inr c.without_trace.ensures.fates
