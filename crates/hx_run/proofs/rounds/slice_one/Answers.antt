use Rattle.hx_run.proofs.rounds.slice_one.Goals as goal

pub returns-clause-sliced : goal.returns-clause-sliced
returns-clause-sliced g c = record { later = c.slice.ensures.later; retries = c.slice.ensures.retries }
