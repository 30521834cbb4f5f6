-- The run is handed back and its answer was written, or there was no memory for that.
use Rattle.std.proofs.Common.{◌∙◌, inl, inr}
use Rattle.hx_command.proofs.writing.write_run.Goals as goal

pub returns-in-Ok-clause-handed : goal.returns-in-Ok-clause-handed
returns-in-Ok-clause-handed g c = inl (c.write_answer.ensures.handed ∙ c.in-Ok.ensures.handed, c.write_answer.ensures.written)

pub returns-in-Err-clause-handed : goal.returns-in-Err-clause-handed
returns-in-Err-clause-handed g c = inr (c.without_trace.ensures.outcome, c.without_trace.ensures.nothing)
