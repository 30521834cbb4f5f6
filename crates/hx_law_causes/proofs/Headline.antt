-- The laws on causes, for every run.
use Rattle.hx_law_causes.specs.Causes.{RunsAnswerAll, RunsHaveCauses}
use Rattle.hx_law_causes.proofs.Law.{has-causes}
use Rattle.hx_law_causes.proofs.Present.{answers-all}
use Rattle.hx_law_causes.proofs.Told.{doubts-are-told, refusals-are-named}

-- each answer has its cause
pub runs_have_causes : RunsHaveCauses
runs_have_causes script valid trace run = has-causes script valid (doubts-are-told script valid) (refusals-are-named script valid) trace run

-- and where no region of the space is lost, none is refused or in doubt
pub runs_answer_all : RunsAnswerAll
runs_answer_all script valid trace run present = answers-all script valid trace run (runs_have_causes script valid trace run) present
