-- The run that words choose.
use Rattle.hx_words.specs.Saying.{ChooseRun}
use Rattle.hx_words.proofs.Sayings.{unanswered}
use Rattle.hx_words.proofs.Choices.{exactly, no_options, one_run}
use Rattle.hx_words.proofs.Limiting.{run_limits}
use Rattle.hx_words.proofs.requests.run_of.Goals as goal

pub returns-in_err-chosen_by-clause-said : goal.returns-in_err-chosen_by-clause-said
returns-in_err-chosen_by-clause-said c run =
    unanswered _ run _ c.from_residual.ensures (λ s. no_options c.chosen_by.ensures s.chosen c.in_err-chosen_by.was s.said)

pub returns-clause-said : goal.returns-clause-said
returns-clause-said c run =
    let chosen : ChooseRun _ c.run_by.result = record { chosen = _; said = (c.chosen_by.ensures _).0 c.in_ok-chosen_by.was; run_is = c.run_by.ensures } in
    exactly (ChooseRun _) c.run_by.result run chosen (λ other. one_run _ c.run_by.result other chosen)

pub returns-clause-limits : goal.returns-clause-limits
returns-clause-limits c =
    run_limits _ c.run_by.result (record { chosen = _; said = (c.chosen_by.ensures _).0 c.in_ok-chosen_by.was; run_is = c.run_by.ensures })
