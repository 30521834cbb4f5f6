-- The share that words choose.
use Rattle.hx_words.specs.Saying.{ChooseShare}
use Rattle.hx_words.proofs.Sayings.{unanswered}
use Rattle.hx_words.proofs.Choices.{exactly, more_than_workers, no_options, one_share}
use Rattle.hx_words.proofs.Limiting.{share_limits}
use Rattle.hx_words.proofs.requests.share_of.Goals as goal

pub returns-in_err-chosen-clause-said : goal.returns-in_err-chosen-clause-said
returns-in_err-chosen-clause-said c share =
    unanswered _ share _ c.from_residual.ensures (λ s. no_options c.chosen_by.ensures s.chosen c.in_err-chosen.was s.said)

pub returns-in_err-workers_alone-clause-said : goal.returns-in_err-workers_alone-clause-said
returns-in_err-workers_alone-clause-said c share =
    unanswered _ share _ c.from_residual-in_err-workers_alone.ensures
    (λ s. more_than_workers c.chosen_by.ensures _ s.chosen _ c.in_ok-chosen.was c.workers_alone.ensures c.in_err-workers_alone.was s.said s.only)

pub returns-clause-said : goal.returns-clause-said
returns-clause-said c share =
    let workers = (c.workers_alone.ensures _).0 c.in_ok-workers_alone.was in
    let chosen : ChooseShare _ _ = record { chosen = _; said = (c.chosen_by.ensures _).0 c.in_ok-chosen.was; only = workers.0; workers_is = workers.1 } in
    exactly (ChooseShare _) _ share chosen (λ other. one_share _ _ other chosen)

pub returns-clause-limits : goal.returns-clause-limits
returns-clause-limits c =
    let workers = (c.workers_alone.ensures _).0 c.in_ok-workers_alone.was in
    share_limits _ _ (record { chosen = _; said = (c.chosen_by.ensures _).0 c.in_ok-chosen.was; only = workers.0; workers_is = workers.1 })
