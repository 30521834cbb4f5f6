use Rattle.hx_driver.proofs.Going.{match-all}
use Rattle.hx_driver.proofs.moves.make_move.Goals as goal

pub returns-in-Retry-clause-desk : goal.returns-in-Retry-clause-desk
returns-in-Retry-clause-desk g c =
    match-all _ _ c.retry.result (λ _. c.retry.ensures.desk) (λ _ w h. let whole = c.retry.ensures.desk w h in record { rest = whole.rest; desk = whole.desk })
