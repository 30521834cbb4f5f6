use Rattle.hx_law_threads.proofs.Retries.{retriers_waited, retries_wait}
use Rattle.hx_law_threads.proofs.only_waiting_actors_retry.Goals as goal

pub returns : goal.returns
returns c = record { retries = retries_wait; cuts = retriers_waited }
