use Rattle.std.proofs.Common.{length}
use Rattle.hx_service.proofs.counting.+count_calls.Given as goal

abbrev pub decreases-count_calls : goal.decreases-count_calls
decreases-count_calls l = length l.sessions.now
