use Rattle.hx_service.proofs.Booked.{keeps}
use Rattle.hx_service.proofs.laws.runs_show_progress.Goals as goal

pub returns : goal.returns
returns c = λ script trace run u. ((keeps script trace run).of u).progress
