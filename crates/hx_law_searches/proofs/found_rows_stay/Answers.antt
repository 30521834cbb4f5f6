-- In every run each row that a session was ever sent is of a change that stays.
use Rattle.hx_law_searches.proofs.Staying.{runs_keep_rows}
use Rattle.hx_law_searches.proofs.found_rows_stay.Goals as goal

pub returns : goal.returns
returns c = runs_keep_rows
