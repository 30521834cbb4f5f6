-- In every run servers serve the calls.
use Rattle.hx_law_searches.proofs.Staying.{runs_serve_calls}
use Rattle.hx_law_searches.proofs.servers_serve_calls.Goals as goal

pub returns : goal.returns
returns c = runs_serve_calls
