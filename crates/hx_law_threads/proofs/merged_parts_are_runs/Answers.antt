use Rattle.hx_law_threads.proofs.Places.{stamps_are_places}
use Rattle.hx_law_threads.proofs.Runs.{merged_run, of_parts, posts_found}
use Rattle.hx_law_threads.proofs.merged_parts_are_runs.Goals as goal

pub returns : goal.returns
returns c = record { runs = merged_run; places = stamps_are_places; entries = of_parts; posts = posts_found }
