use Rattle.hx_law_threads.proofs.States.{by_own, entries_own}
use Rattle.hx_law_threads.proofs.actors_see_their_own_entries.Goals as goal

pub returns : goal.returns
returns c = record { states = by_own; entries = entries_own }
