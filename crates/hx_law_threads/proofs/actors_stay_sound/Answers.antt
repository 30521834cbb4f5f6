use Rattle.hx_law_threads.proofs.Feeding.{actors_stay_sound}
use Rattle.hx_law_threads.proofs.actors_stay_sound.Goals as goal

pub returns : goal.returns
returns c = actors_stay_sound
