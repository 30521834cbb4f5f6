use Rattle.hx_law_threads.proofs.Sessions.{done_ended, under_way_open}
use Rattle.hx_law_threads.proofs.sessions_note_their_calls.Goals as goal

pub returns : goal.returns
returns c = record { done = done_ended; under_way = under_way_open }
