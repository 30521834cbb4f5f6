use Rattle.hx_law_growing.proofs.Replays.{lone_callers_replay, replays_are_one}
use Rattle.hx_law_growing.proofs.lone_callers_replay.Goals as goal

pub returns-clause-replay : goal.returns-clause-replay
returns-clause-replay c = lone_callers_replay

pub returns-clause-one : goal.returns-clause-one
returns-clause-one c = replays_are_one
