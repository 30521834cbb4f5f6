use Rattle.hx_script.proofs.LoneCalls.{line_takes_call, line_adds_call, line_refuses_call}
use Rattle.hx_script.proofs.laws.calls_are_read_as_in_sessions.Goals as goal

pub returns-clause-read : goal.returns-clause-read
returns-clause-read c = line_takes_call

pub returns-clause-no_other : goal.returns-clause-no_other
returns-clause-no_other c = line_adds_call

pub returns-clause-refused : goal.returns-clause-refused
returns-clause-refused c = line_refuses_call
