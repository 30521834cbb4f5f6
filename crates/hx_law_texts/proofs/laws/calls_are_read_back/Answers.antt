use Rattle.hx_law_texts.proofs.Calls.{lone_reads}
use Rattle.hx_law_texts.proofs.LoneCalls.{lone_told, lone_only, lone_alike}
use Rattle.hx_law_texts.proofs.laws.calls_are_read_back.Goals as goal

pub returns-clause-sayable : goal.returns-clause-sayable
returns-clause-sayable c = lone_reads

pub returns-clause-no_other : goal.returns-clause-no_other
returns-clause-no_other c = lone_only

pub returns-clause-read : goal.returns-clause-read
returns-clause-read c = lone_alike

pub returns-clause-said : goal.returns-clause-said
returns-clause-said c = lone_told
