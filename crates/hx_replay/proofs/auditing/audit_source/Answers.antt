-- What kept the report from being judged doesn't depend on the sink.
use Rattle.hx_replay.proofs.auditing.audit_source.Goals as goal

pub returns-in-Err-clause-ends : goal.returns-in-Err-clause-ends
returns-in-Err-clause-ends g c = c.in-Err.ensures.cause _
