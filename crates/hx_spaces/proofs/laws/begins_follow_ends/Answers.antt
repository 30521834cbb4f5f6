use Rattle.hx_spaces.proofs.Following.{begins-follow-ends}
use Rattle.hx_spaces.proofs.laws.begins_follow_ends.Goals as goal

pub returns : goal.returns
returns c = begins-follow-ends
