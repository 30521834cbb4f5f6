use Rattle.hx_chain.proofs.Members.{last_server}
use Rattle.hx_chain.proofs.neighbours.last_member.Goals as goal

pub returns-in-Some : goal.returns-in-Some
returns-in-Some c = last_server c.args.members.now c.in-Some.member.now c.in-Some.ensures.value
