use Rattle.std.proofs.Common.{arith}
use Rattle.hx_cluster.proofs.Deals.{crews-long}
use Rattle.hx_cluster.proofs.dealing.deal.Goals as goal

pub give_fates-requires : goal.give_fates-requires
give_fates-requires g c =
    let many = crews-long c.args.workers c.in_ok-crews.crews.items c.in_ok-crews.ensures.numbered in omega (arith, many, c.requires.workers.2)
