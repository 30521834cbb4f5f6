use Rattle.std.proofs.Common.{ap, rules}
use Rattle.hx_clock.proofs.Steps.{acts_at, acts_told}
use Rattle.hx_clock.proofs.clock.Clock.act_making.Goals as goal

pub fetch_add-requires : goal.fetch_add-requires
fetch_add-requires g c =
    (search rules, search rules, acts_at _ _ _ c.args.seat.now.view _ _ (ap (λ s. s.view) c.seat.view_is) c.requires.own c.requires.cause)

pub returns-clause-acts : goal.returns-clause-acts
returns-clause-acts g c =
    acts_told _ c.args.seat.now.view _ _ c.fetch_add.result c.fetch_add.new.seat.me (ap (λ s. s.view) c.seat.view_is) c.fetch_add.ensures.2
