use Rattle.std.proofs.Common.{ap, rules}
use Rattle.hx_clock.proofs.Knowing.{handed_knows}
use Rattle.hx_clock.proofs.Steps.{enrols_at, hands, tells}
use Rattle.hx_clock.proofs.clock.Clock.enrol.Goals as goal

pub fetch_add-number-requires : goal.fetch_add-number-requires
fetch_add-number-requires c = (search rules, search rules, enrols_at _ _ _ c.args.seat.now.view _ (ap (λ s. s.view) c.seat.view_is) c.requires.room)

pub split_seat-token-requires : goal.split_seat-token-requires
split_seat-token-requires c = search (rules, hands, tells)

pub returns-clause-made : goal.returns-clause-made
returns-clause-made c = search rules

pub returns-clause-knows : goal.returns-clause-knows
returns-clause-knows c = handed_knows c.args.seat.now.view _ _ (returns-clause-made c)

pub returns-clause-own : goal.returns-clause-own
returns-clause-own c = ap (λ v. v.carried) (returns-clause-made c)
