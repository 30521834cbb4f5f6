use Rattle.std.proofs.Common.{rules}
use Rattle.hx_clock.proofs.Knowing.{carried_known, told_knows}
use Rattle.hx_clock.proofs.Steps.{hands, tells}
use Rattle.hx_clock.proofs.clock.Clock.tell.Goals as goal

pub split_seat-requires : goal.split_seat-requires
split_seat-requires c = search (rules, hands, tells)

pub returns-clause-pass : goal.returns-clause-pass
returns-clause-pass c = search rules

pub returns-clause-told : goal.returns-clause-told
returns-clause-told c = told_knows c.args.seat.now.view _ (returns-clause-pass c)

pub returns-clause-knows : goal.returns-clause-knows
returns-clause-knows c x post h made = returns-clause-told c c.args.id post (carried_known c.args.seat.now.view x c.args.id post h made)
