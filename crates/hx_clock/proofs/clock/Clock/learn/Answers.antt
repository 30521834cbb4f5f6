use Rattle.std.proofs.Common.{ap, rules, ◌∙◌}
use Rattle.hx_clock.proofs.Knowing.{joined_left, joined_right, known-append, owns_joined}
use Rattle.hx_clock.proofs.Steps.{joins}
use Rattle.hx_clock.specs.Views.{known_part}
use Rattle.hx_clock.proofs.clock.Clock.learn.Goals as goal

pub join_seat-requires : goal.join_seat-requires
join_seat-requires c = search (rules, joins)

pub returns-clause-seat : goal.returns-clause-seat
returns-clause-seat c = search rules

pub returns-clause-longer : goal.returns-clause-longer
returns-clause-longer c k = ap (λ v. known_part k v.known) (returns-clause-seat c) ∙ known-append k c.args.seat.now.view.known c.args.pass.view.known

pub returns-clause-kept : goal.returns-clause-kept
returns-clause-kept c = joined_left c.args.seat.now.view c.args.pass.view _ (returns-clause-seat c)

pub returns-clause-learned : goal.returns-clause-learned
returns-clause-learned c = joined_right c.args.seat.now.view c.args.pass.view _ (returns-clause-seat c)

pub returns-clause-own : goal.returns-clause-own
returns-clause-own c = owns_joined c.args.seat.now.view c.args.pass.view _ (returns-clause-seat c)
