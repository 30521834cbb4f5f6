use Rattle.std.proofs.Common.{false, refl, sym, subst}
use Rattle.hx_driver.specs.Turns.{IsFaultOf}
use Rattle.hx_driver.proofs.Results.{match-map}
use Rattle.hx_driver.proofs.Turned.{turn-self}
use Rattle.hx_driver.proofs.Worn.{more-to-make}
use Rattle.hx_driver.proofs.entering.make_unless_worn.Goals as goal

pub returns-then-is_worn-clause-turn : goal.returns-then-is_worn-clause-turn
returns-then-is_worn-clause-turn g c = turn-self c.args.floor.now.boxes.now c.args.desk.now c.args.out.now
    c.args.totals.now _ c.requires.out c.requires.room.total

pub returns-then-is_worn-clause-fault : goal.returns-then-is_worn-clause-fault
returns-then-is_worn-clause-fault g c = (
  refl,
  c.is_worn.ensures.most c.if-is_worn.true,
  more-to-make _ _ _ c.requires.desk.0 false c.args.desk.now c.args.input c.requires.desk.1 c.requires.running
      c.requires.given c.requires.enough c.requires.turns,
)

pub returns-else-is_worn-clause-fault : goal.returns-else-is_worn-clause-fault
returns-else-is_worn-clause-fault g c = match-map _ _ _ _ c.step_on.result (λ x k. k)
    (λ f k. subst (IsFaultOf c.args.floor.now.script.now false c.step_on.new.desk) (sym k) tt) c.step_on.ensures.fault
