use Rattle.std.proofs.Common.{◌∙◌, true, refl, sym, [], ◌∷◌, append-nil}
use Rattle.hx_types.specs.declared.traces.Input.TheVariants.{Tick}
use Rattle.hx_driver.specs.Desks.{entries_before}
use Rattle.hx_driver.proofs.Results.{match-elim, match-map}
use Rattle.hx_driver.proofs.Same.{ready-enough}
use Rattle.hx_driver.proofs.Turned.{turn-self}
use Rattle.hx_driver.proofs.Waiting.{retried-one, tick-retries}
use Rattle.hx_driver.proofs.Worn.{more-to-make}
use Rattle.hx_driver.proofs.desk_retries.finish.Goals as goal

pub returns-then-not-makes_anything-clause-turn : goal.returns-then-not-makes_anything-clause-turn
returns-then-not-makes_anything-clause-turn g c = (
  [],
  turn-self c.args.floor.now.boxes.now c.args.desk.now c.args.out.now c.args.totals.now _ c.requires.out
      c.requires.room.total,
)

pub returns-then-is_worn-clause-turn : goal.returns-then-is_worn-clause-turn
returns-then-is_worn-clause-turn g c = (
  [],
  turn-self c.args.floor.now.boxes.now c.args.desk.now c.args.out.now
      c.args.totals.now _ c.requires.out c.requires.room.total,
)

pub returns-then-is_worn-clause-fault : goal.returns-then-is_worn-clause-fault
returns-then-is_worn-clause-fault g c =
    let d = c.args.desk.now in
    let enough = sym (ready-enough c.args.floor.now.script.now d Tick c.args.change c.requires.ready)
    ∙ sym c.makes_anything.ensures ∙ c.if-not-makes_anything.false in (
      refl,
      c.is_worn.ensures.most c.if-is_worn.true,
      more-to-make _ _ _ c.requires.desk.0 true d Tick c.requires.desk.1 c.requires.running tt enough
          (tick-retries c.args.floor.now.script.now (entries_before d.part.items) d.actor c.requires.waits),
    )

pub returns-else-is_worn-clause-desk : goal.returns-else-is_worn-clause-desk
returns-else-is_worn-clause-desk g c w h =
    match-elim _ _ _ c.reserve_and_make.result (λ _ k. k w h) (λ _ k. k w [] h) c.reserve_and_make.ensures.desk

pub returns-else-is_worn-clause-turn : goal.returns-else-is_worn-clause-turn
returns-else-is_worn-clause-turn g c = match-elim _ _ _ c.reserve_and_make.result (λ _ k. (k.0 ∷ [], k.2)) (λ _ k. ([], k)) c.reserve_and_make.ensures.turn

pub returns-else-is_worn-clause-retried : goal.returns-else-is_worn-clause-retried
returns-else-is_worn-clause-retried g c =
    let d = c.args.desk.now in
    let enough = sym (ready-enough c.args.floor.now.script.now d Tick c.args.change c.requires.ready)
    ∙ sym c.makes_anything.ensures ∙ c.if-not-makes_anything.false in
    match-map _ _ _ _ c.reserve_and_make.result
    (λ _ k. retried-one c.args.floor.now.script.now d c.reserve_and_make.new.desk k.0 c.requires.running c.requires.waits enough k.1 k.2.part)
    (λ _ k. k.part ∙ append-nil _) c.reserve_and_make.ensures.turn
