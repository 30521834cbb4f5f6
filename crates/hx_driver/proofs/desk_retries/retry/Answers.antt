use Rattle.std.proofs.Common.{◌∙◌, sym, []}
use Rattle.hx_driver.specs.Desks.{entries_before}
use Rattle.hx_driver.proofs.Same.{whole-of, whole-running}
use Rattle.hx_driver.proofs.Turned.{turn-self}
use Rattle.hx_driver.proofs.Waiting.{not-resting, retried-resting}
use Rattle.hx_driver.proofs.desk_retries.retry.Goals as goal

pub returns-then-rests-clause-retried : goal.returns-then-rests-clause-retried
returns-then-rests-clause-retried g c =
    let d = c.args.desk.now in
    retried-resting c.args.floor.now.script.now d (sym
    (c.rests.ensures c.args.floor.now.script.now d.actor
    (entries_before d.part.items) c.requires.desk.1.desk.machine) ∙ c.if-rests.true)

pub returns-then-rests-clause-turn : goal.returns-then-rests-clause-turn
returns-then-rests-clause-turn g c = (
  [],
  turn-self c.args.floor.now.boxes.now c.args.desk.now c.args.out.now
      c.args.totals.now _ c.requires.out c.requires.room.total,
)

pub tick-requires-clause-desk : goal.tick-requires-clause-desk
tick-requires-clause-desk g c =
    let d = c.args.desk.now in
    let past = entries_before d.part.items in
    let h = c.requires.desk.1 in
    let no_rest = not-resting c.args.floor.now.script.now past d.actor
    (sym (c.rests.ensures c.args.floor.now.script.now d.actor past h.desk.machine) ∙ c.if-rests.false) in
    (c.requires.desk.0, whole-running _ _ _ c.requires.desk.0 d h no_rest.0)

pub tick-requires-clause-running : goal.tick-requires-clause-running
tick-requires-clause-running g c =
    let d = c.args.desk.now in
    let past = entries_before d.part.items in
    (not-resting c.args.floor.now.script.now past d.actor
    (sym (c.rests.ensures c.args.floor.now.script.now d.actor past c.requires.desk.1.desk.machine) ∙ c.if-rests.false)).0

pub tick-requires-clause-waits : goal.tick-requires-clause-waits
tick-requires-clause-waits g c =
    let d = c.args.desk.now in
    let past = entries_before d.part.items in
    (not-resting c.args.floor.now.script.now past d.actor
    (sym (c.rests.ensures c.args.floor.now.script.now d.actor past c.requires.desk.1.desk.machine) ∙ c.if-rests.false)).1

pub returns-else-rests-clause-desk : goal.returns-else-rests-clause-desk
returns-else-rests-clause-desk g c w h =
    let d = c.args.desk.now in
    let past = entries_before d.part.items in
    let no_rest = not-resting c.args.floor.now.script.now past d.actor
    (sym (c.rests.ensures c.args.floor.now.script.now d.actor past h.desk.machine) ∙ c.if-rests.false) in
    whole-of _ _ _ w c.tick.new.desk (c.tick.ensures.desk w (whole-running _ _ _ w d h no_rest.0))
