use Rattle.std.proofs.Common.{◌∙◌, refl, sym, ap, [], ◌∷◌, append-nil}
use Rattle.hx_law_threads.specs.Cuts.{is_retry}
use Rattle.hx_driver.specs.Desks.{entries_before}
use Rattle.hx_driver.proofs.Results.{match-elim, match-map}
use Rattle.hx_driver.proofs.Same.{broken-of}
use Rattle.hx_driver.proofs.Turned.{no-retry-none, no-retry-one, turn-self}
use Rattle.hx_driver.proofs.Waiting.{idle-enough, tick-begins}
use Rattle.hx_driver.proofs.desk_turns.begin.Goals as goal

pub make_unless_worn-requires-clause-enough : goal.make_unless_worn-requires-clause-enough
make_unless_worn-requires-clause-enough g c =
    idle-enough c.args.floor.now.script.now (entries_before c.args.desk.now.part.items) c.args.desk.now.actor
    (sym (c.idle.ensures c.args.floor.now.script.now c.args.desk.now.actor
    (entries_before c.args.desk.now.part.items) c.requires.desk.1.machine) ∙ c.if-idle.true)

pub make_unless_worn-requires-clause-turns : goal.make_unless_worn-requires-clause-turns
make_unless_worn-requires-clause-turns g c =
    tick-begins c.args.floor.now.script.now (entries_before c.args.desk.now.part.items) c.args.desk.now.actor
    (sym (c.idle.ensures c.args.floor.now.script.now c.args.desk.now.actor
    (entries_before c.args.desk.now.part.items) c.requires.desk.1.machine) ∙ c.if-idle.true)

pub returns-then-idle-clause-desk : goal.returns-then-idle-clause-desk
returns-then-idle-clause-desk g c =
    match-map _ _ _ _ c.make_unless_worn.result (λ _ k w h. k w h)
    (λ _ k w h. broken-of _ _ _ w [] c.make_unless_worn.new.desk (k w [] h)) c.make_unless_worn.ensures.desk

pub returns-then-idle-clause-turn : goal.returns-then-idle-clause-turn
returns-then-idle-clause-turn g c = match-elim _ _ _ c.make_unless_worn.result (λ _ k. (k.0 ∷ [], k.2)) (λ _ k. ([], k)) c.make_unless_worn.ensures.turn

pub returns-then-idle-clause-retries : goal.returns-then-idle-clause-retries
returns-then-idle-clause-retries g c =
    let idle = sym (c.idle.ensures c.args.floor.now.script.now c.args.desk.now.actor
    (entries_before c.args.desk.now.part.items) c.requires.desk.1.machine) ∙ c.if-idle.true in
    match-elim _ _ _ c.make_unless_worn.result
    (λ _ k. no-retry-one c.args.desk.now c.make_unless_worn.new.desk k.0 k.2.part
    (ap is_retry k.1 ∙ tick-begins c.args.floor.now.script.now
    (entries_before c.args.desk.now.part.items) c.args.desk.now.actor idle))
    (λ _ k. no-retry-none c.args.desk.now c.make_unless_worn.new.desk (k.part ∙ append-nil _)) c.make_unless_worn.ensures.turn

pub returns-else-idle-clause-turn : goal.returns-else-idle-clause-turn
returns-else-idle-clause-turn g c = (
  [],
  turn-self c.args.floor.now.boxes.now c.args.desk.now c.args.out.now
      c.args.totals.now _ c.requires.out c.requires.room.total,
)

pub returns-else-idle-clause-retries : goal.returns-else-idle-clause-retries
returns-else-idle-clause-retries g c = no-retry-none c.args.desk.now c.args.desk.now refl
