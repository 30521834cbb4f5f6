use Rattle.std.proofs.Common.{◌<◌, ◌∙◌, sym, length, arith}
use Rattle.hx_clock.proofs.Lemmas.{each_in, in_left}
use Rattle.hx_driver.specs.Desks.{entries_before}
use Rattle.hx_run.specs.Rounds.{HasMachine}
use Rattle.hx_run.proofs.Zipped.{at-in}
use Rattle.hx_run.proofs.resting.has_crew_ended.Goals as goal

pub returns-then-not-ended-clause-no : goal.returns-then-not-ended-clause-no
returns-then-not-ended-clause-no c e =
    let desks = c.args.crew.now.desks.items in
    let d = c.index.result.now in
    let lt : c.loop-at.at < length desks = grind (arith, c.loop-at-test.true, c.len-at-end.ensures, c.loop-at.auto.at-end) in
    let here = at-in desks c.loop-at.at d lt c.index.ensures in (
      d,
      in_left d desks _ here,
      sym (c.ended.ensures c.args.script.now d.actor (entries_before d.part.items)
          (each_in (HasMachine c.args.script.now) desks d c.requires.machines here)) ∙ c.if-not-ended.true,
    )
