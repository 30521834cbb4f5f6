use Rattle.std.proofs.Common.{arith, sym, ◌∙◌}
use Rattle.hx_driver.specs.Desks.{entries_before}
use Rattle.hx_law_drivers.specs.Rests.{HasHeard}
use Rattle.hx_run.proofs.Zipped.{each-map, map-each, nil}
use Rattle.hx_run.proofs.resting.is_rested.Goals as goal

pub returns-clause-yes : goal.returns-clause-yes
returns-clause-yes g c e = record {
  kept = nil c.args.desk.now.kept.items (grind (arith, c.args.desk.now.kept.ok, c.if-len-ne0.false, c.len.ensures));
  idle = sym (c.idle.ensures c.args.script.now c.args.desk.now.actor (entries_before c.args.desk.now.part.items) c.requires.machine) ∙ c.if-idle.false;
  heard = each-map (λ d. d.crew) (HasHeard c.args.script.now c.args.desk.now) c.args.drivers.now (c.has_heard_all.ensures.yes e);
}

pub returns-clause-no : goal.returns-clause-no
returns-clause-no g c rested = c.has_heard_all.ensures.no (map-each (λ d. d.crew) (HasHeard c.args.script.now c.args.desk.now) c.args.drivers.now rested.heard)
