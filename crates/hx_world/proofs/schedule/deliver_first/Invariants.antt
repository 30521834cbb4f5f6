use Rattle.std.proofs.Common.{◌≡◌, length}
use Rattle.hx_world.specs.Invariant.{IsWorld}
use Rattle.hx_world.proofs.schedule.deliver_first.Given as goal

abbrev pub invariant-loop-id : goal.invariant-loop-id
invariant-loop-id l = record {
  world : IsWorld l.inside;
  script : l.inside.script ≡ l.initial.inside.script;
  trace : l.inside.log.trace ≡ l.initial.inside.log.trace;
}

abbrev pub decreases-loop-id : goal.decreases-loop-id
decreases-loop-id l = length l.inside.log.waiting.items
