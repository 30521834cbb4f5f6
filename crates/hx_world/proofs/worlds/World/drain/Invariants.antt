use Rattle.std.proofs.Common.{◌≡◌, ◌+◌, length}
use Rattle.std.specs.Prelude.{reverse}
use Rattle.hx_model.specs.Schedule.{scheduled}
use Rattle.hx_world.proofs.worlds.World.drain.Given as goal

abbrev pub invariant-loop-made : goal.invariant-loop-made
invariant-loop-made l = record {
  script : l.self.script ≡ l.initial.self.script;
  trace : reverse l.self.trace ≡ scheduled l.initial.self.script (reverse l.initial.self.trace) l._made;
  made : length (reverse l.self.trace) ≡ length (reverse l.initial.self.trace) + l._made;
}
