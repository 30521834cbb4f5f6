use Rattle.std.proofs.Common.{◌≡◌, ◌++◌, length}
use Rattle.hx_command.proofs.space_runs.take_first.Given as goal

abbrev pub invariant-loop-taken : goal.invariant-loop-taken
invariant-loop-taken g l = record {
  count : length l.first.items ≡ l._taken;
  split : l.first.items ++ l.fates.items ≡ l.initial.fates.items;
}
