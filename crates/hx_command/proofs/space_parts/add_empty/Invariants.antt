use Rattle.std.proofs.Common.{◌≡◌, ◌++◌, take}
use Rattle.hx_command.specs.Threads.{no_entries}
use Rattle.hx_command.proofs.space_parts.add_empty.Given as goal

abbrev pub invariant-loop-script : goal.invariant-loop-script
invariant-loop-script l = l.traces ≡ l.initial.traces ++ no_entries (take l._script-index l.scripts)
