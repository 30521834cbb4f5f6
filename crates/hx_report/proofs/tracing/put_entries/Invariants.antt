use Rattle.std.proofs.Common.{◌≡◌, ◌+◌, ◌++◌, drop}
use Rattle.hx_report.specs.Tracing.{entries_text}
use Rattle.hx_report.proofs.tracing.put_entries.Given as goal

abbrev pub invariant-loop-place : goal.invariant-loop-place
invariant-loop-place l = l.out.items ++ entries_text (l.place + 1) (drop l.place l.trace) ≡ l.fn.out.items ++ entries_text 1 l.trace
