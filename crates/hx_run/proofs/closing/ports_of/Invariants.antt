use Rattle.std.proofs.Common.{◌≡◌, map}
use Rattle.hx_run.proofs.closing.ports_of.Given as goal

abbrev pub invariant-loop-owned_port : goal.invariant-loop-owned_port
invariant-loop-owned_port l = l.ports.items ≡ map (λ t. t.inbox) l.yielded
