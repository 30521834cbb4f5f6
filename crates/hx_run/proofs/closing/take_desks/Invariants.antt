use Rattle.std.proofs.Common.{◌≡◌, ◌++◌, map}
use Rattle.hx_run.specs.Closed.{seated_of, owned_port_of}
use Rattle.hx_run.proofs.closing.take_desks.Given as goal

abbrev pub invariant-loop-desk : goal.invariant-loop-desk
invariant-loop-desk l =
    (l.actors.items ≡ l.initial.actors.items ++ map seated_of l.yielded) × (l.owned_ports.items ≡ l.initial.owned_ports.items ++ map owned_port_of l.yielded)
