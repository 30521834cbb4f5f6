use Rattle.std.proofs.Common.{◌≡◌, map}
use Rattle.hx_law_drivers.specs.Crews.{desks_of}
use Rattle.hx_run.specs.Closed.{seated_of, owned_port_of}
use Rattle.hx_run.proofs.closing.take_apart.Given as goal

abbrev pub invariant-loop-driver : goal.invariant-loop-driver
invariant-loop-driver g l =
    (l.actors.items ≡ map seated_of (desks_of (map (λ d. d.crew) l.yielded)))
    × (l.owned_ports.items ≡ map owned_port_of (desks_of (map (λ d. d.crew) l.yielded)))
    × (l.outs.items ≡ map (λ c. c.out) (map (λ d. d.crew) l.yielded))
    × (l.totals.items ≡ map (λ c. c.totals) (map (λ d. d.crew) l.yielded)) × (l.fates.items ≡ map (λ d. d.fate) l.yielded)
