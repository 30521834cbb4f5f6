use Rattle.std.proofs.Common.{◌≡◌, ◌+◌, map}
use Rattle.hx_types.specs.declared.ids.ServerId.{ServerId}
use Rattle.hx_types.specs.Words.{below}
use Rattle.hx_rules.proofs.starting.all_servers.Given as goal

abbrev pub invariant-loop-place : goal.invariant-loop-place
invariant-loop-place l = l.servers ≡ map (λ n. let s : ServerId = record { 0 = n + 1 } in s) (below l.place)
