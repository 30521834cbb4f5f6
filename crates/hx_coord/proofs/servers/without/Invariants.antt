use Rattle.std.proofs.Common.{◌≡◌, take}
use Rattle.hx_types.specs.Words.{without_server}
use Rattle.hx_coord.proofs.servers.without.Given as goal

abbrev pub invariant-loop-other : goal.invariant-loop-other
invariant-loop-other l = l.left ≡ without_server l.server (take l.other-index l.servers)
