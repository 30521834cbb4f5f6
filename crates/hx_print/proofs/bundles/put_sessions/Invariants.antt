use Rattle.std.proofs.Common.{◌≡◌, ◌<◌, ◌≤◌, ◌+◌, ◌++◌, length}
use Rattle.std.specs.List.{All}
use Rattle.hx_print.specs.BundlePrinting.{bundle_sessions_text}
use Rattle.hx_print.proofs.bundles.put_sessions.Given as goal

abbrev pub invariant-sessions : goal.invariant-sessions
invariant-sessions l = record {
  room : l.number + length l.rest ≤ length l.sessions + 1;
  within : All (λ turns. All (λ k. k < length l.spaces) turns) l.rest;
  so_far : l.out.items ++ bundle_sessions_text l.spaces l.number l.rest ≡ l.fn.out.items ++ bundle_sessions_text l.spaces 1 l.sessions;
}

abbrev pub decreases-sessions : goal.decreases-sessions
decreases-sessions l = length l.rest
