use Rattle.std.proofs.Common.{◌≡◌, ◌≤◌}
use Rattle.hx_types.specs.declared.ids.SessionId.{SessionId}
use Rattle.hx_service.specs.Rosters.{HasNone}
use Rattle.hx_share.proofs.rest.make_one.Given as goal

-- no call was made, and none can be for the sessions so far
abbrev pub invariant-loop-place : goal.invariant-loop-place
invariant-loop-place g l =
    (l.roster ≡ l.fn.roster) × ((u : SessionId) → 1 ≤ u.0 → u.0 ≤ l.place → HasNone g.C.Charter.script l.fn.roster u)
