use Rattle.std.proofs.Common.{◌-◌, ◌<◌, ◌≤◌, List, get_or, length, sym, subst}
use Rattle.hx_audit.specs.declared.latest.LatestChange.{LatestChange}
use Rattle.hx_audit.specs.Latest.{Falls}
use Rattle.hx_audit.specs.Walking.{HasIn}
use Rattle.hx_audit.proofs.Begun.{falls_more, found_before}
use Rattle.hx_audit.proofs.latest.push_change.Goals as goal

pub returns-in_ok-push-clause-falls : goal.returns-in_ok-push-clause-falls
returns-in_ok-push-clause-falls c =
    λ falls. subst Falls (sym c.in_ok-push.ensures.items)
    (falls_more c.args.changes.now.items c.args.change
    (subst (λ (xs : List LatestChange). (d : LatestChange) → 0 < length xs
    → c.args.change.begin < (get_or xs (length xs - 1) d).begin) c.as_slice.ensures.value
    (c.is_lowest.ensures.lowest c.if-is_lowest.true)) falls)

pub returns-else-is_lowest-clause-found : goal.returns-else-is_lowest-clause-found
returns-else-is_lowest-clause-found c =
    λ time. found_before c.args.changes.now.items c.args.change time
    (subst (HasIn (λ (x : LatestChange). x.begin ≤ c.args.change.begin)) c.as_slice.ensures.value (c.is_lowest.ensures.other c.if-is_lowest.false))
