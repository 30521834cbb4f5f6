use Rattle.std.proofs.Common.{subst, sym}
use Rattle.std.proofs.lemmas.List.Sorted.{IsNonDecreasingBy-push}
use Rattle.std.specs.List.Sorted.{IsNonDecreasingBy}
use Rattle.hx_history.specs.Events.{version_at}
use Rattle.hx_history.proofs.lines.assign.Goals as goal

pub returns-clause-sorted : goal.returns-clause-sorted
returns-clause-sorted c =
    λ old. subst (IsNonDecreasingBy version_at) (sym c.in_ok-push.ensures.items)
    (IsNonDecreasingBy-push version_at c.cut.new.line.items c.args.update (c.cut.ensures.sorted old) c.cut.ensures.below)
