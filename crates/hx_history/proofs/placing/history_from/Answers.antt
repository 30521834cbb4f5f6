use Rattle.std.proofs.Common.{not, ap, sym, subst, ◌∙◌}
use Rattle.std.proofs.lemmas.List.Kept.{IsNonDecreasingBy-filter}
use Rattle.std.specs.Borrow.{Bor}
use Rattle.std.specs.List.{filter}
use Rattle.std.specs.List.Sorted.{IsNonDecreasingBy}
use Rattle.hx_model.specs.Types.{Update}
use Rattle.hx_types.specs.Fitting.{is_refused}
use Rattle.hx_history.specs.Events.{version_at}
use Rattle.hx_history.proofs.placing.history_from.Goals as goal

pub arrange-requires : goal.arrange-requires
arrange-requires c =
    let kept = IsNonDecreasingBy-filter version_at (λ (u : Bor Update). not (is_refused u.now.answer)) c.in_ok-line.line.items c.in_ok-line.ensures.sorted in
    let same = c.deref-2.ensures.value ∙ c.in_ok-writes.ensures ∙ ap (filter (λ (u : Bor Update). not (is_refused u.now.answer))) c.deref.ensures.value in
    subst (IsNonDecreasingBy version_at) (sym same) kept
