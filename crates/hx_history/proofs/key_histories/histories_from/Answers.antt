use Rattle.std.proofs.Common.{map, reverse, ap, subst, sym, ◌∙◌}
use Rattle.hx_history.specs.Listed.{AreHistories, history_view}
use Rattle.hx_history.proofs.key_histories.histories_from.Goals as goal

pub returns : goal.returns
returns c =
    λ trace view.
    subst (AreHistories c.args.script.now (reverse trace))
    (sym (c.in_ok-copies.ensures ∙ ap (map history_view) c.deref.ensures.value)) (c.in_ok-listed.ensures trace view)
