use Rattle.std.proofs.Common.{[], ◌∷◌, ◌++◌, ap, sym, ◌∙◌}
use Rattle.hx_index.specs.Invariant.{items_of}
use Rattle.hx_index.proofs.Showing.{items-append, repeat-next}
use Rattle.hx_index.proofs.orders.empty_orders.Goals as goal

pub loop-preserved : goal.loop-preserved
loop-preserved c =
    ap items_of c.in_ok-push.ensures.items ∙ items-append c.loop.orders.items c.new.result
    ∙ (λ i. c.loop.invariant i ++ c.new.ensures.items i ∷ []) ∙ sym (repeat-next c.loop.counter ([] ∷ []))
