use Rattle.std.proofs.Common.{ap, sym, ◌∙◌}
use Rattle.hx_store.specs.Indexed.{kept_at}
use Rattle.hx_store.proofs.Entries.{rows-are}
use Rattle.hx_store.proofs.Showing.{on_ok}
use Rattle.hx_store.proofs.slots.Slots.refresh.Goals as goal

pub returns-clause-fresh : goal.returns-clause-fresh
returns-clause-fresh c =
    on_ok c.refresh.result
    (λ e. e ∙ ap kept_at c.as_slice.ensures.value ∙ sym (rows-are c.self.inside.keys.entries c.self.inside.slots.items c.self.invariant.count))
    c.refresh.ensures.fresh
