use Rattle.std.proofs.Common.{Some, ap, sym, subst, ◌∙◌, map}
use Rattle.hx_index.specs.Orders.{IndexState, IsIndexOf, count_of, rows_at, rows_with, without}
use Rattle.hx_index.proofs.Showing.{are-orders, removed-count, removed-index, removed-orders, removed-without}
use Rattle.hx_index.proofs.indexes.Index.forget.Goals as goal

pub remove_everywhere-requires-clause-orders : goal.remove_everywhere-requires-clause-orders
remove_everywhere-requires-clause-orders c =
    let rows = rows_with c.args.id (Some c.args.old.now) (rows_at c.args.rows.now) in
    are-orders rows c.self.inside.orders.items c.self.inside.room (subst (IsIndexOf rows) (sym c.self.view_is) c.requires.index)

pub invariant_of-self : goal.invariant_of-self
invariant_of-self c = removed-orders c.self.inside.orders.items c.self.inside.room c.self.invariant
    (rows_at c.args.rows.now) c.args.id c.remove_everywhere.new.orders.items c.remove_everywhere.ensures

pub returns-clause-index : goal.returns-clause-index
returns-clause-index c = removed-index c.self.inside.orders.items c.self.inside.room c.self.invariant
    (rows_at c.args.rows.now) c.args.id c.remove_everywhere.new.orders.items c.remove_everywhere.ensures

pub returns-clause-others : goal.returns-clause-others
returns-clause-others c = removed-without c.self.inside.orders.items c.self.inside.room c.self.invariant
    (rows_at c.args.rows.now) c.args.id c.remove_everywhere.new.orders.items c.remove_everywhere.ensures
    ∙ ap (λ (x : IndexState). map (without c.args.id) x.orders) c.self.view_is

pub returns-clause-count : goal.returns-clause-count
returns-clause-count c =
    removed-count c.self.inside.orders.items c.self.inside.room c.self.invariant
    (rows_at c.args.rows.now) c.args.id c.remove_everywhere.new.orders.items c.remove_everywhere.ensures
    ∙ ap count_of c.self.view_is
