use Rattle.std.proofs.Common.{Some, ap, sym, subst, ◌∙◌, length}
use Rattle.hx_index.specs.Orders.{IndexState, IsIndexOf, count_of, rows_at, rows_with}
use Rattle.hx_index.proofs.Showing.{are-orders, items-length, replaced-count, replaced-index, replaced-orders}
use Rattle.hx_index.proofs.indexes.Index.replace.Goals as goal

pub replace_everywhere-requires-clause-orders : goal.replace_everywhere-requires-clause-orders
replace_everywhere-requires-clause-orders c =
    let rows = rows_with c.args.id (Some c.args.old.now) (rows_at c.args.rows.now) in
    are-orders rows c.self.inside.orders.items c.self.inside.room (subst (IsIndexOf rows) (sym c.self.view_is) c.requires.index)

pub invariant_of-self : goal.invariant_of-self
invariant_of-self c = replaced-orders c.self.inside.orders.items c.self.inside.room c.self.invariant
    (rows_at c.args.rows.now) c.args.id c.replace_everywhere.new.orders.items c.replace_everywhere.ensures

pub returns-clause-index : goal.returns-clause-index
returns-clause-index c = replaced-index c.self.inside.orders.items c.self.inside.room c.self.invariant
    (rows_at c.args.rows.now) c.args.id c.replace_everywhere.new.orders.items c.replace_everywhere.ensures

pub returns-clause-attributes : goal.returns-clause-attributes
returns-clause-attributes c =
    items-length c.replace_everywhere.new.orders.items ∙ c.replace_everywhere.ensures.count
    ∙ sym (items-length c.self.inside.orders.items) ∙ ap (λ (x : IndexState). length x.orders) c.self.view_is

pub returns-clause-count : goal.returns-clause-count
returns-clause-count c =
    replaced-count c.self.inside.orders.items c.self.inside.room c.self.invariant
    (rows_at c.args.rows.now) c.args.id c.replace_everywhere.new.orders.items c.replace_everywhere.ensures
    ∙ ap count_of c.self.view_is
