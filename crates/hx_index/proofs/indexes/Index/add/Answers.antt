use Rattle.std.proofs.Common.{ap, sym, subst, ◌∙◌, ◌+◌, arith}
use Rattle.hx_index.specs.Orders.{IndexState, IsIndexOf, count_of, rows_at, rows_without}
use Rattle.hx_index.proofs.Showing.{added-count, added-index, added-orders, added-without, are-orders, room-at}
use Rattle.hx_index.proofs.indexes.Index.add.Goals as goal

pub insert_everywhere-requires-clause-others : goal.insert_everywhere-requires-clause-others
insert_everywhere-requires-clause-others c =
    let rows = rows_without c.args.id (rows_at c.args.rows.now) in
    are-orders rows c.self.inside.orders.items c.self.inside.room (subst (IsIndexOf rows) (sym c.self.view_is) c.requires.others)

pub insert_everywhere-requires-clause-room : goal.insert_everywhere-requires-clause-room
insert_everywhere-requires-clause-room c =
    room-at c.self.inside.orders.items c.self.inside.room c.self.invariant (let l = c.requires.room in
    let n = ap count_of c.self.view_is in let m = ap (λ (x : IndexState). x.room) c.self.view_is in omega (arith, l, n, m))

pub invariant_of-self : goal.invariant_of-self
invariant_of-self c = added-orders c.self.inside.orders.items c.self.inside.room c.self.invariant
    (rows_at c.args.rows.now) c.args.id c.insert_everywhere.new.orders.items c.insert_everywhere.ensures
    (let l = c.requires.room in let n = ap count_of c.self.view_is in
    let m = ap (λ (x : IndexState). x.room) c.self.view_is in omega (arith, l, n, m))

pub returns-clause-index : goal.returns-clause-index
returns-clause-index c = added-index c.self.inside.orders.items c.self.inside.room c.self.invariant
    (rows_at c.args.rows.now) c.args.id c.insert_everywhere.new.orders.items c.insert_everywhere.ensures

pub returns-clause-others : goal.returns-clause-others
returns-clause-others c = ap (λ (x : IndexState). x.orders) (sym c.self.view_is)
    ∙ added-without c.self.inside.orders.items c.self.inside.room c.self.invariant
    (rows_at c.args.rows.now) c.args.id c.insert_everywhere.new.orders.items c.insert_everywhere.ensures

pub returns-clause-count : goal.returns-clause-count
returns-clause-count c =
    let n = added-count c.self.inside.orders.items c.self.inside.room c.self.invariant
    (rows_at c.args.rows.now) c.args.id c.insert_everywhere.new.orders.items c.insert_everywhere.ensures in
    n ∙ ap (λ (x : IndexState). count_of x + 1) c.self.view_is
