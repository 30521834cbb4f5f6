use Rattle.std.proofs.Common.{◌≡◌, ℕ, Some, Vec, Global, length, slice_get, ap, sym, ◌∙◌, arith}
use Rattle.std.proofs.lemmas.Option.{slice_get-get_or}
use Rattle.hx_index.specs.Orders.{IndexState, count_of, order_of}
use Rattle.hx_index.proofs.Showing.{items-length, order-at}
use Rattle.hx_index.proofs.indexes.Index.order.Goals as goal

there : (c : goal.After-as_slice) → slice_get c.self.inside.orders.items c.args.attribute ≡ Some c.index.result.now
there c =
    let l = c.requires in
    let n = items-length c.self.inside.orders.items in
    let v = ap (λ (x : IndexState). length x.orders) c.self.view_is in
    slice_get-get_or c.self.inside.orders.items c.args.attribute c.index.result.now (omega (arith, l, n, v))
    ∙ ap (λ (o : Vec ℕ Global). Some o) (sym c.index.ensures)

pub returns-clause-numbers : goal.returns-clause-numbers
returns-clause-numbers c =
    c.as_slice.ensures.value ∙ sym (order-at c.self.inside.orders.items c.self.inside.room c.args.attribute
    c.index.result.now (there c)) ∙ ap (λ (x : IndexState). order_of x c.args.attribute) c.self.view_is

pub returns-clause-count : goal.returns-clause-count
returns-clause-count c =
    ap length c.as_slice.ensures.value ∙ (c.self.invariant.each c.args.attribute c.index.result.now (there c)).len ∙ ap count_of c.self.view_is

pub returns-clause-few : goal.returns-clause-few
returns-clause-few c =
    let n = ap length c.as_slice.ensures.value in
    let m = (c.self.invariant.each c.args.attribute c.index.result.now (there c)).len in
    let w = c.self.invariant.within in
    let f = c.self.invariant.small in
    omega (arith, n, m, w, f)
