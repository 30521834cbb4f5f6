use Rattle.std.proofs.Common.{true, false, ℕ, List, Option, ap, sym, subst, ◌∙◌, arith}
use Rattle.hx_types.specs.Spaces.{attribute_of}
use Rattle.hx_model.specs.Types.{Row}
use Rattle.hx_index.specs.Invariant.{IsEnd, is_part}
use Rattle.hx_index.specs.Looks.{digits_of}
use Rattle.hx_index.specs.Orders.{IsOrder, order_of}
use Rattle.hx_index.specs.Sides.{side_at}
use Rattle.hx_index.proofs.Running.{run-ends}
use Rattle.hx_index.proofs.indexes.Index.run.Goals as goal

pub order-order-requires : goal.order-order-requires
order-order-requires g c = let a = c.attribute.ensures in let l = c.requires.attribute in omega (arith, a, l)

pub end_of_part-first-requires-clause-order : goal.end_of_part-first-requires-clause-order
end_of_part-first-requires-clause-order g c =
    subst (IsOrder (g.L.Look.rows c.args.look.now) (attribute_of c.args.term.now))
    (ap (order_of c.args.self.now) (sym c.attribute.ensures) ∙ sym c.order-order.ensures.numbers)
    (c.requires.index (attribute_of c.args.term.now) c.requires.attribute)

pub end_of_part-end-requires-clause-order : goal.end_of_part-end-requires-clause-order
end_of_part-end-requires-clause-order g c =
    subst (λ (rows : ℕ → Option Row). IsOrder rows (attribute_of c.args.term.now) c.order-order.result.now) (sym c.end_of_part-first.ensures.rows)
    (subst (IsOrder (g.L.Look.rows c.args.look.now) (attribute_of c.args.term.now))
    (ap (order_of c.args.self.now) (sym c.attribute.ensures) ∙ sym c.order-order.ensures.numbers)
    (c.requires.index (attribute_of c.args.term.now) c.requires.attribute))

pub overflow_cast-result : goal.overflow_cast-result
overflow_cast-result g c = let a = c.end_of_part-first.ensures.end.within in let b = c.order-order.ensures.few in omega (arith, a, b)

pub overflow_cast-result-2 : goal.overflow_cast-result-2
overflow_cast-result-2 g c = let a = c.end_of_part-end.ensures.end.within in let b = c.order-order.ensures.few in omega (arith, a, b)

pub returns-clause-run : goal.returns-clause-run
returns-clause-run g c =
    let rows = g.L.Look.rows c.args.look.now in
    let is = c.order-order.ensures.numbers ∙ ap (order_of c.args.self.now) c.attribute.ensures in
    run-ends rows c.args.term.now (order_of c.args.self.now (attribute_of c.args.term.now)) c.end_of_part-first.result c.end_of_part-end.result
    (subst (λ (l : List ℕ). IsEnd (λ i. is_part false (side_at rows c.args.term.now i)) l c.end_of_part-first.result) is c.end_of_part-first.ensures.end)
    (subst (λ (l : List ℕ). IsEnd (λ i. is_part true (side_at rows c.args.term.now i)) l c.end_of_part-end.result) is
    (subst (λ (r : ℕ → Option Row). IsEnd (λ i. is_part true (side_at r c.args.term.now i))
    c.order-order.result.now c.end_of_part-end.result) c.end_of_part-first.ensures.rows c.end_of_part-end.ensures.end))

pub returns-clause-looks : goal.returns-clause-looks
returns-clause-looks g c =
    let a = c.end_of_part-first.ensures.looks in
    let b = c.end_of_part-end.ensures.looks in
    let n = ap digits_of c.order-order.ensures.count in
    omega (arith, a, b, n)
