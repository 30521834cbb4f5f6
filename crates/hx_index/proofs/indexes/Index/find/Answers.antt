use Rattle.std.proofs.Common.{ℕ, List, Option, eqb, ap, sym, subst, ◌∙◌, slice_range}
use Rattle.std.specs.List.{IsDistinct, filter}
use Rattle.hx_model.specs.Types.{Row}
use Rattle.hx_index.specs.Orders.{order_of, stands_in}
use Rattle.hx_index.specs.Sides.{matches_at}
use Rattle.hx_index.proofs.Matched.{all-matching, each-once, if-ok}
use Rattle.hx_index.proofs.indexes.Index.find.Goals as goal

pub returns-clause-matching : goal.returns-clause-matching
returns-clause-matching g c =
    let rows = g.L.Look.rows c.args.look.now in
    let terms = c.args.terms.now in
    let span = c.narrowest-span.ensures.span in
    let order = order_of c.args.self.now c.narrowest-span.result.attribute in
    if-ok c.matching.result
    (
    λ ids e i.
    let all = e
    ∙ ap (λ (l : List ℕ). filter (matches_at (g.L.Look.rows c.narrowest-span.new.look) terms)
    (slice_range l c.narrowest-span.result.first c.narrowest-span.result.end)) c.order.ensures.numbers
    ∙ ap (λ (r : ℕ → Option Row). filter (matches_at r terms)
    (slice_range order c.narrowest-span.result.first c.narrowest-span.result.end)) c.narrowest-span.ensures.rows
    ∙ sym span.all in
    ap (λ (l : List ℕ). stands_in l i) all ∙ all-matching rows c.narrowest-span.result.attribute terms order
    (c.requires c.narrowest-span.result.attribute span.attribute_is) i
    )
    c.matching.ensures.found

pub returns-clause-once : goal.returns-clause-once
returns-clause-once g c =
    let rows = g.L.Look.rows c.args.look.now in
    let terms = c.args.terms.now in
    let span = c.narrowest-span.ensures.span in
    let order = order_of c.args.self.now c.narrowest-span.result.attribute in
    if-ok c.matching.result
    (
    λ ids e.
    let all = e
    ∙ ap (λ (l : List ℕ). filter (matches_at (g.L.Look.rows c.narrowest-span.new.look) terms)
    (slice_range l c.narrowest-span.result.first c.narrowest-span.result.end)) c.order.ensures.numbers
    ∙ ap (λ (r : ℕ → Option Row). filter (matches_at r terms)
    (slice_range order c.narrowest-span.result.first c.narrowest-span.result.end)) c.narrowest-span.ensures.rows
    ∙ sym span.all in
    subst (IsDistinct eqb) (sym all) (each-once rows c.narrowest-span.result.attribute terms order
    (c.requires c.narrowest-span.result.attribute span.attribute_is))
    )
    c.matching.ensures.found
