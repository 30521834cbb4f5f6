use Rattle.std.proofs.Common.{◌≡◌, ◌-◌, ◌+◌, List, true, get_or, ap, sym, subst, ◌∙◌, refl, ltb, drop}
use Rattle.std.proofs.lemmas.Bool.{cond_both}
use Rattle.hx_model.specs.Types.{Term}
use Rattle.hx_index.specs.declared.searching.Span.{Span}
use Rattle.hx_index.specs.Invariant.{IsSpan}
use Rattle.hx_index.specs.Searches.{is_indexed, least_run}
use Rattle.hx_index.proofs.Narrowing.{least-next, run-span}
use Rattle.hx_index.proofs.indexes.Index.narrow.Goals as goal

pub returns-clause-span : goal.returns-clause-span
returns-clause-span g c =
    let index = c.args.self.now in
    let rows = g.L.Look.rows c.args.look.now in
    let terms = c.args.terms.now in
    let term = c.index-as_slice-number.result in
    let one : Span = record { attribute = c.attribute-attribute.result; first = c.run-first.result.0; end = c.run-first.result.1 } in
    let best = c.args.best in
    let indexed : is_indexed index term ≡ true = sym (c.if-not-has_order.ensures {u = tt}) in
    let is : term ≡ get_or terms c.args.number term = c.index-as_slice-number.is ∙ ap (λ (l : List Term). get_or l c.args.number term) c.as_slice.ensures in
    let span = run-span index rows terms c.args.number term c.requires.within is c.run-first.result.0 c.run-first.result.1 c.run-first.ensures.run indexed in
    subst (λ (s : Span). IsSpan index rows terms s.attribute s.first s.end) (sym c.shorter.ensures)
    (
    cond_both (ltb (one.end - one.first) (best.end - best.first)) one best (λ (s : Span). IsSpan index rows terms s.attribute s.first s.end)
    (λ t. subst (λ n. IsSpan index rows terms n one.first one.end) (sym c.attribute-attribute.ensures) span)
    (λ f. c.requires.span)
    )

pub returns-clause-least : goal.returns-clause-least
returns-clause-least g c =
    let index = c.args.self.now in
    let rows = g.L.Look.rows c.args.look.now in
    let terms = c.args.terms.now in
    let term = c.index-as_slice-number.result in
    let one : Span = record { attribute = c.attribute-attribute.result; first = c.run-first.result.0; end = c.run-first.result.1 } in
    let indexed : is_indexed index term ≡ true = sym (c.if-not-has_order.ensures {u = tt}) in
    let is : term ≡ get_or terms c.args.number term = c.index-as_slice-number.is ∙ ap (λ (l : List Term). get_or l c.args.number term) c.as_slice.ensures in
    least-next index rows terms c.args.number term c.requires.within is c.run-first.result.0 c.run-first.result.1
    c.run-first.ensures.run indexed c.args.best one refl refl
    ∙ ap (λ (s : Span). least_run index rows (s.end - s.first) (drop (c.args.number + 1) terms)) (sym c.shorter.ensures)
