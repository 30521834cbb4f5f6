-- One more subspace is counted.
use Rattle.std.proofs.Common.{◌≡◌, ℕ, [], ◌∷◌, ◌++◌, List, Option, Some, map, sym, ap, ◌∙◌, arith}
use Rattle.hx_types.specs.Words.{below}
use Rattle.hx_types.proofs.Lemmas.{map_below_next}
use Rattle.hx_region.specs.Spans.{subspace_count}
use Rattle.hx_region.specs.Plans.{query_size}
use Rattle.hx_region.proofs.Trying.{few_counts}
use Rattle.hx_region.proofs.candidates.query_counts.Goals as goal

pub loop-s-preserved : goal.loop-s-preserved
loop-s-preserved c =
    let size = λ (s : ℕ). Some (query_size c.args.map.now c.args.terms.now s) in
    c.in_ok-push.ensures.items
    ∙ ap (λ (l : List (Option ℕ)). l ++ Some c.meeting_count.result ∷ []) c.loop-s.invariant
    ∙ ap (λ n. map size (below c.loop-s.s) ++ Some n ∷ []) c.meeting_count.ensures
    ∙ sym (map_below_next size c.loop-s.s)

pub returns : goal.returns
returns c =
    let end : c.loop-s.s ≡ subspace_count c.args.map.now =
    (let e = c.subspaces-s-end.ensures in let l = c.loop-s.auto.s-end in omega (arith, e, l, c.loop-s-test.false)) in
    let exact = c.loop-s.invariant ∙ ap (λ n. map (λ s. Some (query_size c.args.map.now c.args.terms.now s)) (below n)) end in
    record {
      exact = exact;
      few = few_counts c.args.map.now c.args.terms.now c.loop-s.counts.items exact
          (let e = c.subspaces-s-end.ensures in let f = c.subspaces-s-end.type_inv in omega (arith, e, f));
    }
