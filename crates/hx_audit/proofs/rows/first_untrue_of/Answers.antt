use Rattle.std.proofs.Common.{◌≡◌, Option, Some, ap, sym, subst, ◌∙◌, arith}
use Rattle.std.specs.List.{slice_get}
use Rattle.hx_model.specs.Types.{Row}
use Rattle.hx_audit.specs.Clauses.{IsRowOf, row_above}
use Rattle.hx_audit.specs.Finished.{finished_view}
use Rattle.hx_audit.specs.Told.{account_of}
use Rattle.hx_audit.proofs.Firsts.{holds_at, item_at, one_more, to_end}
use Rattle.hx_audit.proofs.Truth.{row_after}
use Rattle.hx_audit.proofs.rows.first_untrue_of.Goals as goal

pub returns-then-not-is_row_of : goal.returns-then-not-is_row_of
returns-then-not-is_row_of c =
    let at : slice_get c.args.rows.now c.loop-place.place ≡ Some c.get-row.result.now =
    item_at c.args.rows.now c.loop-place.place c.index-rows-place.result c.loop-place-test.true c.index-rows-place.is
    ∙ ap (λ (r : Row). Some r) (sym c.get-row.ensures) in (
      λ h. (let t = c.is_row_of.ensures.1 (subst (λ (o : Option Row). IsRowOf (account_of c.args.block.now)
          (finished_view c.args.search.now) o c.get-row.result.now) (sym c.loop-place.invariant.above)
          (holds_at c.args.rows.now (IsRowOf (account_of c.args.block.now) (finished_view c.args.search.now)
          (row_above c.args.rows.now c.loop-place.place)) c.loop-place.place c.get-row.result.now at h)) in
          let f = c.if-not-is_row_of.true in absurd (cc)),
      c.loop-place.invariant.kept,
    )

pub loop-place-preserved : goal.loop-place-preserved
loop-place-preserved c =
    let at : slice_get c.args.rows.now c.loop-place.place ≡ Some c.get-row.result.now =
    item_at c.args.rows.now c.loop-place.place c.index-rows-place.result c.loop-place-test.true c.index-rows-place.is
    ∙ ap (λ (r : Row). Some r) (sym c.get-row.ensures) in
    record {
      above = sym (row_after c.args.rows.now c.loop-place.place ∙ at);
      kept = one_more c.args.rows.now (λ k. IsRowOf (account_of c.args.block.now) (finished_view c.args.search.now)
          (row_above c.args.rows.now k)) c.loop-place.place c.get-row.result.now at
          (subst (λ (o : Option Row). IsRowOf (account_of c.args.block.now)
          (finished_view c.args.search.now) o c.get-row.result.now) c.loop-place.invariant.above
          (c.is_row_of.ensures.0 c.if-not-is_row_of.false))
          c.loop-place.invariant.kept;
    }

pub returns : goal.returns
returns c =
    to_end c.args.rows.now (λ k. IsRowOf (account_of c.args.block.now) (finished_view c.args.search.now) (row_above c.args.rows.now k))
    (λ k l. c.loop-place.invariant.kept k (let test = c.loop-place-test.false in omega (arith, l, test)))
