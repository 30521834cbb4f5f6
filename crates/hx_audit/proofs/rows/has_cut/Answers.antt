use Rattle.std.proofs.Common.{◌||◌, Bool, refl, ap, ◌∙◌, arith}
use Rattle.std.proofs.lemmas.Bool.{false≢true}
use Rattle.hx_audit.specs.Finished.{finished_view}
use Rattle.hx_audit.proofs.Changes.{cut_begun, cut_end, cut_here, cut_past}
use Rattle.hx_audit.proofs.rows.has_cut.Goals as goal

pub loop-item-init : goal.loop-item-init
loop-item-init c = cut_begun c.args.block.now (finished_view c.args.search.now) c.args.row.now c.args.items.now

pub returns-then-is_cut : goal.returns-then-is_cut
returns-then-is_cut c =
    let yes = c.is_cut.ensures.0 c.if-is_cut.true in (
      λ t. cut_here c.args.block.now (finished_view c.args.search.now) c.args.row.now c.args.items.now _ _ _ _
          c.loop-item.invariant c.in-Some.ensures.cases.0 yes.0 yes.1,
      λ h. refl,
    )

pub loop-item-preserved : goal.loop-item-preserved
loop-item-preserved c =
    cut_past c.args.block.now (finished_view c.args.search.now) c.args.row.now c.args.items.now _ _ _ _ _ c.loop-item.invariant c.in-Some.ensures.cases.0
    (c.either-over.ensures ∙ ap (λ (t : Bool). t || c.loop-item.over) c.is_change_over.ensures)
    (λ p. let t = c.is_cut.ensures.1 p in let f = c.if-is_cut.false in absurd (cc))

pub returns : goal.returns
returns c = (
  λ t. absurd (false≢true t),
  λ h. absurd (cut_end c.args.block.now (finished_view c.args.search.now) c.args.row.now c.args.items.now
      c.loop-item.rest.now c.loop-item.over c.loop-item.invariant (grind arith) h),
)
