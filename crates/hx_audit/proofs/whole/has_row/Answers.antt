use Rattle.std.proofs.Common.{◌∙◌, refl, sym, arith}
use Rattle.std.proofs.lemmas.Bool.{false≢true}
use Rattle.hx_audit.specs.Walking.{row_with}
use Rattle.hx_audit.proofs.Looping.{in_first, in_later, in_none, in_rest}
use Rattle.hx_audit.proofs.whole.has_row.Goals as goal

pub returns-then-is_row : goal.returns-then-is_row
returns-then-is_row c = (
  λ t. c.loop-row.invariant.into (in_first (row_with c.args.key.now c.args.version c.args.object.now) _ _ _
      c.in-Some.ensures.cases.0 (c.is_row.ensures.0 c.if-is_row.true ∙ c.get.ensures)),
  λ h. refl,
)

pub loop-row-preserved : goal.loop-row-preserved
loop-row-preserved c = record {
  into = λ h. c.loop-row.invariant.into (in_later (row_with c.args.key.now c.args.version c.args.object.now) _ _ _ c.in-Some.ensures.cases.0 h);
  back = λ h. in_rest (row_with c.args.key.now c.args.version c.args.object.now) _ _ _ c.in-Some.ensures.cases.0
      (λ p. let t = c.is_row.ensures.1 (p ∙ sym c.get.ensures) in let f = c.if-is_row.false in
      absurd (cc)) (c.loop-row.invariant.back h);
}

pub returns : goal.returns
returns c = (
  λ t. absurd (false≢true t),
  λ h. absurd (in_none (row_with c.args.key.now c.args.version c.args.object.now) c.loop-row.rest.now (grind arith) (c.loop-row.invariant.back h)),
)
