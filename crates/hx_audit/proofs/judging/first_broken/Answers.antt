use Rattle.std.proofs.Common.{List, sym, subst, ◌∙◌, arith}
use Rattle.std.specs.List.{All}
use Rattle.std.proofs.lemmas.List.Elements.{All-head, All-tail}
use Rattle.hx_report_lines.specs.declared.blocks.Block.{Block}
use Rattle.hx_report_lines.specs.Values.{IsBlock}
use Rattle.hx_audit.proofs.Ordered.{ordered}
use Rattle.hx_audit.proofs.Walks.{at_block, blocks_end, past_block}
use Rattle.hx_audit.proofs.judging.first_broken.Goals as goal

pub first_of_block-requires : goal.first_of_block-requires
first_of_block-requires c = ordered _ (All-head IsBlock _ _
    (subst (λ (bs : List Block). All IsBlock bs) c.in-Some.ensures.cases.0 c.loop-block.invariant.valid))

pub returns-then-is_some : goal.returns-then-is_some
returns-then-is_some c =
    c.loop-block.invariant.walk _ (at_block c.args.clause c.loop-block.line _ _ _ _ c.in-Some.ensures.cases.0
    (sym c.is_some.ensures ∙ c.if-is_some.true) c.in_ok-broken.ensures)

pub loop-block-preserved : goal.loop-block-preserved
loop-block-preserved c = record {
  walk = λ r f. c.loop-block.invariant.walk r (past_block c.args.clause c.loop-block.line _ _ _ _ _ r
      c.in-Some.ensures.cases.0 (sym c.is_some.ensures ∙ c.if-is_some.false) c.in_ok-broken.ensures c.in_ok-line.ensures f);
  valid = All-tail IsBlock _ _ (subst (λ (bs : List Block). All IsBlock bs) c.in-Some.ensures.cases.0 c.loop-block.invariant.valid);
}

pub returns : goal.returns
returns c = c.loop-block.invariant.walk _ (blocks_end c.args.clause c.loop-block.line c.loop-block.rest.now (grind arith))
