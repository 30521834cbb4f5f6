use Rattle.std.proofs.Common.{◌≡◌, List, None, subst, ◌∙◌}
use Rattle.hx_report_lines.specs.declared.blocks.Block.{Block}
use Rattle.hx_audit.specs.Verdicts.{blocks_from, pieces_of}
use Rattle.hx_audit.specs.Walking.{IsFirstOf}
use Rattle.hx_audit.proofs.Lowest.{report_broken, report_kept}
use Rattle.hx_audit.proofs.Ranks.{all_ranks, more_ranks, none_of}
use Rattle.hx_audit.proofs.judging.audit.Goals as goal

pub returns-in-Some : goal.returns-in-Some
returns-in-Some c =
    let w = subst (λ (bs : List Block). IsFirstOf c.clauses.clause (blocks_from 2 bs) c.in_ok-broken.broken)
    (c.as_slice-blocks.ensures ∙ c.blocks-2.ensures.value) c.in_ok-broken.ensures in
    report_broken c.args.report.now c.clauses.clause c.in-Some.line
    (subst (IsFirstOf c.clauses.clause (pieces_of c.args.report.now)) c.in-Some.is w) c.clauses.invariant

pub clauses-preserved : goal.clauses-preserved
clauses-preserved c =
    let w = subst (λ (bs : List Block). IsFirstOf c.clauses.clause (blocks_from 2 bs) c.in_ok-broken.broken)
    (c.as_slice-blocks.ensures ∙ c.blocks-2.ensures.value) c.in_ok-broken.ensures in
    let n : c.in_ok-broken.broken ≡ None = none_of c.in_ok-broken.broken c.in_default.not-Some in
    more_ranks c.args.report.now c.clauses.clause c.in-Some-next.other c.in-Some-next.ensures.some c.clauses.invariant
    (report_kept c.args.report.now c.clauses.clause (subst (IsFirstOf c.clauses.clause (pieces_of c.args.report.now)) n w))

pub returns-in-None : goal.returns-in-None
returns-in-None c =
    let w = subst (λ (bs : List Block). IsFirstOf c.clauses.clause (blocks_from 2 bs) c.in_ok-broken.broken)
    (c.as_slice-blocks.ensures ∙ c.blocks-2.ensures.value) c.in_ok-broken.ensures in
    let n : c.in_ok-broken.broken ≡ None = none_of c.in_ok-broken.broken c.in_default.not-Some in
    all_ranks c.args.report.now c.clauses.clause c.in-None.ensures.none c.clauses.invariant
    (report_kept c.args.report.now c.clauses.clause (subst (IsFirstOf c.clauses.clause (pieces_of c.args.report.now)) n w))
