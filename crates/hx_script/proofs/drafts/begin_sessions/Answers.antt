use Rattle.std.proofs.Common.{◌∙◌, arith}
use Rattle.hx_script.proofs.InSpaces.{begun_all, begun_more}
use Rattle.hx_script.proofs.drafts.begin_sessions.Goals as goal

pub loop-draft-preserved : goal.loop-draft-preserved
loop-draft-preserved c = begun_more c.loop-draft.draft-index c.args.drafts.now c.loop-draft.drafts c.draft-item.result
    c.begin_session.new.draft c.loop-draft.invariant (omega arith) c.in_ok-begin_session.ensures

pub returns : goal.returns
returns c = c.loop-draft.invariant ∙ begun_all c.loop-draft.draft-index c.args.drafts.now (omega arith)
