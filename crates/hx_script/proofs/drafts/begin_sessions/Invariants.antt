use Rattle.std.proofs.Common.{◌≡◌}
use Rattle.hx_script.proofs.InSpaces.{begun}
use Rattle.hx_script.proofs.drafts.begin_sessions.Given as goal

abbrev pub invariant-loop-draft : goal.invariant-loop-draft
invariant-loop-draft l = l.drafts ≡ begun l.draft-index l.fn.drafts
