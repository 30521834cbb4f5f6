use Rattle.std.proofs.Common.{ℕ, Option, Some, sym, ap, ◌∙◌}
use Rattle.hx_audit.specs.Moments.{is_late}
use Rattle.hx_audit.proofs.Timing.{began_is}
use Rattle.hx_audit.proofs.times.began_before.Goals as goal

pub returns : goal.returns
returns c = c.is_before.ensures ∙ ap (λ (o : Option ℕ). is_late o (Some c.args.time)) c.begin_of.ensures
    ∙ sym (began_is c.args.block.now c.args.caller c.args.time)
