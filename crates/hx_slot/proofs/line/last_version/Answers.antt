use Rattle.std.proofs.Common.{◌∙◌, ap, sym}
use Rattle.hx_model.specs.Types.{Update}
use Rattle.hx_slot.proofs.Rows.{last_version-last}
use Rattle.hx_slot.proofs.line.last_version.Goals as goal

pub returns-in-Some : goal.returns-in-Some
returns-in-Some c = ap (λ (u : Update). u.version.0) c.deref.ensures
    ∙ last_version-last c.args.before.0 c.args.line.now c.in-Some.taken.now (sym c.in-Some.ensures.value)
