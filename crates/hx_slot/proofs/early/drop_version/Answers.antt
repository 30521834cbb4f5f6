use Rattle.std.proofs.Common.{eqb, not, rules}
use Rattle.std.proofs.lemmas.Fn.{filter_same}
use Rattle.hx_slot.specs.declared.updates.PlacedUpdate.{PlacedUpdate}
use Rattle.hx_slot.proofs.early.drop_version.Goals as goal

pub returns-clause-items : goal.returns-clause-items
returns-clause-items c = filter_same _ (λ (p : PlacedUpdate). not (eqb p.update.version.0 c.args.version.0)) _
    (λ x b f called. search rules) _ _ c.retain.ensures.filtered
