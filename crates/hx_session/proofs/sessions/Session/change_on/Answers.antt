use Rattle.std.proofs.Common.{sym, subst}
use Rattle.std.proofs.lemmas.Result.{IfOk-weaker}
use Rattle.hx_model.specs.Types.{Input}
use Rattle.hx_session.specs.Changes.{IsChangeOn}
use Rattle.hx_session.proofs.sessions.Session.change_on.Goals as goal

pub returns-in-Deliver-clause-change : goal.returns-in-Deliver-clause-change
returns-in-Deliver-clause-change c =
    IfOk-weaker c.hear.result _ _
    (λ change h. subst (λ (i : Input). IsChangeOn c.args.self.now i change) (sym c.in-Deliver.is) (h c.in-Deliver.id)) c.hear.ensures.change
