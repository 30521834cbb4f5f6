use Rattle.std.proofs.Common.{◌≡◌, ◌++◌, ap, sym, ◌∙◌, subst, append-nil}
use Rattle.std.proofs.lemmas.Result.{IfOk-weaker, on_ok_weaker}
use Rattle.hx_model.specs.Types.{Config}
use Rattle.hx_model.specs.SessionSteps.{SessionStep}
use Rattle.hx_session.specs.Changes.{Makes}
use Rattle.hx_session.proofs.Finding.{found_is, stays_makes, unfound_is}
use Rattle.hx_session.proofs.sessions.Session.hear_found.Goals as goal

pub returns-in-Some-clause-change : goal.returns-in-Some-clause-change
returns-in-Some-clause-change c =
    IfOk-weaker c.keep_part.result _ _
    (
    λ change e. subst (λ (step : SessionStep). Makes c.args.self.now.state step change)
    (found_is c.self.inside c.args.self.now c.args.epoch c.args.number c.args.region c.args.rows.now c.as_slice.result.now c.self.view_is c.as_slice.ensures
    (sym c.awaits.ensures ∙ c.if-not-awaits.false) (c.if-epoch-deref.false ∙ ap (λ (x : Config). x.epoch.0) c.deref.ensures) c.in-Some.ensures.some) e
    )
    c.keep_part.ensures.change

pub returns-in-Some-clause-notes : goal.returns-in-Some-clause-notes
returns-in-Some-clause-notes c =
    on_ok_weaker c.keep_part.result
    (
    λ e. subst (λ (step : SessionStep). c.keep_part.new.notes ≡ c.args.notes.now ++ step.notes)
    (found_is c.self.inside c.args.self.now c.args.epoch c.args.number c.args.region c.args.rows.now c.as_slice.result.now c.self.view_is c.as_slice.ensures
    (sym c.awaits.ensures ∙ c.if-not-awaits.false) (c.if-epoch-deref.false ∙ ap (λ (x : Config). x.epoch.0) c.deref.ensures) c.in-Some.ensures.some) e
    )
    c.keep_part.ensures.notes

pub returns-in-None-clause-change : goal.returns-in-None-clause-change
returns-in-None-clause-change c =
    subst (λ (step : SessionStep). Makes c.args.self.now.state step c.change_nothing-in-None.result)
    (unfound_is c.self.inside c.args.self.now c.args.epoch c.args.number c.args.region c.args.rows.now
    c.as_slice.result.now c.self.view_is c.as_slice.ensures c.in-None.ensures.none)
    (stays_makes c.self.inside c.args.self.now c.change_nothing-in-None.result c.self.view_is c.change_nothing-in-None.ensures)

pub returns-in-None-clause-notes : goal.returns-in-None-clause-notes
returns-in-None-clause-notes c =
    subst (λ (step : SessionStep). c.args.notes.now ≡ c.args.notes.now ++ step.notes)
    (unfound_is c.self.inside c.args.self.now c.args.epoch c.args.number c.args.region c.args.rows.now
    c.as_slice.result.now c.self.view_is c.as_slice.ensures c.in-None.ensures.none)
    (sym (append-nil c.args.notes.now))
