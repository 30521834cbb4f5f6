use Rattle.std.proofs.Common.{◌∙◌, ap, not, sym}
use Rattle.hx_model.specs.SessionSteps.{SessionState}
use Rattle.hx_world.proofs.Resting.{busy_told, idle_free}
use Rattle.hx_world.proofs.Turning.{session_state}
use Rattle.hx_world.proofs.actors.is_busy.Goals as goal

pub returns-then-not-idle : goal.returns-then-not-idle
returns-then-not-idle c =
    busy_told c.index-counted.result.now.session.state c.ended.result (sym c.idle.ensures ∙ c.if-not-idle.true) c.ended.ensures
    ∙ ap (λ (s : SessionState). s.under_way)
    (session_state c.args.inside.now.script c.args.inside.now.actors c.args.inside.now.log c.requires.world
    c.args.session c.requires.actor c.index-counted.result.now c.index-counted.ensures)

pub returns-else-not-idle : goal.returns-else-not-idle
returns-else-not-idle c =
    ap not c.if-not-idle.false
    ∙ sym (idle_free c.index-counted.result.now.session.state (sym c.idle.ensures ∙ c.if-not-idle.false))
    ∙ ap (λ (s : SessionState). s.under_way)
    (session_state c.args.inside.now.script c.args.inside.now.actors c.args.inside.now.log c.requires.world
    c.args.session c.requires.actor c.index-counted.result.now c.index-counted.ensures)
