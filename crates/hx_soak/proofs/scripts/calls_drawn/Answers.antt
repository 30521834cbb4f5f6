use Rattle.std.proofs.Common.{ap, sym, ◌∙◌, List, ◌∷◌, [], ◌++◌}
use Rattle.std.proofs.lemmas.Bool.{eq-eqb, ne_eqb}
use Rattle.hx_model.specs.Types.{Op}
use Rattle.hx_soak.specs.Calling.{call_drawn}
use Rattle.hx_soak.specs.Drawing.{draw_of, mixed, next_state}
use Rattle.hx_soak.specs.Soaking.{session_at}
use Rattle.hx_soak.proofs.Dealing.{dealt, moved, passed}
use Rattle.hx_soak.proofs.scripts.calls_drawn.Goals as goal
use Rattle.hx_soak.proofs.scripts.calls_drawn.Goals.{then-turn-session+in_ok-call_drawn+in_ok-push, else-turn-session}

pub loop-turn-preserved : goal.loop-turn-preserved
loop-turn-preserved c = (
  c.draw-draw.ensures.state ∙ ap next_state c.loop-turn.invariant.0 ∙ sym (moved c.args.seed c.loop-turn.turn),
  elim c.if-turn-session.branch [
    | then-turn-session+in_ok-call_drawn+in_ok-push w ↦ w.made-is ∙ w.in_ok-push.ensures.ok
        ∙ ap (λ (op : Op). c.loop-turn.made ++ op ∷ [])
        (w.in_ok-call_drawn.ensures ∙ ap (call_drawn c.args.session)
        (c.draw-draw.ensures.draw ∙ ap (λ s. mixed (next_state s)) c.loop-turn.invariant.0))
        ∙ ap (λ (ops : List Op). ops ++ call_drawn c.args.session (draw_of c.args.seed c.loop-turn.turn) ∷ []) c.loop-turn.invariant.1
        ∙ sym (dealt c.args.seed c.args.session c.loop-turn.turn (eq-eqb (session_at c.loop-turn.turn) c.args.session w.if-turn-session.true))
    | else-turn-session w ↦ w.made-is ∙ c.loop-turn.invariant.1
        ∙ sym (passed c.args.seed c.args.session c.loop-turn.turn
        (ne_eqb (session_at c.loop-turn.turn) c.args.session w.if-turn-session.false))
  ],
)
