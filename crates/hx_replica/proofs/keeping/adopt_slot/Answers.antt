use Rattle.std.proofs.Common.{◌<◌, ap, length, subst, sym, ◌∙◌}
use Rattle.hx_model.specs.ServerSteps.{tail_acks}
use Rattle.hx_model.specs.Slots.{Forget, KeyState, moved, moved_all, pending_of}
use Rattle.hx_replica.specs.Adopting.{changed_at, lean_adopted}
use Rattle.hx_replica.specs.Outputs.{context_seen}
use Rattle.hx_replica.proofs.Kept.{changed_length, gone_on}
use Rattle.hx_replica.proofs.keeping.adopt_slot.Goals as goal

pub mark_ends-requires-clause-number : goal.mark_ends-requires-clause-number
mark_ends-requires-clause-number c =
    let n = ap length c.reset_acks.ensures.states ∙ changed_length (moved Forget) c.args.i c.args.store.now.states in
    subst (λ m. c.args.i < m) (sym n) c.requires.number

pub settle-requires-clause-number : goal.settle-requires-clause-number
settle-requires-clause-number c =
    let n = ap length c.mark_ends.ensures.states ∙ changed_length
    (λ (s : KeyState). moved_all (tail_acks (context_seen c.args.context.now) (pending_of s)) s) c.args.i
    c.reset_acks.new.store.states
    ∙ ap length c.reset_acks.ensures.states ∙ changed_length (moved Forget) c.args.i c.args.store.now.states in
    subst (λ m. c.args.i < m) (sym n) c.requires.number

pub returns-then-active-clause-states : goal.returns-then-active-clause-states
returns-then-active-clause-states c =
    gone_on (context_seen c.args.context.now) c.mark_ends.new.store.region c.args.i c.args.store.now.states
    c.reset_acks.new.store.states c.mark_ends.new.store.states c.settle.new.store.states
    (c.mark_ends.ensures.region ∙ c.reset_acks.ensures.region ∙ c.requires.region) c.reset_acks.ensures.states
    c.mark_ends.ensures.states c.settle.ensures.states
    ∙ ap (λ b. changed_at (lean_adopted (context_seen c.args.context.now) b) c.args.i c.args.store.now.states) (sym c.if-active.true)
