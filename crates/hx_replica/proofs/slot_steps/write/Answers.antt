use Rattle.std.proofs.Common.{◌≡◌, ◌≤◌, ◌++◌, OnOk, List, sym, ◌∙◌, subst, ℕ}
use Rattle.std.proofs.lemmas.Result.{IfOk-weaker}
use Rattle.hx_model.specs.Types.{Decision}
use Rattle.hx_types.specs.declared.outcomes.Decision.TheVariants as a_decision
use Rattle.hx_model.specs.Leading.{decide}
use Rattle.hx_model.specs.ServerSteps.{decided}
use Rattle.hx_replica.specs.Outputs.{IsChangeOf, context_seen}
use Rattle.hx_replica.proofs.Granted.{assigned_is, at_region, up_to}
use Rattle.hx_replica.proofs.slot_steps.write.Goals as goal

pub assign-requires-clause-coming : goal.assign-requires-clause-coming
assign-requires-clause-coming c =
    (
    assigned_is c.args.context.now.space.now c.requires.space c.args.context.now.config.now c.args.context.now.region
    c.args.slot.now.state c.args.caller c.args.op.now c.requires.leading.region
    (up_to c.args.slot.now.state c.top-top.result.0 c.top-top.ensures.top c.top-top.ensures.touches)
    (subst (λ (n : ℕ). c.args.slot.now.state.floor ≤ n) c.top-top.ensures.top c.top-top.ensures.above) c.in-Assign.update
    (at_region c.args.context.now.space.now c.args.context.now.config.now c.args.slot.now.region
    c.args.context.now.region c.args.slot.now.state c.args.caller c.args.op.now c.in-Assign.update
    c.requires.region (sym c.in_ok-decide.ensures ∙ c.in-Assign.is))
    ).coming

pub returns-in-Assign-clause-posts : goal.returns-in-Assign-clause-posts
returns-in-Assign-clause-posts c =
    let context = context_seen c.args.context.now in
    let decision : decide c.args.context.now.space.now c.args.context.now.config.now c.args.context.now.region c.args.slot.now.state c.args.caller
    c.args.op.now ≡ a_decision.Assign c.in-Assign.update =
    at_region c.args.context.now.space.now c.args.context.now.config.now c.args.slot.now.region c.args.context.now.region c.args.slot.now.state c.args.caller
    c.args.op.now c.in-Assign.update c.requires.region (sym c.in_ok-decide.ensures ∙ c.in-Assign.is) in
    subst (λ (d : Decision). OnOk c.assign.result (c.assign.new.posts ≡ c.args.posts.now ++ (decided context c.args.slot.now.state c.args.caller d).posts))
    (sym decision) c.assign.ensures.posts

pub returns-in-Assign-clause-notes : goal.returns-in-Assign-clause-notes
returns-in-Assign-clause-notes c =
    let context = context_seen c.args.context.now in
    let decision : decide c.args.context.now.space.now c.args.context.now.config.now c.args.context.now.region c.args.slot.now.state c.args.caller
    c.args.op.now ≡ a_decision.Assign c.in-Assign.update =
    at_region c.args.context.now.space.now c.args.context.now.config.now c.args.slot.now.region c.args.context.now.region c.args.slot.now.state c.args.caller
    c.args.op.now c.in-Assign.update c.requires.region (sym c.in_ok-decide.ensures ∙ c.in-Assign.is) in
    subst (λ (d : Decision). OnOk c.assign.result (c.assign.new.notes ≡ c.args.notes.now ++ (decided context c.args.slot.now.state c.args.caller d).notes))
    (sym decision) c.assign.ensures.notes

pub returns-in-Assign-clause-change : goal.returns-in-Assign-clause-change
returns-in-Assign-clause-change c =
    let context = context_seen c.args.context.now in
    let decision : decide c.args.context.now.space.now c.args.context.now.config.now c.args.context.now.region c.args.slot.now.state c.args.caller
    c.args.op.now ≡ a_decision.Assign c.in-Assign.update =
    at_region c.args.context.now.space.now c.args.context.now.config.now c.args.slot.now.region c.args.context.now.region c.args.slot.now.state c.args.caller
    c.args.op.now c.in-Assign.update c.requires.region (sym c.in_ok-decide.ensures ∙ c.in-Assign.is) in
    let granted = assigned_is c.args.context.now.space.now c.requires.space c.args.context.now.config.now
    c.args.context.now.region c.args.slot.now.state c.args.caller c.args.op.now c.requires.leading.region
    (up_to c.args.slot.now.state c.top-top.result.0 c.top-top.ensures.top c.top-top.ensures.touches)
    (subst (λ (n : ℕ). c.args.slot.now.state.floor ≤ n) c.top-top.ensures.top c.top-top.ensures.above)
    c.in-Assign.update decision in
    IfOk-weaker c.assign.result _ _
    (λ change h. subst (λ (d : Decision). IsChangeOf c.args.context.now.region c.args.slot.now.state c.args.slot.now.state.base.key
    (decided context c.args.slot.now.state c.args.caller d) change) (sym decision)
    (subst (λ (key : List ℕ). IsChangeOf c.args.context.now.region c.args.slot.now.state key
    (decided context c.args.slot.now.state c.args.caller (a_decision.Assign c.in-Assign.update)) change) granted.key
    (record { moves = h.moves; fits = h.fits })))
    c.assign.ensures.change
