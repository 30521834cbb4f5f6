use Rattle.std.proofs.Common.{Some, ap, append-nil, false, sym, true, ◌∙◌}
use Rattle.hx_model.specs.Types.{Update}
use Rattle.hx_model.specs.Neighbours.{place_number}
use Rattle.hx_replica.specs.Outputs.{context_seen, hears_version}
use Rattle.hx_replica.proofs.Hearing.{ack_heard_there}
use Rattle.hx_replica.proofs.slot_steps.settle.Goals as goal

pub returns-in_default-clause-heard : goal.returns-in_default-clause-heard
returns-in_default-clause-heard c = ap (hears_version (context_seen c.args.context.now) c.args.from c.args.by) c.in_default.ensures.pending

pub returns-in_default-clause-posts : goal.returns-in_default-clause-posts
returns-in_default-clause-posts c = sym (append-nil c.args.posts.now)

pub returns-then-not-hears_ack-clause-heard : goal.returns-then-not-hears_ack-clause-heard
returns-then-not-hears_ack-clause-heard c =
    let x = c.args.context.now in
    sym
    (
    ap (hears_version (context_seen x) c.args.from c.args.by) (sym c.in-Some.ensures.pending)
    ∙ ack_heard_there x.config.now x.region x.server c.args.from c.args.by c.in-Some.update.now c.deref.result.now c.deref-2.result.now c.place_at-place.result
    c.hears_ack.result false c.deref.ensures c.deref-2.ensures c.place_at-place.ensures.number c.hears_ack.ensures c.if-not-hears_ack.true
    )

pub returns-then-not-hears_ack-clause-posts : goal.returns-then-not-hears_ack-clause-posts
returns-then-not-hears_ack-clause-posts c = sym (append-nil c.args.posts.now)

pub acknowledge-requires-clause-pending : goal.acknowledge-requires-clause-pending
acknowledge-requires-clause-pending c = sym c.in-Some.ensures.pending ∙ ap (λ (u : Update). Some u) (sym c.deref-3.ensures)

pub acknowledge-requires-clause-place : goal.acknowledge-requires-clause-place
acknowledge-requires-clause-place c =
    c.place_at-place.ensures.number ∙ ap (λ (u : Update). place_number c.args.context.now.region u.places) (c.deref.ensures ∙ sym c.deref-3.ensures)

pub returns-clause-heard : goal.returns-clause-heard
returns-clause-heard c =
    let x = c.args.context.now in
    sym
    (
    ap (hears_version (context_seen x) c.args.from c.args.by) (sym c.in-Some.ensures.pending)
    ∙ ack_heard_there x.config.now x.region x.server c.args.from c.args.by c.in-Some.update.now c.deref.result.now c.deref-2.result.now c.place_at-place.result
    c.hears_ack.result true c.deref.ensures c.deref-2.ensures c.place_at-place.ensures.number c.hears_ack.ensures c.if-not-hears_ack.false
    )
