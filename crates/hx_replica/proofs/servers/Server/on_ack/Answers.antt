use Rattle.std.proofs.Common.{Bool, Option, ◌++◌, ap, append-nil, arith, refl, sym, ◌∙◌}
use Rattle.std.proofs.lemmas.Option.{slice_get_within}
use Rattle.hx_types.specs.Words.{provided}
use Rattle.hx_model.specs.ServerSteps.{Replica, SlotContext, ack_step, acked, if_installed, replica_for}
use Rattle.hx_replica.specs.declared.outputs.SlotChange.TheVariants.{Acknowledge}
use Rattle.hx_replica.specs.Outputs.{context_seen}
use Rattle.hx_replica.proofs.Planning.{found_nowhere, found_there, nothing_more, unchanged}
use Rattle.hx_replica.proofs.Taking.{ack_heard, ack_unheard, made_changed, made_posted, nothing_changed, nothing_posted, taken_still, within_still}
use Rattle.hx_replica.proofs.servers.Server.on_ack.Goals as goal

pub reserve-requires : goal.reserve-requires
reserve-requires c =
    let there = found_there c.args.self.now.state.replicas c.in-Some.replica _ c.in-Some.ensures in
    slice_get_within c.args.self.now.state.replicas c.in-Some.replica there.replica there.at_place

pub context_at-context-requires : goal.context_at-context-requires
context_at-context-requires c =
    let there = found_there c.args.self.now.state.replicas c.in-Some.replica _ c.in-Some.ensures in
    within_still c.args.self.now c.reserve.new.self c.reserve.ensures.state c.in-Some.replica
    (slice_get_within c.args.self.now.state.replicas c.in-Some.replica there.replica there.at_place)

pub slot_at-slot-requires-clause-within : goal.slot_at-slot-requires-clause-within
slot_at-slot-requires-clause-within c =
    let there = found_there c.args.self.now.state.replicas c.in-Some.replica _ c.in-Some.ensures in
    within_still c.args.self.now c.reserve.new.self c.reserve.ensures.state c.in-Some.replica
    (slice_get_within c.args.self.now.state.replicas c.in-Some.replica there.replica there.at_place)

pub settle-requires : goal.settle-requires
settle-requires c =
    let old = c.args.self.now in
    let new = c.reserve.new.self in
    let key = c.args.key.now in
    let x = context_seen c.context_at-context.result in
    let t = c.slot_at-slot.result.now.state in
    let taken = taken_still old new c.reserve.ensures.space c.reserve.ensures.state
    (λ space s. if_installed (replica_for s c.args.region)) c.in-Some.replica key
    key 0 c.in_ok-place.place x t c.in-Some.ensures refl c.in_ok-place.ensures.room c.context_at-context.ensures.seen
    c.slot_at-slot.ensures.state in
    c.slot_at-slot.ensures.region taken.there.replica taken.there.at_place ∙ sym (ap (λ (y : SlotContext). y.region) taken.stands)

pub returns-in_default-clause-posts : goal.returns-in_default-clause-posts
returns-in_default-clause-posts c =
    let v = c.args.self.now in
    nothing_more c.args.posts.now _
    (ap (λ (o : Option Replica). (acked v.space v.state c.args.from c.args.key.now c.args.version.0 c.args.by o).posts)
    (found_nowhere (if_installed (replica_for v.state c.args.region)) c.in_default.ensures))

pub returns-in_default-clause-change : goal.returns-in_default-clause-change
returns-in_default-clause-change c =
    let v = c.args.self.now in
    unchanged v _ c.requires.bare
    (ap (acked v.space v.state c.args.from c.args.key.now c.args.version.0 c.args.by)
    (found_nowhere (if_installed (replica_for v.state c.args.region)) c.in_default.ensures))

pub returns-then-not-branch-clause-posts : goal.returns-then-not-branch-clause-posts
returns-then-not-branch-clause-posts c =
    let old = c.args.self.now in
    let new = c.reserve.new.self in
    let key = c.args.key.now in
    let x = context_seen c.context_at-context.result in
    let t = c.slot_at-slot.result.now.state in
    let taken = taken_still old new c.reserve.ensures.space c.reserve.ensures.state
    (λ space s. if_installed (replica_for s c.args.region)) c.in-Some.replica key
    key 0 c.in_ok-place.place x t c.in-Some.ensures refl c.in_ok-place.ensures.room c.context_at-context.ensures.seen
    c.slot_at-slot.ensures.state in
    let none = nothing_posted old new c.reserve.ensures.space c.reserve.ensures.state c.requires.bare
    (λ space s. acked space s c.args.from c.args.key.now c.args.version.0 c.args.by
    (if_installed (replica_for s c.args.region)))
    (ack_unheard new c.in-Some.replica 0 c.in_ok-place.place x t c.args.from c.args.region c.args.by key
    c.args.version.0 taken (sym c.in_ok-settle.ensures.heard ∙ c.if-not-branch.true)) c.args.posts.now in
    c.in_ok-settle.ensures.posts ∙ ap (λ (b : Bool). c.args.posts.now
    ++ provided b (ack_step x t c.args.version.0).posts) c.if-not-branch.true ∙ append-nil c.args.posts.now ∙ none

pub returns-then-not-branch-clause-change : goal.returns-then-not-branch-clause-change
returns-then-not-branch-clause-change c =
    let old = c.args.self.now in
    let new = c.reserve.new.self in
    let key = c.args.key.now in
    let x = context_seen c.context_at-context.result in
    let t = c.slot_at-slot.result.now.state in
    let taken = taken_still old new c.reserve.ensures.space c.reserve.ensures.state
    (λ space s. if_installed (replica_for s c.args.region)) c.in-Some.replica key
    key 0 c.in_ok-place.place x t c.in-Some.ensures refl c.in_ok-place.ensures.room c.context_at-context.ensures.seen
    c.slot_at-slot.ensures.state in
    nothing_changed old new c.reserve.ensures.space c.reserve.ensures.state c.requires.bare
    (λ space s. acked space s c.args.from c.args.key.now c.args.version.0 c.args.by
    (if_installed (replica_for s c.args.region)))
    (ack_unheard new c.in-Some.replica 0 c.in_ok-place.place x t c.args.from c.args.region c.args.by key
    c.args.version.0 taken (sym c.in_ok-settle.ensures.heard ∙ c.if-not-branch.true))

pub returns-clause-posts : goal.returns-clause-posts
returns-clause-posts c =
    let old = c.args.self.now in
    let new = c.reserve.new.self in
    let key = c.args.key.now in
    let x = context_seen c.context_at-context.result in
    let t = c.slot_at-slot.result.now.state in
    let taken = taken_still old new c.reserve.ensures.space c.reserve.ensures.state
    (λ space s. if_installed (replica_for s c.args.region)) c.in-Some.replica key
    key 0 c.in_ok-place.place x t c.in-Some.ensures refl c.in_ok-place.ensures.room c.context_at-context.ensures.seen
    c.slot_at-slot.ensures.state in
    made_posted old new c.reserve.ensures.space c.reserve.ensures.state c.requires.bare
    (λ space s. acked space s c.args.from c.args.key.now c.args.version.0 c.args.by
    (if_installed (replica_for s c.args.region)))
    taken.there.replica t (ack_step x t c.args.version.0)
    (ack_heard new c.in-Some.replica 0 c.in_ok-place.place x t c.args.from c.args.region c.args.by key
    c.args.version.0 taken (sym c.in_ok-settle.ensures.heard ∙ c.if-not-branch.false)) c.args.posts.now c.settle.new.posts
    (c.in_ok-settle.ensures.posts ∙ ap (λ (b : Bool). c.args.posts.now ++ provided b (ack_step x t c.args.version.0).posts) c.if-not-branch.false)

pub returns-clause-change : goal.returns-clause-change
returns-clause-change c =
    let old = c.args.self.now in
    let new = c.reserve.new.self in
    let key = c.args.key.now in
    let x = context_seen c.context_at-context.result in
    let t = c.slot_at-slot.result.now.state in
    let taken = taken_still old new c.reserve.ensures.space c.reserve.ensures.state
    (λ space s. if_installed (replica_for s c.args.region)) c.in-Some.replica key
    key 0 c.in_ok-place.place x t c.in-Some.ensures refl c.in_ok-place.ensures.room c.context_at-context.ensures.seen
    c.slot_at-slot.ensures.state in
    made_changed old new c.reserve.ensures.space c.reserve.ensures.state c.requires.bare
    (λ space s. acked space s c.args.from c.args.key.now c.args.version.0 c.args.by
    (if_installed (replica_for s c.args.region)))
    taken.there.replica t (ack_step x t c.args.version.0)
    (ack_heard new c.in-Some.replica 0 c.in_ok-place.place x t c.args.from c.args.region c.args.by key
    c.args.version.0 taken (sym c.in_ok-settle.ensures.heard ∙ c.if-not-branch.false)) c.in-Some.replica
    c.in_ok-place.place 0 key x (Acknowledge c.args.version)
    taken.there.at_place taken.stands taken.same (record { moves = refl; fits = tt }) (omega arith) taken.room
