use Rattle.std.proofs.Common.{Option, ap, false, subst, sym, true, ◌∙◌}
use Rattle.hx_model.specs.Types.{RegionId, Update}
use Rattle.hx_model.specs.ServerSteps.{Replica, SlotContext, if_installed, replica_for, update_step, updated}
use Rattle.hx_model.specs.Neighbours.{place_number}
use Rattle.hx_slot.specs.States.{IsPlacedIn}
use Rattle.hx_replica.specs.Outputs.{context_seen}
use Rattle.hx_replica.proofs.Hearing.{heard_there}
use Rattle.hx_replica.proofs.Planning.{found_nowhere, found_there, nothing_more, room_small, unchanged}
use Rattle.hx_replica.proofs.Taking.{made_changed, made_posted, nothing_changed, nothing_posted, taken_region}
use Rattle.hx_replica.proofs.Taking.{taken_still, update_heard, update_unheard, within_still}
use Rattle.std.proofs.lemmas.Option.{slice_get_within}
use Rattle.hx_replica.proofs.servers.Server.on_update.Goals as goal

pub reserve-requires : goal.reserve-requires
reserve-requires c =
    let there = found_there c.args.self.now.state.replicas c.in-Some.replica _ c.in-Some.ensures in
    slice_get_within c.args.self.now.state.replicas c.in-Some.replica there.replica there.at_place

pub context_at-context-requires : goal.context_at-context-requires
context_at-context-requires c =
    let there = found_there c.args.self.now.state.replicas c.in-Some.replica _ c.in-Some.ensures in
    within_still c.args.self.now c.reserve.new.self c.reserve.ensures.state c.in-Some.replica
    (slice_get_within c.args.self.now.state.replicas c.in-Some.replica there.replica there.at_place)

pub slot_at-slot-requires-clause-within : goal.slot_at-slot-requires-clause-within
slot_at-slot-requires-clause-within c =
    let there = found_there c.args.self.now.state.replicas c.in-Some.replica _ c.in-Some.ensures in
    within_still c.args.self.now c.reserve.new.self c.reserve.ensures.state c.in-Some.replica
    (slice_get_within c.args.self.now.state.replicas c.in-Some.replica there.replica there.at_place)

pub place_at-number-requires-clause-placed : goal.place_at-number-requires-clause-placed
place_at-number-requires-clause-placed c =
    let old = c.args.self.now in
    let new = c.reserve.new.self in
    let u : Update = c.args.update.now in
    let x = context_seen c.context_at-context.result in
    let t = c.slot_at-slot.result.now.state in
    let taken = taken_still old new c.reserve.ensures.space c.reserve.ensures.state
    (λ space s. if_installed (replica_for s c.args.region)) c.in-Some.replica u.key
    c.deref.result.now.key 1 c.in_ok-place.place x t c.in-Some.ensures
    (ap (λ (w : Update). w.key) c.deref.ensures) c.in_ok-place.ensures.room c.context_at-context.ensures.seen
    c.slot_at-slot.ensures.state in
    let region = taken_region new c.in-Some.replica 1 c.in_ok-place.place x t c.args.from c.args.region u taken in
    subst (λ (g : RegionId). IsPlacedIn g c.deref-2.result.now) (sym region) (subst (IsPlacedIn c.args.region) (sym c.deref-2.ensures) c.requires.placed)

pub offer-requires-clause-placed : goal.offer-requires-clause-placed
offer-requires-clause-placed c =
    let old = c.args.self.now in
    let new = c.reserve.new.self in
    let u : Update = c.args.update.now in
    let x = context_seen c.context_at-context.result in
    let t = c.slot_at-slot.result.now.state in
    let taken = taken_still old new c.reserve.ensures.space c.reserve.ensures.state
    (λ space s. if_installed (replica_for s c.args.region)) c.in-Some.replica u.key
    c.deref.result.now.key 1 c.in_ok-place.place x t c.in-Some.ensures
    (ap (λ (w : Update). w.key) c.deref.ensures) c.in_ok-place.ensures.room c.context_at-context.ensures.seen
    c.slot_at-slot.ensures.state in
    subst (λ (g : RegionId). IsPlacedIn g u) (sym (taken_region new c.in-Some.replica 1 c.in_ok-place.place x t
    c.args.from c.args.region u taken)) c.requires.placed

pub offer-requires-clause-place : goal.offer-requires-clause-place
offer-requires-clause-place c = c.place_at-number.ensures.number
    ∙ ap (λ (w : Update). place_number c.context_at-context.result.region w.places) c.deref-2.ensures

pub offer-requires-clause-region : goal.offer-requires-clause-region
offer-requires-clause-region c =
    let old = c.args.self.now in
    let new = c.reserve.new.self in
    let u : Update = c.args.update.now in
    let x = context_seen c.context_at-context.result in
    let t = c.slot_at-slot.result.now.state in
    let taken = taken_still old new c.reserve.ensures.space c.reserve.ensures.state
    (λ space s. if_installed (replica_for s c.args.region)) c.in-Some.replica u.key
    c.deref.result.now.key 1 c.in_ok-place.place x t c.in-Some.ensures
    (ap (λ (w : Update). w.key) c.deref.ensures) c.in_ok-place.ensures.room c.context_at-context.ensures.seen
    c.slot_at-slot.ensures.state in
    c.slot_at-slot.ensures.region taken.there.replica taken.there.at_place ∙ sym (ap (λ (y : SlotContext). y.region) taken.stands)

pub returns-in_default-clause-posts : goal.returns-in_default-clause-posts
returns-in_default-clause-posts c =
    let v = c.args.self.now in
    nothing_more c.args.posts.now _
    (ap (λ (o : Option Replica). (updated v.space v.state c.args.from c.args.update.now o).posts)
    (found_nowhere (if_installed (replica_for v.state c.args.region)) c.in_default.ensures))

pub returns-in_default-clause-change : goal.returns-in_default-clause-change
returns-in_default-clause-change c =
    let v = c.args.self.now in
    unchanged v _ c.requires.bare
    (ap (updated v.space v.state c.args.from c.args.update.now) (found_nowhere (if_installed (replica_for v.state c.args.region)) c.in_default.ensures))

pub returns-then-not-hears_update-clause-posts : goal.returns-then-not-hears_update-clause-posts
returns-then-not-hears_update-clause-posts c =
    let old = c.args.self.now in
    let new = c.reserve.new.self in
    let u : Update = c.args.update.now in
    let x = context_seen c.context_at-context.result in
    let t = c.slot_at-slot.result.now.state in
    let taken = taken_still old new c.reserve.ensures.space c.reserve.ensures.state
    (λ space s. if_installed (replica_for s c.args.region)) c.in-Some.replica u.key
    c.deref.result.now.key 1 c.in_ok-place.place x t c.in-Some.ensures
    (ap (λ (w : Update). w.key) c.deref.ensures) c.in_ok-place.ensures.room c.context_at-context.ensures.seen
    c.slot_at-slot.ensures.state in
    nothing_posted old new c.reserve.ensures.space c.reserve.ensures.state c.requires.bare
    (λ space s. updated space s c.args.from c.args.update.now (if_installed (replica_for s c.args.region)))
    (update_unheard new c.in-Some.replica 1 c.in_ok-place.place x t c.args.from c.args.region u taken
    (heard_there x.config x.region x.server c.args.from u c.deref-2.result.now c.deref-3.result.now c.place_at-number.result c.hears_update.result false
    c.deref-2.ensures c.deref-3.ensures c.place_at-number.ensures.number c.hears_update.ensures c.if-not-hears_update.true)) c.args.posts.now

pub returns-then-not-hears_update-clause-change : goal.returns-then-not-hears_update-clause-change
returns-then-not-hears_update-clause-change c =
    let old = c.args.self.now in
    let new = c.reserve.new.self in
    let u : Update = c.args.update.now in
    let x = context_seen c.context_at-context.result in
    let t = c.slot_at-slot.result.now.state in
    let taken = taken_still old new c.reserve.ensures.space c.reserve.ensures.state
    (λ space s. if_installed (replica_for s c.args.region)) c.in-Some.replica u.key
    c.deref.result.now.key 1 c.in_ok-place.place x t c.in-Some.ensures
    (ap (λ (w : Update). w.key) c.deref.ensures) c.in_ok-place.ensures.room c.context_at-context.ensures.seen
    c.slot_at-slot.ensures.state in
    nothing_changed old new c.reserve.ensures.space c.reserve.ensures.state c.requires.bare
    (λ space s. updated space s c.args.from c.args.update.now (if_installed (replica_for s c.args.region)))
    (update_unheard new c.in-Some.replica 1 c.in_ok-place.place x t c.args.from c.args.region u taken
    (heard_there x.config x.region x.server c.args.from u c.deref-2.result.now c.deref-3.result.now c.place_at-number.result c.hears_update.result false
    c.deref-2.ensures c.deref-3.ensures c.place_at-number.ensures.number c.hears_update.ensures c.if-not-hears_update.true))

pub returns-clause-posts : goal.returns-clause-posts
returns-clause-posts c =
    let old = c.args.self.now in
    let new = c.reserve.new.self in
    let u : Update = c.args.update.now in
    let x = context_seen c.context_at-context.result in
    let t = c.slot_at-slot.result.now.state in
    let taken = taken_still old new c.reserve.ensures.space c.reserve.ensures.state
    (λ space s. if_installed (replica_for s c.args.region)) c.in-Some.replica u.key
    c.deref.result.now.key 1 c.in_ok-place.place x t c.in-Some.ensures
    (ap (λ (w : Update). w.key) c.deref.ensures) c.in_ok-place.ensures.room c.context_at-context.ensures.seen
    c.slot_at-slot.ensures.state in
    made_posted old new c.reserve.ensures.space c.reserve.ensures.state c.requires.bare
    (λ space s. updated space s c.args.from c.args.update.now (if_installed (replica_for s c.args.region)))
    taken.there.replica t (update_step x t u)
    (update_heard new c.in-Some.replica 1 c.in_ok-place.place x t c.args.from c.args.region u taken
    (heard_there x.config x.region x.server c.args.from u c.deref-2.result.now c.deref-3.result.now c.place_at-number.result c.hears_update.result true
    c.deref-2.ensures c.deref-3.ensures c.place_at-number.ensures.number c.hears_update.ensures
    c.if-not-hears_update.false)) c.args.posts.now c.offer.new.posts c.in-Ok.ensures.posts

pub returns-clause-change : goal.returns-clause-change
returns-clause-change c =
    let old = c.args.self.now in
    let new = c.reserve.new.self in
    let u : Update = c.args.update.now in
    let x = context_seen c.context_at-context.result in
    let t = c.slot_at-slot.result.now.state in
    let taken = taken_still old new c.reserve.ensures.space c.reserve.ensures.state
    (λ space s. if_installed (replica_for s c.args.region)) c.in-Some.replica u.key
    c.deref.result.now.key 1 c.in_ok-place.place x t c.in-Some.ensures
    (ap (λ (w : Update). w.key) c.deref.ensures) c.in_ok-place.ensures.room c.context_at-context.ensures.seen
    c.slot_at-slot.ensures.state in
    made_changed old new c.reserve.ensures.space c.reserve.ensures.state c.requires.bare
    (λ space s. updated space s c.args.from c.args.update.now (if_installed (replica_for s c.args.region)))
    taken.there.replica t (update_step x t u)
    (update_heard new c.in-Some.replica 1 c.in_ok-place.place x t c.args.from c.args.region u taken
    (heard_there x.config x.region x.server c.args.from u c.deref-2.result.now c.deref-3.result.now c.place_at-number.result c.hears_update.result true
    c.deref-2.ensures c.deref-3.ensures c.place_at-number.ensures.number c.hears_update.ensures
    c.if-not-hears_update.false)) c.in-Some.replica c.in_ok-place.place 1 u.key x c.in-Ok.change
    taken.there.at_place taken.stands taken.same c.in-Ok.ensures.change
    (room_small c.in-Ok.change) taken.room
