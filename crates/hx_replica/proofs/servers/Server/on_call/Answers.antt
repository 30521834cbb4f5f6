use Rattle.std.proofs.Common.{List, ℕ, ap, refl, subst, sym, ◌∙◌}
use Rattle.std.proofs.lemmas.Option.{slice_get_within}
use Rattle.hx_types.specs.Subspaces.{is_key_region}
use Rattle.hx_model.specs.Types.{Actor}
use Rattle.hx_law_folds.specs.Folding.{folded_server}
use Rattle.hx_model.specs.ServerSteps.{ServerStep, SlotContext, call_step, called, called_by}
use Rattle.hx_model.specs.Slots.{KeyState}
use Rattle.hx_replica.specs.Hearing.{leading}
use Rattle.hx_replica.specs.Outputs.{IsChangeOf, IsLeading, context_seen}
use Rattle.hx_replica.proofs.Asking.{slot_leads, state_key}
use Rattle.hx_replica.proofs.Hearing.{called_nowhere}
use Rattle.hx_replica.proofs.Invariant.{marked_inside}
use Rattle.hx_replica.proofs.Planning.{found_nowhere, found_there, nothing_more, room_small, unchanged}
use Rattle.hx_replica.proofs.Roomy.{all_same}
use Rattle.hx_replica.proofs.Taking.{call_made, made_changed, made_noted, made_posted, marked_still, only_sessions, small_still, taken_still, within_still}
use Rattle.hx_replica.proofs.servers.Server.on_call.Goals as goal

pub reserve-requires : goal.reserve-requires
reserve-requires c =
    let there = found_there c.args.self.now.state.replicas c.in-Some-leading.replica _ c.in-Some-leading.ensures in
    slice_get_within c.args.self.now.state.replicas c.in-Some-leading.replica there.replica there.at_place

pub context_at-context-requires : goal.context_at-context-requires
context_at-context-requires c =
    let there = found_there c.args.self.now.state.replicas c.in-Some-leading.replica _ c.in-Some-leading.ensures in
    within_still c.args.self.now c.reserve.new.self c.reserve.ensures.state c.in-Some-leading.replica
    (slice_get_within c.args.self.now.state.replicas c.in-Some-leading.replica there.replica there.at_place)

pub slot_at-slot-requires-clause-within : goal.slot_at-slot-requires-clause-within
slot_at-slot-requires-clause-within c =
    let there = found_there c.args.self.now.state.replicas c.in-Some-leading.replica _ c.in-Some-leading.ensures in
    within_still c.args.self.now c.reserve.new.self c.reserve.ensures.state c.in-Some-leading.replica
    (slice_get_within c.args.self.now.state.replicas c.in-Some-leading.replica there.replica there.at_place)

pub returns-in_default : goal.returns-in_default
returns-in_default c =
    let v = c.args.self.now in
    let none = only_sessions v.space v.state c.args.from c.args.number c.args.op.now (λ u e. c.in_default.not-Session u e) in
    record {
      posts = nothing_more c.args.posts.now _ (ap (λ (t : ServerStep). t.posts) none);
      notes = nothing_more c.args.notes.now _ (ap (λ (t : ServerStep). t.notes) none);
      change = ap (λ (t : ServerStep). folded_server t.state) none ∙ c.requires.bare;
      rooms = all_same v.rooms v.rooms refl;
      space = refl;
      state = refl;
    }

pub call-requires-clause-region : goal.call-requires-clause-region
call-requires-clause-region c =
    let old = c.args.self.now in
    let new = c.reserve.new.self in
    let key = c.in-Some.key.now in
    let x = context_seen c.context_at-context.result in
    let t = c.slot_at-slot.result.now.state in
    let taken = taken_still old new c.reserve.ensures.space c.reserve.ensures.state (λ space s. leading space s key) c.in-Some-leading.replica key
    key 1 c.in_ok-place.place x t c.in-Some-leading.ensures refl c.in_ok-place.ensures.room c.context_at-context.ensures.seen
    c.slot_at-slot.ensures.state in
    c.slot_at-slot.ensures.region taken.there.replica taken.there.at_place ∙ sym (ap (λ (y : SlotContext). y.region) taken.stands)

pub call-requires-clause-leading : goal.call-requires-clause-leading
call-requires-clause-leading c =
    let old = c.args.self.now in
    let new = c.reserve.new.self in
    let key = c.in-Some.key.now in
    let x = context_seen c.context_at-context.result in
    let t = c.slot_at-slot.result.now.state in
    let taken = taken_still old new c.reserve.ensures.space c.reserve.ensures.state (λ space s. leading space s key) c.in-Some-leading.replica key
    key 1 c.in_ok-place.place x t c.in-Some-leading.ensures refl c.in_ok-place.ensures.room c.context_at-context.ensures.seen
    c.slot_at-slot.ensures.state in
    let marked = marked_still old new c.reserve.ensures.space c.reserve.ensures.state
    (marked_inside c.self.inside c.args.self.now c.self.view_is c.self.invariant) in
    let leads = slot_leads new key c.in-Some-leading.replica taken.there.replica marked
    (small_still old new c.reserve.ensures.state c.requires.small) taken.there.is taken.there.at_place in
    subst (λ (y : SlotContext). IsLeading y.space y.region t) (sym taken.stands) (subst (IsLeading new.space taken.there.replica.region) (sym taken.same) leads)

pub returns-clause-posts : goal.returns-clause-posts
returns-clause-posts c =
    let old = c.args.self.now in
    let new = c.reserve.new.self in
    let key = c.in-Some.key.now in
    let x = context_seen c.context_at-context.result in
    let t = c.slot_at-slot.result.now.state in
    let taken = taken_still old new c.reserve.ensures.space c.reserve.ensures.state (λ space s. leading space s key) c.in-Some-leading.replica key
    key 1 c.in_ok-place.place x t c.in-Some-leading.ensures refl c.in_ok-place.ensures.room c.context_at-context.ensures.seen
    c.slot_at-slot.ensures.state in
    made_posted old new c.reserve.ensures.space c.reserve.ensures.state c.requires.bare (λ space s. called_by space s c.args.from c.args.number c.args.op.now)
    taken.there.replica t (call_step x t (record { session = c.in-Session.session; number = c.args.number }) c.args.op.now)
    (
    ap (λ (a : Actor). called_by new.space new.state a c.args.number c.args.op.now) c.in-Session.is
    ∙ ap (called new.space new.state (record { session = c.in-Session.session; number = c.args.number }) c.args.op.now) (sym c.in-Some.ensures)
    ∙ call_made new c.in-Some-leading.replica 1 c.in_ok-place.place x t
    (record { session = c.in-Session.session; number = c.args.number }) c.args.op.now key taken
    ) c.args.posts.now c.call.new.posts c.in-Ok.ensures.posts

pub returns-clause-notes : goal.returns-clause-notes
returns-clause-notes c =
    let old = c.args.self.now in
    let new = c.reserve.new.self in
    let key = c.in-Some.key.now in
    let x = context_seen c.context_at-context.result in
    let t = c.slot_at-slot.result.now.state in
    let taken = taken_still old new c.reserve.ensures.space c.reserve.ensures.state (λ space s. leading space s key) c.in-Some-leading.replica key
    key 1 c.in_ok-place.place x t c.in-Some-leading.ensures refl c.in_ok-place.ensures.room c.context_at-context.ensures.seen
    c.slot_at-slot.ensures.state in
    made_noted old new c.reserve.ensures.space c.reserve.ensures.state c.requires.bare (λ space s. called_by space s c.args.from c.args.number c.args.op.now)
    taken.there.replica t (call_step x t (record { session = c.in-Session.session; number = c.args.number }) c.args.op.now)
    (
    ap (λ (a : Actor). called_by new.space new.state a c.args.number c.args.op.now) c.in-Session.is
    ∙ ap (called new.space new.state (record { session = c.in-Session.session; number = c.args.number }) c.args.op.now) (sym c.in-Some.ensures)
    ∙ call_made new c.in-Some-leading.replica 1 c.in_ok-place.place x t
    (record { session = c.in-Session.session; number = c.args.number }) c.args.op.now key taken
    ) c.args.notes.now c.call.new.notes c.in-Ok.ensures.notes

pub returns-clause-change : goal.returns-clause-change
returns-clause-change c =
    let old = c.args.self.now in
    let new = c.reserve.new.self in
    let key = c.in-Some.key.now in
    let x = context_seen c.context_at-context.result in
    let t = c.slot_at-slot.result.now.state in
    let taken = taken_still old new c.reserve.ensures.space c.reserve.ensures.state (λ space s. leading space s key) c.in-Some-leading.replica key
    key 1 c.in_ok-place.place x t c.in-Some-leading.ensures refl c.in_ok-place.ensures.room c.context_at-context.ensures.seen
    c.slot_at-slot.ensures.state in
    let held = ap (λ (s : KeyState). s.base.key) taken.same ∙ state_key (is_key_region new.space taken.there.replica.region) key taken.there.replica.states in
    made_changed old new c.reserve.ensures.space c.reserve.ensures.state c.requires.bare (λ space s. called_by space s c.args.from c.args.number c.args.op.now)
    taken.there.replica t (call_step x t (record { session = c.in-Session.session; number = c.args.number }) c.args.op.now)
    (
    ap (λ (a : Actor). called_by new.space new.state a c.args.number c.args.op.now) c.in-Session.is
    ∙ ap (called new.space new.state (record { session = c.in-Session.session; number = c.args.number }) c.args.op.now) (sym c.in-Some.ensures)
    ∙ call_made new c.in-Some-leading.replica 1 c.in_ok-place.place x t
    (record { session = c.in-Session.session; number = c.args.number }) c.args.op.now key taken
    ) c.in-Some-leading.replica c.in_ok-place.place 1 key x c.in-Ok.change taken.there.at_place taken.stands taken.same
    (subst (λ (k : List ℕ). IsChangeOf x.region t k
    (call_step x t (record { session = c.in-Session.session; number = c.args.number }) c.args.op.now)
    c.in-Ok.change) held c.in-Ok.ensures.change)
    (room_small c.in-Ok.change) taken.room

pub returns-in_default-key-clause-posts : goal.returns-in_default-key-clause-posts
returns-in_default-key-clause-posts c =
    let v = c.args.self.now in
    nothing_more c.args.posts.now _ (ap (λ (t : ServerStep). t.posts)
    (ap (λ (a : Actor). called_by v.space v.state a c.args.number c.args.op.now) c.in-Session.is
    ∙ ap (called v.space v.state (record { session = c.in-Session.session; number = c.args.number }) c.args.op.now) (sym c.in_default-key.ensures)))

pub returns-in_default-key-clause-notes : goal.returns-in_default-key-clause-notes
returns-in_default-key-clause-notes c =
    let v = c.args.self.now in
    nothing_more c.args.notes.now _ (ap (λ (t : ServerStep). t.notes)
    (ap (λ (a : Actor). called_by v.space v.state a c.args.number c.args.op.now) c.in-Session.is
    ∙ ap (called v.space v.state (record { session = c.in-Session.session; number = c.args.number }) c.args.op.now) (sym c.in_default-key.ensures)))

pub returns-in_default-key-clause-change : goal.returns-in_default-key-clause-change
returns-in_default-key-clause-change c =
    let v = c.args.self.now in
    unchanged v _ c.requires.bare
    (ap (λ (a : Actor). called_by v.space v.state a c.args.number c.args.op.now) c.in-Session.is
    ∙ ap (called v.space v.state (record { session = c.in-Session.session; number = c.args.number }) c.args.op.now) (sym c.in_default-key.ensures))

pub returns-in_default-leading-clause-posts : goal.returns-in_default-leading-clause-posts
returns-in_default-leading-clause-posts c =
    let v = c.args.self.now in
    nothing_more c.args.posts.now _ (ap (λ (t : ServerStep). t.posts)
    (ap (λ (a : Actor). called_by v.space v.state a c.args.number c.args.op.now) c.in-Session.is
    ∙ ap (called v.space v.state (record { session = c.in-Session.session; number = c.args.number }) c.args.op.now) (sym c.in-Some.ensures)
    ∙ called_nowhere v.space v.state (record { session = c.in-Session.session; number = c.args.number }) c.args.op.now
    c.in-Some.key.now (found_nowhere (leading v.space v.state c.in-Some.key.now) c.in_default-leading.ensures)))

pub returns-in_default-leading-clause-notes : goal.returns-in_default-leading-clause-notes
returns-in_default-leading-clause-notes c =
    let v = c.args.self.now in
    nothing_more c.args.notes.now _ (ap (λ (t : ServerStep). t.notes)
    (ap (λ (a : Actor). called_by v.space v.state a c.args.number c.args.op.now) c.in-Session.is
    ∙ ap (called v.space v.state (record { session = c.in-Session.session; number = c.args.number }) c.args.op.now) (sym c.in-Some.ensures)
    ∙ called_nowhere v.space v.state (record { session = c.in-Session.session; number = c.args.number }) c.args.op.now
    c.in-Some.key.now (found_nowhere (leading v.space v.state c.in-Some.key.now) c.in_default-leading.ensures)))

pub returns-in_default-leading-clause-change : goal.returns-in_default-leading-clause-change
returns-in_default-leading-clause-change c =
    let v = c.args.self.now in
    unchanged v _ c.requires.bare
    (ap (λ (a : Actor). called_by v.space v.state a c.args.number c.args.op.now) c.in-Session.is
    ∙ ap (called v.space v.state (record { session = c.in-Session.session; number = c.args.number }) c.args.op.now) (sym c.in-Some.ensures)
    ∙ called_nowhere v.space v.state (record { session = c.in-Session.session; number = c.args.number }) c.args.op.now
    c.in-Some.key.now (found_nowhere (leading v.space v.state c.in-Some.key.now) c.in_default-leading.ensures))
