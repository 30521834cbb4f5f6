-- What the slot makes to which a message goes, where room was made at it since the message came.
use Rattle.std.proofs.Common.{◌≡◌, ◌<◌, ◌≤◌, ℕ, true, false, List, ◌++◌, length, Option, Some, refl, ap, sym, ◌∙◌, subst}
use Rattle.std.specs.List.{AllByRecursion, slice_get}
use Rattle.std.specs.Option.{option_map}
use Rattle.hx_model.specs.Types.{Actor, Caller, Coordinator, Note, Op, Post, RegionId, Server, Session, SessionId, Space, Update}
use Rattle.hx_types.specs.Subspaces.{is_key_region}
use Rattle.hx_model.specs.Hearing.{hears_update}
use Rattle.hx_model.specs.Neighbours.{place_number}
use Rattle.hx_model.specs.ServerSteps.{Replica, ServerState, ServerStep, SlotContext, SlotStep, ack_step, acked}
use Rattle.hx_model.specs.ServerSteps.{at_slot, call_step, called, called_by, context_of, if_installed, pending_with}
use Rattle.hx_model.specs.ServerSteps.{replica_for, state_in, unmoved, update_step, updated}
use Rattle.hx_model.specs.Slots.{KeyState}
use Rattle.hx_law_folds.specs.Folding.{folded_server}
use Rattle.hx_replica.specs.declared.outputs.SlotChange.{SlotChange}
use Rattle.hx_replica.specs.declared.prepared.Change.TheVariants.{Nothing, Slot}
use Rattle.hx_replica.specs.Hearing.{leading}
use Rattle.hx_replica.specs.Outputs.{IsChangeOf, hears_version, room_of}
use Rattle.hx_replica.specs.Plans.{AtReplica, HasRoomAt, IsChange}
use Rattle.hx_replica.specs.Servers.{HasSmallVersions, ServerValue}
use Rattle.hx_replica.proofs.Asking.{AreMarked}
use Rattle.hx_replica.proofs.Hearing.{acked_nowhere, acked_there, called_there, found_region, installed_some, replica_for_found, updated_nowhere, updated_there}
use Rattle.hx_replica.proofs.Planning.{IsFound, changed_so, found_there, nothing_more, stays}

-- the slot of a key at the replica that takes the message, which stands so
pub record IsTaken (v : ServerValue) (number : ℕ) (found : Option Replica) (key : List ℕ) (n place : ℕ) (x : SlotContext) (t : KeyState) : Type 0 where
  pub there : IsFound v.state.replicas number found
  pub stands : x ≡ context_of v.space v.state there.replica.region
  pub same : t ≡ state_in v.space there.replica key
  pub room : HasRoomAt number key n v place

-- room was made, and the server is else as before
module _ (old new : ServerValue) (space : new.space ≡ old.space) (state : new.state ≡ old.state) where
  pub taken_still : (found : Space → ServerState → Option Replica) (number : ℕ) (key held : List ℕ) (n place : ℕ) (x : SlotContext) (t : KeyState)
      → Some (slice_get old.state.replicas number) ≡ option_map (λ (r : Replica). Some r) (found old.space old.state)
      → held ≡ key → HasRoomAt number held n new place
      → AtReplica new number (λ (r : Replica). x ≡ context_of new.space new.state r.region)
      → ((k : List ℕ) (m : ℕ) → HasRoomAt number k m new place → AtReplica new number (λ (r : Replica). t ≡ state_in new.space r k))
      → IsTaken new number (found new.space new.state) key n place x t
  taken_still found number key held n place x t at k room stands same =
      let there = found_there new.state.replicas number (found new.space new.state)
      (
      ap (λ (s : ServerState). Some (slice_get s.replicas number)) state ∙ at
      ∙ ap (λ (y : Space). option_map (λ (r : Replica). Some r) (found y old.state)) (sym space)
      ∙ ap (λ (s : ServerState). option_map (λ (r : Replica). Some r) (found new.space s)) (sym state)
      ) in
      let here : HasRoomAt number key n new place = subst (λ (h : List ℕ). HasRoomAt number h n new place) k room in
      record { there = there; stands = stands there.replica there.at_place; same = same key n here there.replica there.at_place; room = here }

  -- a step, by what the server is
  module _ (bare : folded_server old.state ≡ old.state) (step : Space → ServerState → ServerStep) where
    bare_still : folded_server new.state ≡ new.state
    bare_still = subst (λ (s : ServerState). folded_server s ≡ s) (sym state) bare

    still : step new.space new.state ≡ step old.space old.state
    still = ap (λ (x : Space). step x new.state) space ∙ ap (λ (s : ServerState). step old.space s) state

    -- nothing moves
    module _ (is : step new.space new.state ≡ unmoved new.state) where
      pub nothing_posted : (ps : List Post) → ps ≡ ps ++ (step old.space old.state).posts
      nothing_posted ps = nothing_more ps _ (ap (λ (t : ServerStep). t.posts) (sym still ∙ is))

      pub nothing_noted : (ns : List Note) → ns ≡ ns ++ (step old.space old.state).notes
      nothing_noted ns = nothing_more ns _ (ap (λ (t : ServerStep). t.notes) (sym still ∙ is))

      pub nothing_changed : IsChange new (step old.space old.state).state Nothing
      nothing_changed = stays new (step old.space old.state) bare_still (ap (λ (t : ServerStep). t.state) (sym still ∙ is))

    -- the slot moves
    module _ (r : Replica) (t : KeyState) (made : SlotStep) (is : step new.space new.state ≡ at_slot new.state r t made) where
      pub made_posted : (ps qs : List Post) → qs ≡ ps ++ made.posts → qs ≡ ps ++ (step old.space old.state).posts
      made_posted ps qs e = e ∙ ap (λ (x : ServerStep). ps ++ x.posts) (sym is ∙ still)

      pub made_noted : (ns ms : List Note) → ms ≡ ns ++ made.notes → ms ≡ ns ++ (step old.space old.state).notes
      made_noted ns ms e = e ∙ ap (λ (x : ServerStep). ns ++ x.notes) (sym is ∙ still)

      pub made_changed : (number place n : ℕ) (key : List ℕ) (x : SlotContext) (change : SlotChange) → slice_get new.state.replicas number ≡ Some r
          → x ≡ context_of new.space new.state r.region → t ≡ state_in new.space r key
          → IsChangeOf x.region t key made change → room_of change ≤ n → HasRoomAt number key n new place
          → IsChange new (step old.space old.state).state (Slot number place change)
      made_changed number place n key x change there stands same so few room =
          changed_so new number r there key n place x.region t made change (step old.space old.state) bare_still
          (ap (λ (y : SlotContext). y.region) stands) same so room (sym still ∙ is) few

pub within_still : (old new : ServerValue) → new.state ≡ old.state → (number : ℕ) → number < length old.state.replicas → number < length new.state.replicas
within_still old new state number = subst (λ (s : ServerState). number < length s.replicas) (sym state)

-- only a session calls
pub only_sessions : (space : Space) (s : ServerState) (from : Actor) (number : ℕ) (op : Op)
    → ((u : SessionId) → from ≡ Session u → ⊥) → called_by space s from number op ≡ unmoved s
only_sessions space s Coordinator number op h = refl
only_sessions space s (Server x) number op h = refl
only_sessions space s (Session u) number op h = absurd (h u refl)

-- what is so of its slots
pub marked_still : (old new : ServerValue) → new.space ≡ old.space → new.state ≡ old.state → AreMarked old → AreMarked new
marked_still old new space state h place r e =
    subst (λ (y : Space). AllByRecursion (λ (t : KeyState). t.marks ≡ is_key_region y r.region) r.states) (sym space)
    (h place r (sym (ap (λ (s : ServerState). slice_get s.replicas place) state) ∙ e))

pub small_still : (old new : ServerValue) → new.state ≡ old.state → HasSmallVersions old.state → HasSmallVersions new.state
small_still old new state = subst HasSmallVersions (sym state)

-- ---- what the slot makes

module _ (v : ServerValue) (number n place : ℕ) (x : SlotContext) (t : KeyState) where
  -- of an update
  module _ (from : Actor) (g : RegionId) (u : Update) (taken : IsTaken v number (if_installed (replica_for v.state g)) u.key n place x t) where
    pub taken_region : x.region ≡ g
    taken_region =
        ap (λ (y : SlotContext). y.region) taken.stands
        ∙ found_region g v.state.replicas taken.there.replica
        (replica_for_found v.state g taken.there.replica
        (installed_some (replica_for v.state g) taken.there.replica taken.there.is))

    pub update_heard : hears_update x.config u (place_number x.region u.places) x.server from ≡ true
        → updated v.space v.state from u (if_installed (replica_for v.state g)) ≡ at_slot v.state taken.there.replica t (update_step x t u)
    update_heard h = ap (updated v.space v.state from u) taken.there.is ∙ updated_there v.space v.state taken.there.replica x taken.stands from u t taken.same h

    pub update_unheard : hears_update x.config u (place_number x.region u.places) x.server from ≡ false
        → updated v.space v.state from u (if_installed (replica_for v.state g)) ≡ unmoved v.state
    update_unheard h = ap (updated v.space v.state from u) taken.there.is ∙ updated_nowhere v.space v.state taken.there.replica x taken.stands from u h

  -- of an acknowledgement
  module _ (from : Actor) (g by : RegionId) (key : List ℕ) (version : ℕ) (taken : IsTaken v number (if_installed (replica_for v.state g)) key n place x t) where
    pub ack_heard : hears_version x from by (pending_with version t) ≡ true
        → acked v.space v.state from key version by (if_installed (replica_for v.state g)) ≡ at_slot v.state taken.there.replica t (ack_step x t version)
    ack_heard h = ap (acked v.space v.state from key version by) taken.there.is
        ∙ acked_there v.space v.state taken.there.replica x taken.stands from by key version t taken.same h

    pub ack_unheard : hears_version x from by (pending_with version t) ≡ false
        → acked v.space v.state from key version by (if_installed (replica_for v.state g)) ≡ unmoved v.state
    ack_unheard h = ap (acked v.space v.state from key version by) taken.there.is
        ∙ acked_nowhere v.space v.state taken.there.replica x taken.stands from by key version t taken.same h

  -- of a call
  pub call_made : (caller : Caller) (op : Op) (key : List ℕ) (taken : IsTaken v number (leading v.space v.state key) key n place x t)
      → called v.space v.state caller op (Some key) ≡ at_slot v.state taken.there.replica t (call_step x t caller op)
  call_made caller op key taken = called_there v.space v.state taken.there.replica x taken.stands caller op key t taken.same taken.there.is
