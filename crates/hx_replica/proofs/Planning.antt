-- What a step makes, and what the step on a delivery makes.
use Rattle.std.proofs.Common.{◌≡◌, ◌≤◌, ℕ, Bool, true, false, not, cond, nat_le, nat_lt, List, [], ◌∷◌, ◌++◌}
use Rattle.std.proofs.Common.{append-nil, append_assoc, Option, None, Some, Result, Ok, Err, IfOk, IsSomeAnd, arith}
use Rattle.std.proofs.Common.{refl, ap, sym, ◌∙◌, subst}
use Rattle.std.specs.Prelude.{OnOk}
use Rattle.std.specs.List.{slice_get}
use Rattle.std.specs.Option.{option_map}
use Rattle.std.proofs.lemmas.Bool.{cond-false}
use Rattle.std.proofs.lemmas.Result.{on_ok_weaker}
use Rattle.hx_model.specs.Types.{Actor, Config, Deliver, Epoch, Input, Kept, Message, Note, Op, Post, PostId, RegionId}
use Rattle.hx_model.specs.Types.{Server, ServerId, Space, Term, Update, Version}
use Rattle.hx_types.specs.declared.messages.Message.TheVariants as a_message
use Rattle.hx_types.specs.Words.{provided}
use Rattle.hx_model.specs.Hearing.{hears_ack, hears_snap, hears_update}
use Rattle.hx_model.specs.Neighbours.{place_number}
use Rattle.hx_model.specs.ServerSteps.{Replica, ServerState, ServerStep, SlotStep, acked, acked_of, asked, at_slot}
use Rattle.hx_model.specs.ServerSteps.{input_step, install_at, meeting, message_step, pending_with, poll_post}
use Rattle.hx_model.specs.ServerSteps.{server_step, snapped, state_in, unmoved, updated, with_slot}
use Rattle.hx_model.specs.Slots.{KeyState, Move, moved_all, top_of}
use Rattle.hx_store.specs.Stores.{Room}
use Rattle.hx_law_folds.specs.Folding.{folded, folded_server}
use Rattle.hx_law_folds.proofs.Lemmas.{found-lean, state-lean, with-slot-lean}
use Rattle.hx_replica.specs.declared.outputs.SlotChange.TheVariants.{Open, Accept, Acknowledge}
use Rattle.hx_replica.specs.declared.outputs.SlotChange.{SlotChange}
use Rattle.hx_replica.specs.declared.prepared.Change.{Change}
use Rattle.hx_replica.specs.declared.prepared.Change.TheVariants.{Nothing, Slot}
use Rattle.hx_replica.specs.declared.prepared.Plan.{Plan}
use Rattle.hx_replica.specs.Outputs.{HasRoomFor, IsChangeOf, moves_by, room_of, stepped}
use Rattle.hx_replica.specs.Plans.{CanHear, HasRoomAt, IsChange, IsPlanOn}
use Rattle.hx_replica.specs.Servers.{CanTake, ServerValue}

-- a replica that was found by its place
pub record IsFound (rs : List Replica) (place : ℕ) (o : Option Replica) : Type 0 where
  pub replica : Replica
  pub is : o ≡ Some replica
  pub at_place : slice_get rs place ≡ Some replica

pub found_there : (rs : List Replica) (place : ℕ) (o : Option Replica) → Some (slice_get rs place) ≡ option_map (λ (r : Replica). Some r) o → IsFound rs place o
found_there rs place None e = absurd cc
found_there rs place (Some r) e = record { replica = r; is = refl; at_place = cc }

pub found_nowhere : (o : Option Replica) → None ≡ option_map (λ (r : Replica). Some r) o → o ≡ None
found_nowhere None e = refl
found_nowhere (Some r) e = absurd cc

-- a server that has not halted
pub running_step : (v : ServerValue) (input : Input) → v.state.halted ≡ false → server_step v.space v.state input ≡ input_step v.space v.state input
running_step v input running = cond-false v.state.halted (unmoved v.state) (input_step v.space v.state input) running

-- after a step that leaves a server without a past as it was
pub stays : (v : ServerValue) (step : ServerStep) → folded_server v.state ≡ v.state → step.state ≡ v.state → folded_server step.state ≡ v.state
stays v step bare e = ap folded_server e ∙ bare

-- a change of a slot without a past, without its past
stepped_lean : (change : SlotChange) (g : RegionId) (s : KeyState) → folded g s ≡ s → folded g (moved_all (moves_by g s change) s) ≡ stepped change g s
stepped_lean Open g s e = e
stepped_lean (Accept u place tail_versions) g s e = refl
stepped_lean (Acknowledge v) g s e = refl

-- room for fewer updates
less_in : (key : List ℕ) (n k place : ℕ) (rooms : List Room) → k ≤ n → HasRoomFor key n place rooms → HasRoomFor key k place rooms
less_in key n k place rooms l = at (slice_get rooms place)
  where
    at : (o : Option Room) → IsSomeAnd o (λ (r : Room). (r.key ≡ key) × (n ≤ r.spare)) → IsSomeAnd o (λ (r : Room). (r.key ≡ key) × (k ≤ r.spare))
    at None h = absurd h
    at (Some r) h = (h.0, let enough = h.1 in omega (arith, l, enough))

less_room : (number : ℕ) (key : List ℕ) (n k : ℕ) (v : ServerValue) (place : ℕ) → k ≤ n → HasRoomAt number key n v place → HasRoomAt number key k v place
less_room number key n k v place l = at (slice_get v.rooms number)
  where
    at : (o : Option (List Room)) → IsSomeAnd o (HasRoomFor key n place) → IsSomeAnd o (HasRoomFor key k place)
    at None h = absurd h
    at (Some rooms) h = less_in key n k place rooms l h

-- an update needs room for one more, at most
pub room_small : (change : SlotChange) → room_of change ≤ 1
room_small Open = omega arith
room_small (Accept u place tail_versions) = omega arith
room_small (Acknowledge v) = omega arith

-- the slot of a key at the replica with this number, which stands so and makes this
module _ (v : ServerValue) (number : ℕ) (r : Replica) (there : slice_get v.state.replicas number ≡ Some r)
    (key : List ℕ) (n place : ℕ) (g : RegionId) (s : KeyState) (made : SlotStep)
    (change : SlotChange) (step : ServerStep) (bare : folded_server v.state ≡ v.state) (region : g ≡ r.region)
    (same : s ≡ state_in v.space r key) (so : IsChangeOf g s key made change)
    (room : HasRoomAt number key n v place) (is : step ≡ at_slot v.state r s made) where
  pub changed_so : room_of change ≤ n → IsChange v step.state (Slot number place change)
  changed_so few =
      let here = found-lean v.state number r bare there in
      let fits : IsChangeOf r.region (state_in v.space r key) key made change =
      subst (λ (h : RegionId). IsChangeOf h (state_in v.space r key) key made change) region
      (subst (λ (t : KeyState). IsChangeOf g t key made change) same so) in
      record {
        key = key;
        replica = r;
        found = there;
        room = less_room number key n (room_of change) v place few room;
        fits = fits.fits;
        state = ap (λ (t : ServerStep). folded_server t.state) (is ∙ ap (λ (t : KeyState). at_slot v.state r t made) same)
            ∙ ap (λ (moves : List Move). folded_server (with_slot v.state r (moved_all moves (state_in v.space r key)))) (sym fits.moves)
            ∙ with-slot-lean v.state r (moved_all (moves_by r.region (state_in v.space r key) change) (state_in v.space r key))
            (stepped change r.region (state_in v.space r key)) bare here
            (stepped_lean change r.region (state_in v.space r key) (state-lean v.space r key here));
      }

-- the plan of an input, and what its step makes
pub made_planned : (v : ServerValue) (input : Input) (server : ServerId) (posts : List Post) (notes : List Note) (change : Change) (plan : Plan)
    → server ≡ v.state.id
    → posts ≡ (server_step v.space v.state input).posts → notes ≡ (server_step v.space v.state input).notes → IsChange v
    (server_step v.space v.state input).state change
    → plan ≡ record { entry = record { actor = Server server; input = input; outputs = posts; notes = notes }; change = change } → IsPlanOn v plan
made_planned v input server posts notes change plan me p n is e =
    subst (IsPlanOn v) (sym e)
    (record {
      entry = ap (λ (s : ServerId). record { actor = Server s; input = input; outputs = posts; notes = notes }) me
          ∙ ap (λ (ps : List Post). record { actor = Server v.state.id; input = input; outputs = ps; notes = notes }) p
          ∙ ap (λ (ns : List Note). record { actor = Server v.state.id; input = input; outputs = (server_step v.space v.state input).posts; notes = ns }) n;
      change = is;
    })

-- a search changes nothing
pub asked_state : (s : ServerState) (from : Actor) (epoch : Epoch) (number : ℕ) (terms : List Term) (o : Option Replica)
    → (asked s from epoch number terms o).state ≡ s
asked_state s from epoch number terms None = refl
asked_state s from epoch number terms (Some r) = refl

pub always : {T E Q : Type 0} (r : Result T E) → Q → OnOk r Q
always (Ok x) q = q
always (Err e) q = tt

-- nothing comes behind a list
pub nothing_more : {A : Type 0} (xs more : List A) → more ≡ [] → xs ≡ xs ++ more
nothing_more xs more e = sym (append-nil xs) ∙ ap (λ (ys : List _). xs ++ ys) (sym e)

-- what a message makes, by what the message is
module _ (v : ServerValue) (from : Actor) (m n : Message) (is : m ≡ n) where
  step_of : message_step v.space v.state from n ≡ message_step v.space v.state from m
  step_of = ap (message_step v.space v.state from) (sym is)

  module _ {T E : Type 0} (r : Result T E) where
    pub posts_made : (old new : List Post) → OnOk r (new ≡ old ++ (message_step v.space v.state from n).posts)
        → OnOk r (new ≡ old ++ (message_step v.space v.state from m).posts)
    posts_made old new = subst (λ (t : ServerStep). OnOk r (new ≡ old ++ t.posts)) step_of

    pub notes_made : (old new : List Note) → OnOk r (new ≡ old ++ (message_step v.space v.state from n).notes)
        → OnOk r (new ≡ old ++ (message_step v.space v.state from m).notes)
    notes_made old new = subst (λ (t : ServerStep). OnOk r (new ≡ old ++ t.notes)) step_of

    pub quiet_made : (notes : List Note) → (message_step v.space v.state from n).notes ≡ []
        → OnOk r (notes ≡ notes ++ (message_step v.space v.state from m).notes)
    quiet_made notes none = notes_made notes notes (always r (nothing_more notes _ none))

    -- the newest configuration is asked for first, where the epoch is higher
    pub posts_met : (epoch : Epoch) (step : ServerStep) (old met new : List Post) → message_step v.space v.state from n ≡ meeting v.state epoch step
        → met ≡ old ++ provided (nat_lt v.state.config.epoch.0 epoch.0) (poll_post v.state ∷ []) → OnOk r (new ≡ met ++ step.posts)
        → OnOk r (new ≡ old ++ (message_step v.space v.state from m).posts)
    posts_met epoch step old met new meets first last =
        posts_made old new
        (
        on_ok_weaker r
        (
        λ e. e ∙ ap (λ (ps : List Post). ps ++ step.posts) first
        ∙ append_assoc old (provided (nat_lt v.state.config.epoch.0 epoch.0) (poll_post v.state ∷ [])) step.posts
        ∙ ap (λ (t : ServerStep). old ++ t.posts) (sym meets)
        )
        last
        )

  pub change_made : {E : Type 0} (after : ServerValue) (r : Result Change E) → IfOk r (IsChange after (message_step v.space v.state from n).state)
      → IfOk r (IsChange after (message_step v.space v.state from m).state)
  change_made after r = subst (λ (t : ServerStep). IfOk r (IsChange after t.state)) step_of

-- no other message moves anything
pub unmoved_by : (space : Space) (s : ServerState) (from : Actor) (m : Message)
    → ((epoch : Epoch) (number : ℕ) (op : Op) → m ≡ a_message.Call epoch number op → ⊥)
    → ((epoch : Epoch) (g : RegionId) (u : Update) → m ≡ a_message.Update epoch g u → ⊥)
    → ((epoch : Epoch) (g by : RegionId) (key : List ℕ) (version : Version) → m ≡ a_message.Ack epoch g by key version → ⊥)
    → ((epoch : Epoch) (number : ℕ) (g : RegionId) (terms : List Term) → m ≡ a_message.Ask epoch number g terms → ⊥)
    → ((config : Config) → m ≡ a_message.Install config → ⊥)
    → (m ≡ a_message.Die → ⊥)
    → ((epoch : Epoch) (g : RegionId) (snapshot : List Kept) (pending : List Update) → m ≡ a_message.Snap epoch g snapshot pending → ⊥)
    → message_step space s from m ≡ unmoved s
unmoved_by space s from (a_message.Call epoch number op) call update ack ask install die snap = absurd (call epoch number op refl)
unmoved_by space s from (a_message.Update epoch g u) call update ack ask install die snap = absurd (update epoch g u refl)
unmoved_by space s from (a_message.Ack epoch g by key version) call update ack ask install die snap = absurd (ack epoch g by key version refl)
unmoved_by space s from (a_message.Ask epoch number g terms) call update ack ask install die snap = absurd (ask epoch number g terms refl)
unmoved_by space s from (a_message.Install config) call update ack ask install die snap = absurd (install config refl)
unmoved_by space s from a_message.Die call update ack ask install die snap = absurd (die refl)
unmoved_by space s from (a_message.Snap epoch g snapshot pending) call update ack ask install die snap = absurd (snap epoch g snapshot pending refl)
unmoved_by space s from other call update ack ask install die snap = refl

-- only of a call is something noted
quiet : (t : Bool) (a b : ServerStep) → a.notes ≡ [] → b.notes ≡ [] → (cond t a b).notes ≡ []
quiet true a b p q = p
quiet false a b p q = q

quiet_slot : (t : Bool) (a b : SlotStep) → a.notes ≡ [] → b.notes ≡ [] → (cond t a b).notes ≡ []
quiet_slot true a b p q = p
quiet_slot false a b p q = q

pub updated_quiet : (space : Space) (s : ServerState) (from : Actor) (u : Update) (o : Option Replica) → (updated space s from u o).notes ≡ []
updated_quiet space s from u None = refl
updated_quiet space s from u (Some r) =
    quiet (hears_update s.config u (place_number r.region u.places) s.id from) _ (unmoved s)
    (quiet_slot (nat_le u.version.0 (top_of (state_in space r u.key))) _ _ refl refl) refl

pub acked_quiet : (space : Space) (s : ServerState) (from : Actor) (key : List ℕ) (v : ℕ) (by : RegionId)
    (o : Option Replica) → (acked space s from key v by o).notes ≡ []
acked_quiet space s from key v by None = refl
acked_quiet space s from key v by (Some r) = at (pending_with v (state_in space r key))
  where
    at : (o : Option Update) → (acked_of space s from by r (state_in space r key) v o).notes ≡ []
    at None = refl
    at (Some u) = quiet (hears_ack s.config u (place_number r.region u.places) s.id from by) _ (unmoved s) refl refl

pub asked_quiet : (s : ServerState) (from : Actor) (epoch : Epoch) (number : ℕ) (terms : List Term)
    (o : Option Replica) → (asked s from epoch number terms o).notes ≡ []
asked_quiet s from epoch number terms None = refl
asked_quiet s from epoch number terms (Some r) = refl

pub snapped_quiet : (space : Space) (s : ServerState) (from : Actor) (snapshot : List Kept) (pending : List Update)
    (o : Option Replica) → (snapped space s from snapshot pending o).notes ≡ []
snapped_quiet space s from snapshot pending None = refl
snapped_quiet space s from snapshot pending (Some r) =
    quiet (not (hears_snap s.config r.region s.id from)) (unmoved s) _ refl (quiet r.installed _ _ refl refl)

pub install_quiet : (space : Space) (s : ServerState) (config : Config) → (install_at space s config).notes ≡ []
install_quiet space s config = quiet (nat_lt s.config.epoch.0 config.epoch.0) _ (unmoved s) refl refl

-- what changes nothing of a server that has no past
pub unchanged : (v : ServerValue) (step : ServerStep) → folded_server v.state ≡ v.state → step ≡ unmoved v.state → IsChange v step.state Nothing
unchanged v step bare e = stays v step bare (ap (λ (t : ServerStep). t.state) e)

-- a post of a message that can be taken
pub can_hear : (space : Space) (s : ServerState) (input : Input) (id : PostId) (from : Actor) (m : Message) → CanTake space s input
    → input ≡ Deliver id from m → CanHear space s from m
can_hear space s input id from m can is = record { id = id; can = subst (CanTake space s) is can }

-- the step on an input, by what the input is
pub step_on : (v : ServerValue) (input other : Input) → CanTake v.space v.state input → input ≡ other
    → server_step v.space v.state input ≡ input_step v.space v.state other
step_on v input other can is = running_step v input can.running ∙ ap (input_step v.space v.state) is
