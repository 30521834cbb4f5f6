-- A server's step, case by case: it rests, ticks, halts, hears a message or adopts a configuration.
use Rattle.std.specs.Prelude.{ℕ, Bool, true, false, not, List, [], ◌∷◌, Option, None, Some}
use Rattle.std.proofs.Common.{◌≡◌, ◌<◌, refl, cond, ltb}
use Rattle.std.proofs.lemmas.Bool.{cond_both, ltb-true}
use Rattle.hx_model.specs.Types.{Actor, Config, Deliver, Epoch, Halt, Input, Kept, Message, Op, PostId, RegionId, Server, Session, SessionId, Space, Term, Tick}
use Rattle.hx_model.specs.Types.{Update, Version}
use Rattle.hx_types.specs.declared.messages.Message.TheVariants as a_message
use Rattle.hx_types.specs.Configs.{leads, lists_ready}
use Rattle.hx_types.specs.Effects.{key_of}
use Rattle.hx_types.specs.Words.{post, provided, when_some}
use Rattle.hx_model.specs.Hearing.{hears_ack, hears_snap, hears_update}
use Rattle.hx_model.specs.Neighbours.{place_number}
use Rattle.hx_model.specs.Regions.{key_region}
use Rattle.hx_model.specs.ServerSteps.{Replica, ServerState, ServerStep, ack_step, acked, acked_of, adopted, asked, at_slot, call_at, call_step, called}
use Rattle.hx_model.specs.ServerSteps.{called_by, context_of, halting, if_installed, input_step, installed_slots, meeting, message_step, pending_with}
use Rattle.hx_model.specs.ServerSteps.{ready_post, replica_for, saying, server_step, snapped, state_in, tick_step, unmoved, update_step, updated, with_config}
use Rattle.hx_model.specs.ServerSteps.{with_slots}
use Rattle.hx_model.specs.Slots.{found_in}

-- what is asked of each case; a message of a higher epoch may ask for the newest configuration first
pub record ServerCases (space : Space) (s : ServerState) (input : Input) (P : ServerStep → Type 0) : Type 0 where
  pub rests : P (unmoved s)
  pub met : (epoch : Epoch) (step : ServerStep) → P step → P (meeting s epoch step)
  pub ticks : P (tick_step space s)
  pub halts : input ≡ Halt → P (halting s)
  pub dies : (id : PostId) (from : Actor) → input ≡ Deliver id from a_message.Die → P (halting s)
  pub call : (id : PostId) (u : SessionId) (epoch : Epoch) (number : ℕ) (op : Op) (key : List ℕ) (r : Replica)
      → input ≡ Deliver id (Session u) (a_message.Call epoch number op) → key_of op ≡ Some key → replica_for s (key_region space key) ≡ Some r
      → leads space s.config s.id r.region ≡ true
      → P (at_slot s r (state_in space r key)
      (call_step (context_of space s r.region) (state_in space r key) (record { session = u; number = number }) op))
  pub update : (id : PostId) (from : Actor) (epoch : Epoch) (g : RegionId) (u : Update) (r : Replica)
      → input ≡ Deliver id from (a_message.Update epoch g u) → if_installed (replica_for s g) ≡ Some r
      → hears_update s.config u (place_number r.region u.places) s.id from ≡ true
      → P (at_slot s r (state_in space r u.key) (update_step (context_of space s r.region) (state_in space r u.key) u))
  pub ack : (id : PostId) (from : Actor) (epoch : Epoch) (g by : RegionId) (key : List ℕ) (v : Version) (r : Replica) (u : Update)
      → input ≡ Deliver id from (a_message.Ack epoch g by key v) → if_installed (replica_for s g) ≡ Some r
      → pending_with v.0 (state_in space r key) ≡ Some u → hears_ack s.config u (place_number r.region u.places) s.id from by ≡ true
      → P (at_slot s r (state_in space r key) (ack_step (context_of space s r.region) (state_in space r key) v.0))
  pub ask : (id : PostId) (from : Actor) (epoch : Epoch) (number : ℕ) (g : RegionId) (terms : List Term) (r : Replica)
      → input ≡ Deliver id from (a_message.Ask epoch number g terms) → if_installed (replica_for s g) ≡ Some r
      → lists_ready s.config r.region s.id ≡ true
      → P (saying s (post (Server s.id) from (a_message.Found epoch number r.region (found_in r.region terms r.states)) ∷ []))
  pub ready : (id : PostId) (from : Actor) (epoch : Epoch) (g : RegionId) (snapshot : List Kept) (pending : List Update) (r : Replica)
      → input ≡ Deliver id from (a_message.Snap epoch g snapshot pending) → replica_for s g ≡ Some r → hears_snap s.config r.region s.id from ≡ true
      → r.installed ≡ true → P (saying s (ready_post s r.region))
  pub installs : (id : PostId) (from : Actor) (epoch : Epoch) (g : RegionId) (snapshot : List Kept) (pending : List Update) (r : Replica)
      → input ≡ Deliver id from (a_message.Snap epoch g snapshot pending) → replica_for s g ≡ Some r → hears_snap s.config r.region s.id from ≡ true
      → r.installed ≡ false → P (with_slots s r (installed_slots (context_of space s r.region) snapshot pending))
  pub adopts : (id : PostId) (from : Actor) (config : Config) → input ≡ Deliver id from (a_message.Install config)
      → s.config.epoch.0 < config.epoch.0 → P (adopted space (with_config s config))

-- so it is of each step
pub server-cases : (space : Space) (s : ServerState) (input : Input) (P : ServerStep → Type 0) → ServerCases space s input P → P (server_step space s input)
server-cases space s input P c = cond_both s.halted (unmoved s) (input_step space s input) P (λ h. c.rests) (λ h. by input c)
  where
    calls : (id : PostId) (from : Actor) (epoch : Epoch) (number : ℕ) (op : Op)
        → ServerCases space s (Deliver id from (a_message.Call epoch number op)) P → P (called_by space s from number op)
    calls id (Session u) epoch number op c = of (key_of op) refl
      where
        at : (key : List ℕ) → key_of op ≡ Some key → (o : Option Replica) → replica_for s (key_region space key) ≡ o
            → P (when_some o (unmoved s) (λ (r : Replica). call_at space s r key (record { session = u; number = number }) op))
        at key z None e = c.rests
        at key z (Some r) e = cond_both (leads space s.config s.id r.region) _ (unmoved s) P (λ l. c.call id u epoch number op key r refl z e l) (λ l. c.rests)

        of : (o : Option (List ℕ)) → key_of op ≡ o → P (called space s (record { session = u; number = number }) op o)
        of None z = c.rests
        of (Some key) z = at key z (replica_for s (key_region space key)) refl
    calls id other epoch number op c = c.rests

    updates : (id : PostId) (from : Actor) (epoch : Epoch) (g : RegionId) (u : Update) → ServerCases space s (Deliver id from (a_message.Update epoch g u)) P
        → (o : Option Replica) → if_installed (replica_for s g) ≡ o → P (updated space s from u o)
    updates id from epoch g u c None e = c.rests
    updates id from epoch g u c (Some r) e =
        cond_both (hears_update s.config u (place_number r.region u.places) s.id from) _ (unmoved s) P
        (λ t. c.update id from epoch g u r refl e t) (λ t. c.rests)

    acks : (id : PostId) (from : Actor) (epoch : Epoch) (g by : RegionId) (key : List ℕ) (v : Version)
        → ServerCases space s (Deliver id from (a_message.Ack epoch g by key v)) P
        → (o : Option Replica) → if_installed (replica_for s g) ≡ o → P (acked space s from key v.0 by o)
    acks id from epoch g by key v c None e = c.rests
    acks id from epoch g by key v c (Some r) e = of (pending_with v.0 (state_in space r key)) refl
      where
        of : (o : Option Update) → pending_with v.0 (state_in space r key) ≡ o → P (acked_of space s from by r (state_in space r key) v.0 o)
        of None f = c.rests
        of (Some u) f =
            cond_both (hears_ack s.config u (place_number r.region u.places) s.id from by) _ (unmoved s) P
            (λ t. c.ack id from epoch g by key v r u refl e f t) (λ t. c.rests)

    asks : (id : PostId) (from : Actor) (epoch : Epoch) (number : ℕ) (g : RegionId) (terms : List Term)
        → ServerCases space s (Deliver id from (a_message.Ask epoch number g terms)) P
        → (o : Option Replica) → if_installed (replica_for s g) ≡ o → P (asked s from epoch number terms o)
    asks id from epoch number g terms c None e = c.rests
    asks id from epoch number g terms c (Some r) e = of (lists_ready s.config r.region s.id) refl
      where
        of : (b : Bool) → lists_ready s.config r.region s.id ≡ b
            → P (saying s (provided b (post (Server s.id) from (a_message.Found epoch number r.region (found_in r.region terms r.states)) ∷ [])))
        of true t = c.ask id from epoch number g terms r refl e t
        of false t = c.rests

    snaps : (id : PostId) (from : Actor) (epoch : Epoch) (g : RegionId) (snapshot : List Kept) (pending : List Update)
        → ServerCases space s (Deliver id from (a_message.Snap epoch g snapshot pending)) P
        → (o : Option Replica) → replica_for s g ≡ o → P (snapped space s from snapshot pending o)
    snaps id from epoch g snapshot pending c None e = c.rests
    snaps id from epoch g snapshot pending c (Some r) e = of (hears_snap s.config r.region s.id from) refl
      where
        now : ServerStep
        now = saying s (ready_post s r.region)

        joined : ServerStep
        joined = with_slots s r (installed_slots (context_of space s r.region) snapshot pending)

        of : (b : Bool) → hears_snap s.config r.region s.id from ≡ b → P (cond (not b) (unmoved s) (cond r.installed now joined))
        of false t = c.rests
        of true t =
            cond_both r.installed now joined P
            (λ i. c.ready id from epoch g snapshot pending r refl e t i) (λ i. c.installs id from epoch g snapshot pending r refl e t i)

    by-message : (id : PostId) (from : Actor) (m : Message) → ServerCases space s (Deliver id from m) P → P (message_step space s from m)
    by-message id from (a_message.Call epoch number op) c = c.met epoch _ (calls id from epoch number op c)
    by-message id from (a_message.Update epoch g u) c = c.met epoch _ (updates id from epoch g u c (if_installed (replica_for s g)) refl)
    by-message id from (a_message.Ack epoch g by key v) c = c.met epoch _ (acks id from epoch g by key v c (if_installed (replica_for s g)) refl)
    by-message id from (a_message.Ask epoch number g terms) c = c.met epoch _ (asks id from epoch number g terms c (if_installed (replica_for s g)) refl)
    by-message id from (a_message.Install config) c =
        cond_both (ltb s.config.epoch.0 config.epoch.0) _ (unmoved s) P
        (λ t. c.adopts id from config refl (ltb-true s.config.epoch.0 config.epoch.0 t)) (λ t. c.rests)
    by-message id from a_message.Die c = c.dies id from refl
    by-message id from (a_message.Snap epoch g snapshot pending) c = c.met epoch _ (snaps id from epoch g snapshot pending c (replica_for s g) refl)
    by-message id from other c = c.rests

    by : (input : Input) → ServerCases space s input P → P (input_step space s input)
    by Tick c = c.ticks
    by Halt c = c.halts refl
    by (Deliver id from m) c = by-message id from m c
