-- Which replica takes a message, and what the slot makes to which it goes.
use Rattle.std.proofs.Common.{◌≡◌, ℕ, Bool, true, false, cond, List, [], ◌∷◌, Option, None, Some, refl, ap, sym, ◌∙◌, subst}
use Rattle.std.proofs.lemmas.Bool.{cond_both, cond-true, cond-false, eqb-true}
use Rattle.std.proofs.lemmas.Option.{same_Some}
use Rattle.hx_model.specs.Types.{Actor, Caller, Config, Op, RegionId, ServerId, Space, Update}
use Rattle.hx_types.specs.Configs.{leads}
use Rattle.hx_types.specs.Words.{same_region, when_some}
use Rattle.hx_model.specs.Regions.{key_region}
use Rattle.hx_model.specs.Hearing.{hears_ack, hears_update}
use Rattle.hx_model.specs.Neighbours.{place_number}
use Rattle.hx_model.specs.ServerSteps.{Replica, ServerState, SlotContext, ack_step, acked, acked_of, at_slot, call_at}
use Rattle.hx_model.specs.ServerSteps.{call_step, called, context_of, if_installed, pending_with, replica_for}
use Rattle.hx_model.specs.ServerSteps.{replica_of, state_in, unmoved, update_step, updated}
use Rattle.hx_model.specs.Slots.{KeyState}
use Rattle.hx_replica.specs.Hearing.{leading}
use Rattle.hx_replica.specs.Outputs.{hears_version}

same_number : (a b : RegionId) → same_region a b ≡ true → a ≡ b
same_number a b e = let f : ℕ → RegionId = λ n. record { 0 = n } in ap f (eqb-true a.0 b.0 e)

-- the replica that is found of a region is the region's
pub found_region : (g : RegionId) (rs : List Replica) (r : Replica) → replica_of g rs ≡ Some r → r.region ≡ g
found_region g [] r e = absurd cc
found_region g (x ∷ rest) r e =
    cond_both (same_region x.region g) (Some x) (replica_of g rest) (λ (o : Option Replica). o ≡ Some r → r.region ≡ g)
    (λ t k. ap (λ (y : Replica). y.region) (sym (same_Some x r k)) ∙ same_number x.region g t)
    (λ t k. found_region g rest r k)
    e

unless_some : (b : Bool) (o : Option Replica) (r : Replica) → cond b None o ≡ Some r → o ≡ Some r
unless_some true o r e = absurd cc
unless_some false o r e = e

if_some : (b : Bool) (o : Option Replica) (r : Replica) → cond b o None ≡ Some r → (b ≡ true) × (o ≡ Some r)
if_some true o r e = (refl, e)
if_some false o r e = absurd cc

if_none : (b : Bool) (r : Replica) → cond b (Some r) None ≡ None → b ≡ false
if_none true r e = absurd cc
if_none false r e = refl

-- what takes messages for a region is its replica
pub replica_for_found : (s : ServerState) (g : RegionId) (r : Replica) → replica_for s g ≡ Some r → replica_of g s.replicas ≡ Some r
replica_for_found s g r e = unless_some _ (replica_of g s.replicas) r e

pub installed_some : (o : Option Replica) (r : Replica) → if_installed o ≡ Some r → o ≡ Some r
installed_some None r e = e
installed_some (Some x) r e = (if_some x.installed (Some x) r e).1

-- a call goes to a replica where the server leads the key's region
pub record IsLed (space : Space) (s : ServerState) (key : List ℕ) (r : Replica) : Type 0 where
  pub leads_it : leads space s.config s.id (key_region space key) ≡ true
  pub takes : replica_for s (key_region space key) ≡ Some r
  pub region : r.region ≡ key_region space key

pub led : (space : Space) (s : ServerState) (key : List ℕ) (r : Replica) → leading space s key ≡ Some r → IsLed space s key r
led space s key r e =
    let both = if_some (leads space s.config s.id (key_region space key)) (replica_for s (key_region space key)) r e in
    record {
      leads_it = both.0;
      takes = both.1;
      region =
          found_region (key_region space key) s.replicas r (replica_for_found s (key_region space key) r both.1);
    }

-- where the server doesn't lead the key's region, a call moves nothing
not_led : (space : Space) (s : ServerState) (caller : Caller) (op : Op) (key : List ℕ) (h : Option Replica) → replica_for s (key_region space key) ≡ h
    → cond (leads space s.config s.id (key_region space key)) h None ≡ None
    → when_some h (unmoved s) (λ (x : Replica). call_at space s x key caller op) ≡ unmoved s
not_led space s caller op key None is e = refl
not_led space s caller op key (Some r) is e =
    let region = found_region (key_region space key) s.replicas r (replica_for_found s (key_region space key) r is) in
    cond-false (leads space s.config s.id r.region) _ (unmoved s)
    (ap (leads space s.config s.id) region ∙ if_none (leads space s.config s.id (key_region space key)) r e)

pub called_nowhere : (space : Space) (s : ServerState) (caller : Caller) (op : Op) (key : List ℕ)
    → leading space s key ≡ None → called space s caller op (Some key) ≡ unmoved s
called_nowhere space s caller op key e = not_led space s caller op key (replica_for s (key_region space key)) refl e

-- ---- the slot of a key at a replica, which stands so, and is so

module _ (space : Space) (s : ServerState) (r : Replica) (x : SlotContext) (stands : x ≡ context_of space s r.region) where
  -- a call
  pub called_there : (caller : Caller) (op : Op) (key : List ℕ) (state : KeyState) → state ≡ state_in space r key → leading space s key ≡ Some r
      → called space s caller op (Some key) ≡ at_slot s r state (call_step x state caller op)
  called_there caller op key state same e =
      let l = led space s key r e in
      ap (λ (o : Option Replica). when_some o (unmoved s) (λ (y : Replica). call_at space s y key caller op)) l.takes
      ∙ cond-true (leads space s.config s.id r.region) _ (unmoved s) (ap (leads space s.config s.id) l.region ∙ l.leads_it)
      ∙ ap (λ (t : KeyState). at_slot s r t (call_step (context_of space s r.region) t caller op)) (sym same)
      ∙ ap (λ (y : SlotContext). at_slot s r state (call_step y state caller op)) (sym stands)

  -- an update that is heard, and one that isn't
  module _ (from : Actor) (u : Update) where
    pub updated_there : (state : KeyState) → state ≡ state_in space r u.key → hears_update x.config u (place_number x.region u.places) x.server from ≡ true
        → updated space s from u (Some r) ≡ at_slot s r state (update_step x state u)
    updated_there state same h =
        cond-true (hears_update s.config u (place_number r.region u.places) s.id from) _ (unmoved s)
        (subst (λ (y : SlotContext). hears_update y.config u (place_number y.region u.places) y.server from ≡ true) stands h)
        ∙ ap (λ (t : KeyState). at_slot s r t (update_step (context_of space s r.region) t u)) (sym same)
        ∙ ap (λ (y : SlotContext). at_slot s r state (update_step y state u)) (sym stands)

    pub updated_nowhere : hears_update x.config u (place_number x.region u.places) x.server from ≡ false → updated space s from u (Some r) ≡ unmoved s
    updated_nowhere h =
        cond-false (hears_update s.config u (place_number r.region u.places) s.id from) _ (unmoved s)
        (subst (λ (y : SlotContext). hears_update y.config u (place_number y.region u.places) y.server from ≡ false) stands h)

  -- an acknowledgement
  module _ (from : Actor) (by : RegionId) (key : List ℕ) (v : ℕ) (state : KeyState) (same : state ≡ state_in space r key) where
    acked_so : (o : Option Update) → acked_of space s from by r state v o
        ≡ cond (hears_version (context_of space s r.region) from by o)
        (at_slot s r state (ack_step (context_of space s r.region) state v)) (unmoved s)
    acked_so None = refl
    acked_so (Some u) = refl

    acked_is : acked space s from key v by (Some r) ≡ cond (hears_version x from by (pending_with v state)) (at_slot s r state (ack_step x state v)) (unmoved s)
    acked_is =
        ap (λ (t : KeyState). acked_of space s from by r t v (pending_with v t)) (sym same)
        ∙ acked_so (pending_with v state)
        ∙ ap (λ (y : SlotContext). cond (hears_version y from by (pending_with v state)) (at_slot s r state (ack_step y state v)) (unmoved s)) (sym stands)

    pub acked_there : hears_version x from by (pending_with v state) ≡ true → acked space s from key v by (Some r) ≡ at_slot s r state (ack_step x state v)
    acked_there h = acked_is ∙ cond-true (hears_version x from by (pending_with v state)) _ (unmoved s) h

    pub acked_nowhere : hears_version x from by (pending_with v state) ≡ false → acked space s from key v by (Some r) ≡ unmoved s
    acked_nowhere h = acked_is ∙ cond-false (hears_version x from by (pending_with v state)) _ (unmoved s) h

-- whether an update is heard, by the number of its place
pub heard_there : (config : Config) (g : RegionId) (s : ServerId) (from : Actor) (u a b : Update) (place : ℕ) (found answer : Bool) → a ≡ u → b ≡ u
    → place ≡ place_number g a.places → found ≡ hears_update config b place s from → found ≡ answer
    → hears_update config u (place_number g u.places) s from ≡ answer
heard_there config g s from u a b place found answer first second at is so =
    ap (λ (n : ℕ). hears_update config u n s from) (sym (at ∙ ap (λ (x : Update). place_number g x.places) first))
    ∙ ap (λ (x : Update). hears_update config x place s from) (sym second) ∙ sym is ∙ so

-- and an acknowledgement
pub ack_heard_there : (config : Config) (g : RegionId) (s : ServerId) (from : Actor) (by : RegionId) (u a b : Update)
    (place : ℕ) (found answer : Bool) → a ≡ u → b ≡ u
    → place ≡ place_number g a.places → found ≡ hears_ack config b place s from by → found ≡ answer
    → hears_ack config u (place_number g u.places) s from by ≡ answer
ack_heard_there config g s from by u a b place found answer first second at is so =
    ap (λ (n : ℕ). hears_ack config u n s from by) (sym (at ∙ ap (λ (x : Update). place_number g x.places) first))
    ∙ ap (λ (x : Update). hears_ack config x place s from by) (sym second) ∙ sym is ∙ so
