-- What a server asks of a slot when it takes a message.
use Rattle.std.proofs.Common.{◌≡◌, ℕ, suc, ◌+◌, ◌<◌, ◌≤◌, Bool, true, false, not, ◌&&◌, ◌||◌, cond, List, [], ◌∷◌}
use Rattle.std.proofs.Common.{length, Option, Some, refl, ap, sym, ◌∙◌, subst, arith, inl, inr}
use Rattle.std.specs.List.{All, AllByRecursion, slice_get}
use Rattle.std.proofs.lemmas.Bool.{and_parts, cond_both, false≢true}
use Rattle.std.proofs.lemmas.Option.{same_Some}
use Rattle.hx_model.specs.Types.{Actor, Epoch, Message, Place, RegionId, Update}
use Rattle.hx_types.specs.declared.messages.Message.TheVariants as a_message
use Rattle.hx_types.specs.Configs.{is_lost}
use Rattle.hx_types.specs.Posts.{IsSoundMessage, has_place_in}
use Rattle.hx_types.specs.Subspaces.{is_key_region}
use Rattle.hx_types.specs.Words.{IsIn, same_region, same_text}
use Rattle.hx_types.specs.declared.limits.TheConstants.{GREATEST_NUMBER, MOST_PLACES}
use Rattle.hx_model.proofs.Lemmas.{eq_of_same_text}
use Rattle.hx_model.specs.Neighbours.{place_number}
use Rattle.hx_model.specs.Regions.{key_region}
use Rattle.hx_model.specs.ServerSteps.{Replica, replica_of, state_in}
use Rattle.hx_model.specs.Slots.{KeyState, state_among, top_of}
use Rattle.hx_slot.specs.States.{IsPlacedIn}
use Rattle.hx_replica.specs.Hearing.{leading}
use Rattle.hx_replica.specs.Outputs.{IsLeading}
use Rattle.hx_replica.specs.Plans.{CanHear}
use Rattle.hx_replica.specs.Servers.{HasSmallVersions, ServerValue}
use Rattle.hx_replica.proofs.Hearing.{led, replica_for_found}

-- the slot of a key has that key
pub state_key : (marks : Bool) (key : List ℕ) (states : List KeyState) → (state_among marks key states).base.key ≡ key
state_key marks key [] = refl
state_key marks key (s ∷ rest) =
    cond_both (same_text s.base.key key) s (state_among marks key rest) (λ (t : KeyState). t.base.key ≡ key)
    (λ e. eq_of_same_text s.base.key key e)
    (λ e. state_key marks key rest)

-- it keeps marks as the others do
pub state_marks : (marks : Bool) (key : List ℕ) (states : List KeyState)
    → AllByRecursion (λ (t : KeyState). t.marks ≡ marks) states → (state_among marks key states).marks ≡ marks
state_marks marks key [] h = refl
state_marks marks key (s ∷ rest) h =
    cond_both (same_text s.base.key key) s (state_among marks key rest) (λ (t : KeyState). t.marks ≡ marks)
    (λ e. h.0)
    (λ e. state_marks marks key rest h.1)

state_small : (marks : Bool) (key : List ℕ) (states : List KeyState)
    → ((t : KeyState) → IsIn t states → top_of t ≤ GREATEST_NUMBER) → top_of (state_among marks key states) ≤ GREATEST_NUMBER
state_small marks key [] h = omega arith
state_small marks key (s ∷ rest) h =
    cond_both (same_text s.base.key key) s (state_among marks key rest) (λ (t : KeyState). top_of t ≤ GREATEST_NUMBER)
    (λ e. h s (inl refl))
    (λ e. state_small marks key rest (λ t i. h t (inr i)))

found_in_list : (g : RegionId) (rs : List Replica) (r : Replica) → replica_of g rs ≡ Some r → IsIn r rs
found_in_list g [] r e = absurd cc
found_in_list g (x ∷ rest) r e =
    cond_both (same_region x.region g) (Some x) (replica_of g rest) (λ (o : Option Replica). o ≡ Some r → IsIn r (x ∷ rest))
    (λ t k. inl (sym (same_Some x r k)))
    (λ t k. inr (found_in_list g rest r k))
    e

pub placed : (g : RegionId) (places : List Place) → has_place_in g places ≡ true → place_number g places < length places
placed g [] e = absurd (false≢true e)
placed g (p ∷ rest) e = by (same_region p.region g) (placed g rest) e
  where
    by : (t : Bool) → (has_place_in g rest ≡ true → place_number g rest < length rest)
        → (t || has_place_in g rest) ≡ true → cond t 0 (place_number g rest + 1) < suc (length rest)
    by true more e = omega arith
    by false more e = let h = more e in omega (arith, h)

-- the slots of each replica keep marks at a key region
abbrev pub AreMarked : ServerValue → Type 0
AreMarked v = (place : ℕ) (r : Replica) → slice_get v.state.replicas place ≡ Some r
    → AllByRecursion (λ (t : KeyState). t.marks ≡ is_key_region v.space r.region) r.states

-- the slot of a key at its leader
pub slot_leads : (v : ServerValue) (key : List ℕ) (place : ℕ) (r : Replica) → AreMarked v → HasSmallVersions v.state → leading v.space v.state key ≡ Some r
    → slice_get v.state.replicas place ≡ Some r → IsLeading v.space r.region (state_in v.space r key)
slot_leads v key place r marked small e at =
    let l = led v.space v.state key r e in
    let g : RegionId = key_region v.space key in
    let first = and_parts (is_key_region v.space g && not (is_lost v.state.config g)) _ l.leads_it in
    let second = and_parts (is_key_region v.space g) (not (is_lost v.state.config g)) first.0 in
    let marks : Bool = is_key_region v.space r.region in
    record {
      marks = state_marks marks key r.states (marked place r at) ∙ ap (is_key_region v.space) l.region ∙ second.0;
      region = l.region ∙ ap (key_region v.space) (sym (state_key marks key r.states));
      small = state_small marks key r.states (small r (found_in_list g v.state.replicas r (replica_for_found v.state g r l.takes)));
    }

-- an update that a server can take, at the replica of its region
pub record IsUpdateTo (g : RegionId) (u : Update) : Type 0 where
  pub placed : IsPlacedIn g u
  pub few : length u.places ≤ MOST_PLACES
  pub after : All (λ (p : Place). p.after.0 < u.version.0) u.places

pub update_taken : (v : ServerValue) (from : Actor) (m : Message) (epoch : Epoch) (g : RegionId) (u : Update)
    → CanHear v.space v.state from m → m ≡ a_message.Update epoch g u → IsUpdateTo g u
update_taken v from m epoch g u hears is =
    let sound = hears.can.input_to in
    let h = subst (IsSoundMessage (record { space = v.space; sessions = sound.sessions; most = sound.entry + 1 })) is sound.sound.message in
    record { placed = placed g u.places h.3; few = h.2.of_space.few; after = h.2.of_space.after }
