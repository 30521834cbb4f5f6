-- A turn of an actor is the step that asked for it, and what bars it is the fault of the step.
use Rattle.std.proofs.Common.{◌≡◌, true, false, Bool, List, Option, None, Some, cond, sym, ap, ◌∙◌, subst}
use Rattle.std.specs.Option.{option_map}
use Rattle.std.proofs.lemmas.Bool.{false≢true}
use Rattle.hx_model.specs.Types.{Actor, Deliver, Entry, Input, Post, PostId, Script, Tick}
use Rattle.hx_types.specs.declared.traces.Step.TheVariants as a_step
use Rattle.hx_types.specs.Words.{first_some, when_some}
use Rattle.hx_model.specs.Runs.{MayTake, has_halted, made_of, does_something, post_named}
use Rattle.hx_model.specs.Schedule as model
use Rattle.hx_model.specs.Schedule.{StepFault, delivery_of, entry_by, fault_of, idle_fault, is_worn, halted_fault, with_entry, worn_fault}
use Rattle.hx_world.specs.declared.ends.StepError.{StepError}
use Rattle.hx_world.specs.declared.ends.StepError.TheVariants.{Memory, Unsent, Halted, NotServer, Idle, Worn}
use Rattle.hx_world.specs.Turns.{HasNoTurn, HasTurn}
use Rattle.hx_world.specs.Worlds.{Refuses, Steps}

module _ (script : Script) (t : List Entry) where
  -- a delivery to an actor that hasn't halted has only a worn receiver in its way
  delivery_fault : (id : PostId) (p : Post) → post_named id t ≡ Some p → has_halted script t p.to ≡ false
      → fault_of script t (a_step.Deliver id) ≡ worn_fault t p.to
  delivery_fault id p named running =
      ap (λ (o : Option Post). when_some o (Some model.Unsent) (λ (x : Post). first_some (halted_fault script t x.to) (worn_fault t x.to))) named
      ∙ ap (λ (b : Bool). first_some (cond b (Some model.Halted) None) (worn_fault t p.to)) running

  delivery_halted : (id : PostId) (p : Post) → post_named id t ≡ Some p → has_halted script t p.to ≡ true
      → fault_of script t (a_step.Deliver id) ≡ Some model.Halted
  delivery_halted id p named halted =
      ap (λ (o : Option Post). when_some o (Some model.Unsent) (λ (x : Post). first_some (halted_fault script t x.to) (worn_fault t x.to))) named
      ∙ ap (λ (b : Bool). first_some (cond b (Some model.Halted) None) (worn_fault t p.to)) halted

  tick_fault : (a : Actor) → has_halted script t a ≡ false → fault_of script t (a_step.Tick a) ≡ first_some (idle_fault script t a) (worn_fault t a)
  tick_fault a running = ap (λ (b : Bool). first_some (cond b (Some model.Halted) None) (first_some (idle_fault script t a) (worn_fault t a))) running

  tick_halted : (a : Actor) → has_halted script t a ≡ true → fault_of script t (a_step.Tick a) ≡ Some model.Halted
  tick_halted a halted = ap (λ (b : Bool). first_some (cond b (Some model.Halted) None) (first_some (idle_fault script t a) (worn_fault t a))) halted

  not_worn : (a : Actor) → is_worn a t ≡ false → worn_fault t a ≡ None
  not_worn a e = ap (λ (b : Bool). cond b (Some (model.Worn a)) None) e

  worn : (a b : Actor) → is_worn a t ≡ true → b ≡ a → worn_fault t a ≡ Some (model.Worn b)
  worn a b e same = ap (λ (x : Bool). cond x (Some (model.Worn a)) None) e ∙ ap (λ (x : Actor). Some (model.Worn x)) (sym same)

  not_idle : (a : Actor) → does_something Tick (made_of script t a Tick) ≡ true → idle_fault script t a ≡ None
  not_idle a e = ap (λ (b : Bool). cond b None (Some model.Idle)) e

  idle : (a : Actor) → does_something Tick (made_of script t a Tick) ≡ false → idle_fault script t a ≡ Some model.Idle
  idle a e = ap (λ (b : Bool). cond b None (Some model.Idle)) e

  -- a delivery that was made
  pub delivered : (new : List Entry) (id : PostId) (p : Post) → post_named id t ≡ Some p
      → HasTurn script t new p.to (Deliver id p.from p.message) → Steps script t new (a_step.Deliver id)
  delivered new id p named h = record {
    possible = delivery_fault id p named h.running ∙ not_worn p.to h.fresh;
    trace = h.trace ∙ sym (ap (λ (o : Option Post). with_entry t (option_map (entry_by script t) (option_map (delivery_of id) o))) named);
  }

  -- and one that was not
  pub not_delivered : (id : PostId) (p : Post) → post_named id t ≡ Some p → (e : StepError)
      → HasNoTurn script t p.to (Deliver id p.from p.message) e → Refuses script t (a_step.Deliver id) e
  not_delivered id p named Memory h = tt
  not_delivered id p named Unsent h = absurd h
  not_delivered id p named Halted h = delivery_halted id p named h
  not_delivered id p named NotServer h = absurd h
  not_delivered id p named Idle h = absurd (false≢true (sym h.nothing))
  not_delivered id p named (Worn b) h = delivery_fault id p named h.running ∙ worn p.to b h.worn h.actor

  -- a post that wasn't sent
  pub unsent : (id : PostId) → post_named id t ≡ None → fault_of script t (a_step.Deliver id) ≡ Some model.Unsent
  unsent id none = ap (λ (o : Option Post). when_some o (Some model.Unsent) (λ (x : Post). first_some (halted_fault script t x.to) (worn_fault t x.to))) none

  -- a tick that was made
  pub ticked : (new : List Entry) (a : Actor) → HasTurn script t new a Tick → Steps script t new (a_step.Tick a)
  ticked new a h = record {
    possible = tick_fault a h.running ∙ ap (λ (o : Option StepFault). first_some o (worn_fault t a)) (not_idle a h.enough) ∙ not_worn a h.fresh;
    trace = h.trace;
  }

  -- and one that was not
  pub not_ticked : (a : Actor) (e : StepError) → HasNoTurn script t a Tick e → Refuses script t (a_step.Tick a) e
  not_ticked a Memory h = tt
  not_ticked a Unsent h = absurd h
  not_ticked a Halted h = tick_halted a h
  not_ticked a NotServer h = absurd h
  not_ticked a Idle h = tick_fault a h.running ∙ ap (λ (o : Option StepFault). first_some o (worn_fault t a)) (idle a h.nothing)
  not_ticked a (Worn b) h = tick_fault a h.running
      ∙ ap (λ (o : Option StepFault). first_some o (worn_fault t a)) (not_idle a h.enough) ∙ worn a b h.worn h.actor

-- the input is the delivery of the post
pub may_take : (t : List Entry) (id : PostId) (p : Post) (input : Input) → post_named id t ≡ Some p → input ≡ Deliver id p.from p.message → MayTake t p.to input
may_take t id p input named is = subst (MayTake t p.to) (sym is) named
