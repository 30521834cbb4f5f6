-- Steps of a bundle, each taken in its world.
use Rattle.std.proofs.Common.{◌≡◌, ℕ, Bool, true, false, List, [], ◌∷◌, ◌++◌, length, map, refl, sym, ap, ◌∙◌, subst, ltb, leb}
use Rattle.std.proofs.lemmas.Bool.{and_from, eqb-true, le-leb, lt-ltb}
use Rattle.std.specs.Option.{option_map}
use Rattle.std.specs.Prelude.{◌==◌, IfErr, IsSomeAnd, OnOk, if◌then◌else◌, is_none, Option, Some, None, Result, Ok, Err, reverse, slice_get, slice_set}
use Rattle.std.specs.List.{All}
use Rattle.hx_model.specs.Types.{Actor, Coordinator, Entry, Halt, Post, Script, Server, Session, Step, Tick}
use Rattle.hx_types.specs.declared.traces.Step.TheVariants as a_step
use Rattle.hx_types.specs.Words.{first_some, when_some}
use Rattle.hx_model.specs.Runs.{is_actor, post_named}
use Rattle.hx_model.specs.Schedule as a_fault
use Rattle.hx_model.specs.Schedule.{Next, StepFault, delivery_of, entry_by, fault_of, halted_fault, is_idle, step_input, with_entry, worn_fault}
use Rattle.hx_world.specs.Worlds as world
use Rattle.hx_world.specs.Worlds.{IsStepOf, WorldState}
use Rattle.hx_world.specs.Nexts.{Makes}
use Rattle.hx_world.specs.declared.ends.StepError.{StepError}
use Rattle.hx_world.specs.declared.ends.StepError.TheVariants as an_error
use Rattle.hx_bundle.specs.declared.bundles.Bundle.{Bundle}
use Rattle.hx_bundle.specs.Bundles.{HasActor, HasStep}
use Rattle.hx_spaces.specs.Clusters.{IsCourse}
use Rattle.hx_spaces.specs.Courses.{Course, Turn, newest, next_space, with_turn}
use Rattle.hx_spaces.specs.Keeping.{IsKept, IsShort, counted, course_of}
use Rattle.hx_spaces.specs.Stepping.{IsStepAt, Refuses, Steps, beginner, bundle_fault, is_turn_of, turn_by, turn_fault}
use Rattle.hx_spaces.specs.Walks.{CanStep, RefusesAt, StepsAt}
use Rattle.hx_spaces.proofs.Deliveries.{runs-set, with-entry}
use Rattle.hx_spaces.proofs.Keeping.{IsFair, kept_after, shown}
use Rattle.hx_spaces.proofs.Places.{get-map, none-some, set-map, some-same, within}
use Rattle.hx_spaces.proofs.Seats.{run-at, world-of}
use Rattle.hx_spaces.proofs.Starts.{begins_by}

-- ---- the actors of a step

has-actor : (script : Script) (a : Actor) → HasActor script a → is_actor script a ≡ true
has-actor script Coordinator h = refl
has-actor script (Server s) h = and_from (ltb 0 s.0) (leb s.0 script.space.servers) (lt-ltb 0 s.0 h.0) (le-leb s.0 script.space.servers h.1)
has-actor script (Session u) h = and_from (ltb 0 u.0) (leb u.0 (length script.sessions)) (lt-ltb 0 u.0 h.0) (le-leb u.0 (length script.sessions) h.1)

step-of : (script : Script) (step : Step) → HasStep script step → IsStepOf script step
step-of script (a_step.Deliver id) h = tt
step-of script (a_step.Tick a) h = has-actor script a h
step-of script (a_step.Halt a) h = has-actor script a h

some-and : {A : Type 0} (o : Option A) (P : A → Type 0) → IsSomeAnd o P → (x : A) × (o ≡ Some x) × P x
some-and None P h = absurd h
some-and (Some x) P h = (x, refl, h)

-- the world of a step can take it
pub can_step : (bundle : Bundle) (worlds : List WorldState) (order : List ℕ) (k : ℕ) (step : Step)
    → IsCourse (course_of bundle worlds order) → IsStepAt bundle k step → CanStep worlds k step
can_step bundle worlds order k step i h =
    let s = some-and (slice_get bundle.spaces k) (λ (script : Script). HasStep script step) h in
    let r = run-at (course_of bundle worlds order) i k (within bundle.spaces k s.0 s.1) in
    let w = world-of worlds k r.0 r.1 in
    let script : w.0.script ≡ s.0 =
    some-same (sym (get-map (λ (x : WorldState). x.script) (map newest worlds) k (newest w.0)
    (get-map newest worlds k w.0 w.1)) ∙ ap (λ (l : List Script). slice_get l k) i.scripts ∙ s.1) in
    record {
      world = w.0;
      stands = w.1;
      step_of = subst (λ (x : Script). IsStepOf x step) (sym script) (step-of s.0 step s.2);
    }

-- ---- the world of a space

-- a step that can be taken is one of an actor
has-input : (script : Script) (t : List Entry) (step : Step) → fault_of script t step ≡ None → (next : Next) × (step_input t step ≡ Some next)
has-input script t (a_step.Tick a) h = (record { actor = a; input = Tick }, refl)
has-input script t (a_step.Halt a) h = (record { actor = a; input = Halt }, refl)
has-input script t (a_step.Deliver id) h = by (post_named id t) refl h where
  by : (o : Option Post) → post_named id t ≡ o → when_some o (Some a_fault.Unsent)
      (λ (p : Post). first_some (halted_fault script t p.to) (worn_fault t p.to)) ≡ None
      → (next : Next) × (option_map (delivery_of id) (post_named id t) ≡ Some next)
  by None e q = cc
  by (Some p) e q = (delivery_of id p, ap (λ (o : Option Post). option_map (delivery_of id) o) e)

pub stepped_at : (ws : List WorldState) (k : ℕ) (w w' : WorldState) (step : Step) (r : Result (Unit {0}) StepError)
    → slice_get ws k ≡ Some w → w'.script ≡ w.script
    → OnOk r (world.Steps w.script (reverse w.trace) (reverse w'.trace) step) → OnOk r (StepsAt k (map newest ws) (map newest (slice_set ws k w')) step)
stepped_at ws k w w' step (Ok u) h s t =
    let next = has-input w.script (reverse w.trace) step t.possible in
    let makes : Makes w.script (reverse w.trace) (reverse w'.trace) next.0 =
    t.trace ∙ ap (λ (o : Option Next). with_entry (reverse w.trace)
    (option_map (entry_by w.script (reverse w.trace)) o)) next.1 in
    record {
      run = newest w;
      stands = get-map newest ws k w h;
      possible = t.possible;
      next = next.0;
      input = next.1;
      made = set-map newest ws k w' ∙ ap (λ (x : WorldState). slice_set (map newest ws) k x) (with-entry w w' next.0 s makes)
          ∙ sym (runs-set (map newest ws) k (newest w) next.0 (get-map newest ws k w h));
    }
stepped_at ws k w w' step (Err e) h s t = tt

pub not_stepped : (ws : List WorldState) (k : ℕ) (w : WorldState) (step : Step) (r : Result (Unit {0}) StepError) → slice_get ws k ≡ Some w
    → IfErr r (world.Refuses w.script (reverse w.trace) step) → IfErr r (RefusesAt k (map newest ws) step)
not_stepped ws k w step (Ok u) h f = tt
not_stepped ws k w step (Err e) h f = record { run = newest w; stands = get-map newest ws k w h; why = f }

-- ---- the space of a step

pub none-there : {A : Type 0} (o : Option A) → is_none o ≡ true → o ≡ None
none-there None e = refl
none-there (Some x) e = cc

-- where no turn is at fault, the session has its turn there
pub has-turn : (c : Course) (k place : ℕ) (o : Option ℕ) → turn_fault c k o ≡ None → o ≡ Some place → next_space c.bundle c.runs place ≡ Some k
has-turn c k place None h e = absurd (none-some place e)
has-turn c k place (Some p) h e = subst (λ m. next_space c.bundle c.runs m ≡ Some k) (some-same e) (by (next_space c.bundle c.runs p) refl h) where
  by : (o : Option ℕ) → next_space c.bundle c.runs p ≡ o
      → (if when_some o false (λ j. j == k) then None else Some a_fault.Idle) ≡ None → next_space c.bundle c.runs p ≡ Some k
  by None q f = cc
  by (Some j) q f = at (j == k) refl f where
    at : (b : Bool) → (j == k) ≡ b → (if b then None else Some a_fault.Idle) ≡ None → next_space c.bundle c.runs p ≡ Some k
    at true e' g = q ∙ ap (λ m. Some m) (eqb-true j k e')
    at false e' g = cc

-- what a step begins, its entry begins
begins-as : (r : WorldState) (step : Step) (next : Next) → step_input r.trace step ≡ Some next → begins_by r next ≡ beginner r step
begins-as r (a_step.Tick a) next h = ap (λ (n : Next). begins_by r n) (sym (some-same h))
begins-as r (a_step.Halt a) next h = ap (λ (n : Next). begins_by r n) (sym (some-same h))
begins-as r (a_step.Deliver id) next h = by (post_named id r.trace) h where
  by : (o : Option Post) → option_map (delivery_of id) o ≡ Some next → begins_by r next ≡ None
  by None e = absurd (none-some next e)
  by (Some p) e = ap (λ (n : Next). begins_by r n) (sym (some-same e))

module _ (bundle : Bundle) (worlds : List WorldState) (order : List ℕ) (k : ℕ) (step : Step) (w : WorldState) (at : slice_get worlds k ≡ Some w) where
  abbrev c : Course
  c = course_of bundle worlds order

  here : slice_get (map newest worlds) k ≡ Some (newest w)
  here = get-map newest worlds k w at

  same-run : (r : WorldState) → slice_get (map newest worlds) k ≡ Some r → r ≡ newest w
  same-run r h = some-same (sym h ∙ here)

  -- the session's turn is not here
  pub out_of_turn : is_none (turn_fault c k (beginner (newest w) step)) ≡ false → bundle_fault c k step ≡ Some a_fault.Idle
  out_of_turn e =
      ap (λ (o : Option WorldState). when_some o None (λ (r : WorldState). first_some (turn_fault c k (beginner r step)) (fault_of r.script r.trace step))) here
      ∙ ap (λ (o : Option StepFault). first_some o (fault_of w.script (reverse w.trace) step)) (idle (beginner (newest w) step) e) where
        idle : (o : Option ℕ) → is_none (turn_fault c k o) ≡ false → turn_fault c k o ≡ Some a_fault.Idle
        idle None e = cc
        idle (Some p) e = by (is_turn_of c p k) e where
          by : (b : Bool) → is_none (if b then None else Some a_fault.Idle) ≡ false → (if b then None else Some a_fault.Idle) ≡ Some a_fault.Idle
          by true q = cc
          by false q = refl

  module _ (turn : is_none (turn_fault c k (beginner (newest w) step)) ≡ true) where
    fault-is : bundle_fault c k step ≡ fault_of w.script (reverse w.trace) step
    fault-is =
        ap (λ (o : Option WorldState). when_some o None
        (λ (r : WorldState). first_some (turn_fault c k (beginner r step)) (fault_of r.script r.trace step))) here
        ∙ ap (λ (o : Option StepFault). first_some o (fault_of w.script (reverse w.trace) step)) (none-there (turn_fault c k (beginner (newest w) step)) turn)

    -- why its world refused it, its space refuses it
    pub refused_in : (e : StepError) → RefusesAt k (map newest worlds) step e → Refuses c k step e
    refused_in e r = by e (subst (λ (x : WorldState). world.Refuses x.script x.trace step e) (same-run r.run r.stands) r.why) where
      by : (e : StepError) → world.Refuses w.script (reverse w.trace) step e → Refuses c k step e
      by an_error.Memory f = tt
      by an_error.Unsent f = fault-is ∙ f
      by an_error.Halted f = fault-is ∙ f
      by an_error.NotServer f = fault-is ∙ f
      by an_error.Idle f = fault-is ∙ f
      by (an_error.Worn a) f = fault-is ∙ f

    module _ (new : List WorldState) (held pushed : List ℕ) (s : StepsAt k (map newest worlds) new step) where
      input : step_input (reverse w.trace) step ≡ Some s.next
      input = subst (λ (x : WorldState). step_input x.trace step ≡ Some s.next) (same-run s.run s.stands) s.input

      begins : begins_by (newest w) s.next ≡ beginner (newest w) step
      begins = begins-as (newest w) step s.next input

      abbrev fair : IsFair c k s.next
      fair = record {
        run = newest w;
        stands = here;
        fair = λ place e. has-turn c k place (beginner (newest w) step) (none-there (turn_fault c k (beginner (newest w) step)) turn) (sym begins ∙ e);
      }

    -- what the cluster keeps with it
    pub step_kept : (new : List WorldState) (held pushed begun : List ℕ)
        → StepsAt k (map newest worlds) (map newest new) step → (All IsShort worlds → All IsShort new) → IsKept c begun
        → held ≡ order → pushed ≡ held ++ k ∷ [] → IsKept (course_of bundle new pushed) (counted begun (beginner (newest w) step))
    step_kept new held pushed begun s grows i h p =
        subst (λ (o : Option ℕ). IsKept (course_of bundle new pushed) (counted begun o)) (begins (map newest new) held pushed s)
        (kept_after bundle worlds new order held pushed begun k s.next i (fair (map newest new) held pushed s) s.made grows h p)

    -- and what it leaves
    pub step_shown : (new : List WorldState) (held pushed : List ℕ)
        → StepsAt k (map newest worlds) (map newest new) step → held ≡ order → pushed ≡ held ++ k ∷ []
        → Steps c (course_of bundle new pushed) k step
    step_shown new held pushed s h p = record {
      possible = fault-is ∙ subst (λ (x : WorldState). fault_of x.script x.trace step ≡ None) (same-run s.run s.stands) s.possible;
      course = shown bundle worlds new order held pushed k s.next s.made h p ∙ sym (ap (λ (o : Option Turn). with_turn c o) is);
    } where
      is : turn_by c k step ≡ Some (record { space = k; next = s.next })
      is =
          ap (λ (o : Option WorldState). when_some o None
          (λ (r : WorldState). option_map (λ (next : Next). record { space = k; next = next })
          (step_input r.trace step))) here
          ∙ ap (λ (o : Option Next). option_map (λ (next : Next). record { space = k; next = next }) o) (input (map newest new) held pushed s)
