-- The entries of the schedule are fair: a delivery begins no call, and a begin is in turn.
use Rattle.std.proofs.Common.{◌≡◌, ℕ, suc, ◌+◌, ◌-◌, ◌<◌, ◌^◌, Bool, true, false, List, [], ◌∷◌, ◌++◌, length, map}
use Rattle.std.proofs.Common.{reverse, refl, sym, ap, ◌∙◌, subst, arith, leb}
use Rattle.std.proofs.lemmas.Bool.{and_parts, cond-true, leb-true, ltb-true}
use Rattle.std.specs.Prelude.{IfSome, IsSomeAnd, if◌then◌else◌, is_some, is_none, nat_lt, slice_get, Option, Some, None, ⊤}
use Rattle.std.specs.List.{All}
use Rattle.hx_model.specs.Types.{Coordinator, Entry, Post, PostId, Script, Server, Session, Step}
use Rattle.hx_types.specs.declared.traces.Step.TheVariants as a_step
use Rattle.hx_types.specs.Words.{when_some}
use Rattle.hx_model.specs.Runs.{has_halted, post_named, session_of}
use Rattle.hx_model.specs.Schedule.{Next, delivery_of, first_delivery, is_idle, undelivered}
use Rattle.hx_world.specs.Worlds.{IsStepOf, WorldState}
use Rattle.hx_world.specs.Nexts.{delivery_in}
use Rattle.hx_bundle.specs.declared.bundles.Bundle.{Bundle}
use Rattle.hx_spaces.specs.Courses.{Course, Turn, begin_by, first_begin, first_delivery_from, newest, next_space, runs_with, session_at, with_turn}
use Rattle.hx_spaces.specs.Draining.{Takes}
use Rattle.hx_spaces.specs.Keeping.{IsKept, IsShort, counted, course_of}
use Rattle.hx_spaces.specs.Stepping.{beginner, turn_fault}
use Rattle.hx_spaces.specs.Walks.{DeliversIn, begin_turn}
use Rattle.hx_spaces.proofs.Keeping.{IsFair, kept_after, shown}
use Rattle.hx_spaces.proofs.NextCalls.{first-next}
use Rattle.hx_spaces.proofs.Places.{get-map, none-some, some-same, something}
use Rattle.hx_spaces.proofs.Seats.{next_begins, seated, sessions-at}
use Rattle.hx_spaces.proofs.StepsTaken.{has-turn, none-there}
use Rattle.hx_spaces.proofs.Starts.{begins_by}

-- ---- the run that a first delivery is of

pub record IsOfRun (k : ℕ) (runs : List WorldState) (t : Turn) : Type 0 where
  pub place : ℕ
  pub space : t.space ≡ k + place
  pub run : WorldState
  pub stands : slice_get runs place ≡ Some run
  pub delivers : delivery_in run.script run.trace ≡ Some t.next

later : (k : ℕ) (r : WorldState) (rest : List WorldState) (t : Turn) → IsOfRun (k + 1) rest t → IsOfRun k (r ∷ rest) t
later k r rest t i = record {
  place = suc i.place;
  space = i.space ∙ (let e : k + 1 + i.place ≡ k + suc i.place = omega arith in e);
  run = i.run;
  stands = i.stands;
  delivers = i.delivers;
}

here : (k : ℕ) (r : WorldState) (rest : List WorldState) (t : Turn) (next : Next)
    → delivery_in r.script r.trace ≡ Some next → record { space = k; next = next } ≡ t → IsOfRun k (r ∷ rest) t
here k r rest t next e q = record {
  place = 0;
  space = sym (ap (λ (x : Turn). x.space) q) ∙ (let z : k ≡ k + 0 = omega arith in z);
  run = r;
  stands = refl;
  delivers = e ∙ ap (λ (x : Turn). Some x.next) q;
}

first-of : (k : ℕ) (r : WorldState) (rest : List WorldState) (t : Turn) (o : Option Next) → (first_delivery_from (k + 1) rest ≡ Some t → IsOfRun (k + 1) rest t)
    → delivery_in r.script r.trace ≡ o → when_some o (first_delivery_from (k + 1) rest)
    (λ (next : Next). Some (record { space = k; next = next })) ≡ Some t → IsOfRun k (r ∷ rest) t
first-of k r rest t None ih e q = later k r rest t (ih q)
first-of k r rest t (Some next) ih e q = here k r rest t next e (some-same q)

of-run : (k : ℕ) (runs : List WorldState) (t : Turn) → first_delivery_from k runs ≡ Some t → IsOfRun k runs t
of-run k [] t h = absurd (none-some t h)
of-run k (r ∷ rest) t h = first-of k r rest t (delivery_in r.script r.trace) (of-run (k + 1) rest t) refl h

-- ---- a delivery begins no call

abbrev pub BeginsNone : Option Next → Type 0
BeginsNone None = ⊤
BeginsNone (Some n) = (r : WorldState) → begins_by r n ≡ None

delivers-none : (script : Script) (trace : List Entry) (ids : List PostId) → BeginsNone (first_delivery script trace ids)
delivers-none script trace [] = tt
delivers-none script trace (id ∷ rest) = by (delivers-none script trace rest) (post_named id trace) where
  by : BeginsNone (first_delivery script trace rest) → (o : Option Post)
      → BeginsNone (when_some o (first_delivery script trace rest)
      (λ (p : Post). if has_halted script trace p.to then first_delivery script trace rest else Some (delivery_of id p)))
  by after None = after
  by after (Some p) = halted (has_halted script trace p.to) where
    halted : (b : Bool) → BeginsNone (if b then first_delivery script trace rest else Some (delivery_of id p))
    halted true = after
    halted false = λ r. refl

-- a delivery in the first space that has one
fair-delivery : (c : Course) (k : ℕ) (next : Next)
    → first_delivery_from 0 c.runs ≡ Some (record { space = k; next = next }) → (f : IsFair c k next)
    × (begins_by f.run next ≡ None)
fair-delivery c k next h =
    let o = of-run 0 c.runs (record { space = k; next = next }) h in
    let e : o.place ≡ k = (let z : o.place ≡ 0 + o.place = omega arith in z) ∙ sym o.space in
    let none : begins_by o.run next ≡ None = subst BeginsNone o.delivers (delivers-none o.run.script o.run.trace (undelivered o.run.trace)) o.run in (
      record { run = o.run; stands = subst (λ n. slice_get c.runs n ≡ Some o.run) e o.stands; fair = λ place q. absurd (none-some place (sym none ∙ q)) },
      none,
    )

module _ (bundle : Bundle) (worlds new : List WorldState) (order held : List ℕ) where
  -- what a cluster keeps with it
  pub delivered_kept : (pushed begun : List ℕ) (k : ℕ) → IsKept (course_of bundle worlds order) begun
      → DeliversIn (map newest worlds) (map newest new) (Some k) → (All IsShort worlds → All IsShort new)
      → held ≡ order → pushed ≡ held ++ k ∷ [] → IsKept (course_of bundle new pushed) begun
  delivered_kept pushed begun k i (next, first, made) grows h p =
      let f = fair-delivery (course_of bundle worlds order) k next first in
      subst (λ (o : Option ℕ). IsKept (course_of bundle new pushed) (counted begun o)) f.1
      (kept_after bundle worlds new order held pushed begun k next i f.0 made grows h p)

  -- and what it leaves
  pub delivered_takes : (pushed : List ℕ) (k : ℕ) → DeliversIn (map newest worlds) (map newest new) (Some k) → held ≡ order → pushed ≡ held ++ k ∷ []
      → Takes (first_delivery_from 0 (map newest worlds)) (course_of bundle worlds order) (course_of bundle new pushed) true
  delivered_takes pushed k (next, first, made) h p = record {
    course = shown bundle worlds new order held pushed k next made h p ∙ ap (λ (o : Option Turn). with_turn (course_of bundle worlds order) o) (sym first);
    told = sym (ap (λ (o : Option Turn). is_some o) first);
  }

  same-course : map newest new ≡ map newest worlds → held ≡ order → course_of bundle new held ≡ course_of bundle worlds order
  same-course m h = ap (λ (l : List WorldState). record { bundle = bundle; runs = l; order = reverse held }) m
      ∙ ap (λ (l : List ℕ). record { bundle = bundle; runs = map newest worlds; order = reverse l }) h

  -- where there was no delivery
  pub rested_kept : (begun : List ℕ) → IsKept (course_of bundle worlds order) begun
      → DeliversIn (map newest worlds) (map newest new) None → held ≡ order → IsKept (course_of bundle new held) begun
  rested_kept begun i d h = subst (λ (c : Course). IsKept c begun) (sym (same-course d.1 h)) i

-- ---- a session begins its next call

module _ (bundle : Bundle) (worlds : List WorldState) (order begun : List ℕ) (i : IsKept (course_of bundle worlds order) begun) (place k : ℕ) where
  abbrev c : Course
  c = course_of bundle worlds order

  -- what it needs
  pub next_few : next_space bundle (map newest worlds) place ≡ Some k → place < 16
  next_few h =
      let b = next_begins c i.course place k h in
      let few = (seated bundle worlds order i.course).few in
      let in-turns = b.4 in
      omega (arith, few, in-turns)

  pub next_counts : next_space bundle (map newest worlds) place ≡ Some k → IsSomeAnd (slice_get begun place) (λ n. n + 1 < 2 ^ 64)
  next_counts h =
      let b = next_begins c i.course place k h in
      let in-turns = b.4 in
      let most = b.5 in
      let count = i.counted.sessions in
      let n = something begun place (omega (arith, in-turns, count)) in
      let same = i.counted.each place n.0 n.1 in
      subst (λ (o : Option ℕ). IsSomeAnd o (λ m. m + 1 < 2 ^ 64)) (sym n.1) (omega (arith, most, same))

  begins-it : (r : WorldState) → is_idle (session_of r.script (session_at place) r.trace) ≡ true → begins_by r (begin_by place) ≡ Some place
  begins-it r e =
      cond-true (is_idle (session_of r.script (session_at place) r.trace)) (Some (place + 1 - 1)) None e
      ∙ ap (λ n. Some n) (let z : place + 1 - 1 ≡ place = omega arith in z)

  fair-begin : next_space bundle (map newest worlds) place ≡ Some k → (f : IsFair c k (begin_by place)) × (begins_by f.run (begin_by place) ≡ Some place)
  fair-begin h =
      let b = next_begins c i.course place k h in
      let it = begins-it b.0 b.3 in
      (record { run = b.0; stands = b.1; fair = λ p q. subst (λ m. next_space bundle (map newest worlds) m ≡ Some k) (some-same (sym it ∙ q)) h }, it)

  pub begun_kept : next_space bundle (map newest worlds) place ≡ Some k → (new : List WorldState) (held pushed : List ℕ)
      → map newest new ≡ runs_with (begin_turn place k) (map newest worlds) → (All IsShort worlds → All IsShort new) → held ≡ order → pushed ≡ held ++ k ∷ []
      → (now : List ℕ) → now ≡ counted begun (Some place) → IsKept (course_of bundle new pushed) now
  begun_kept h new held pushed made grows e p now q =
      let f = fair-begin h in
      subst (λ (l : List ℕ). IsKept (course_of bundle new pushed) l) (sym q)
      (subst (λ (o : Option ℕ). IsKept (course_of bundle new pushed) (counted begun o)) f.1
      (kept_after bundle worlds new order held pushed begun k (begin_by place) i f.0 made grows e p))

-- what is found has its turn
pub found_next : (bundle : Bundle) (worlds : List WorldState) (place k : ℕ)
    → Some (begin_turn place k) ≡ first_begin bundle (map newest worlds) → next_space bundle (map newest worlds) place ≡ Some k
found_next bundle worlds place k h = first-next bundle (map newest worlds) place k 0 bundle.turns (sym h)

-- ---- the session of which a step would begin a call

beginner-in : (r : WorldState) (step : Step) → IsStepOf r.script step → (o : Option ℕ) → beginner r step ≡ o
    → IfSome o (λ place. place < length r.script.sessions)
beginner-in r step h None e = tt
beginner-in r (a_step.Deliver id) h (Some place) e = absurd (none-some place e)
beginner-in r (a_step.Halt a) h (Some place) e = absurd (none-some place e)
beginner-in r (a_step.Tick Coordinator) h (Some place) e = absurd (none-some place e)
beginner-in r (a_step.Tick (Server s)) h (Some place) e = absurd (none-some place e)
beginner-in r (a_step.Tick (Session u)) h (Some place) e = by (is_idle (session_of r.script u r.trace)) e where
  by : (b : Bool) → (if b then Some (u.0 - 1) else None) ≡ Some place → place < length r.script.sessions
  by false q = absurd (none-some place q)
  by true q =
      let p = and_parts (nat_lt 0 u.0) (leb u.0 (length r.script.sessions)) h in
      let low = ltb-true 0 u.0 p.0 in
      let high = leb-true u.0 (length r.script.sessions) p.1 in
      let there : u.0 - 1 ≡ place = some-same q in
      omega (arith, low, high, there)

pub beginner_within : (bundle : Bundle) (worlds : List WorldState) (order begun : List ℕ)
    (i : IsKept (course_of bundle worlds order) begun) (k : ℕ) (step : Step) (w : WorldState)
    → slice_get worlds k ≡ Some w → IsStepOf w.script step → (o : Option ℕ) → o ≡ beginner (newest w) step → IfSome o (λ place. place < length begun)
beginner_within bundle worlds order begun i k step w at h None e = tt
beginner_within bundle worlds order begun i k step w at h (Some place) e =
    let here = beginner-in (newest w) step h (Some place) (sym e) in
    let same = sessions-at (course_of bundle worlds order) i.course k (newest w) (get-map newest worlds k w at) in
    let count = i.counted.sessions in
    omega (arith, here, same, count)

pub beginner_counts : (bundle : Bundle) (worlds : List WorldState) (order begun : List ℕ)
    (i : IsKept (course_of bundle worlds order) begun) (k : ℕ) (o : Option ℕ)
    → is_none (turn_fault (course_of bundle worlds order) k o) ≡ true → IfSome o (λ place. IsSomeAnd (slice_get begun place) (λ n. n + 1 < 2 ^ 64))
beginner_counts bundle worlds order begun i k None e = tt
beginner_counts bundle worlds order begun i k (Some place) e =
    next_counts bundle worlds order begun i place k
    (has-turn (course_of bundle worlds order) k place (Some place)
    (none-there (turn_fault (course_of bundle worlds order) k (Some place)) e) refl)
