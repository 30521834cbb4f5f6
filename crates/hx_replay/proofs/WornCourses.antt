-- A replay of a bundle that ends at a worn actor ends so by each way through its steps and the schedule.
use Rattle.std.proofs.Common.{◌≡◌, ◌⊎◌, inl, inr, ◌≤◌, ◌<◌, ◌+◌, ℕ, zero, suc, Bool, List, [], ◌∷◌, Option, Some, None}
use Rattle.std.proofs.Common.{refl, sym, ap, ◌∙◌, subst, map, reverse, arith}
use Rattle.std.specs.Prelude.{slice_get, slice_set}
use Rattle.std.specs.List.{AllZip}
use Rattle.std.proofs.lemmas.Bool.{cases_lt, leb-true}
use Rattle.std.proofs.lemmas.List.{reverse-reverse}
use Rattle.hx_bundle.specs.declared.bundles.Bundle.{Bundle}
use Rattle.hx_model.specs.Types.{Actor, Entry, Script}
use Rattle.hx_types.specs.Words.{when_some}
use Rattle.hx_model.specs.Schedule.{entries_of, entry_by}
use Rattle.hx_spaces.specs.Courses.{Course, Turn, at_start, next_turn, run_with, scheduled, with_turn}
use Rattle.hx_spaces.specs.Draining.{IsWornTurn}
use Rattle.hx_spaces.specs.Stepping.{bundle_stepped}
use Rattle.hx_world.specs.Worlds.{WorldState}
use Rattle.hx_replay.specs.Courses.{IsCourseOf, IsRunOf, IsWholeCourse, IsWornAfterBundleSteps, IsWornAtBundleStep, IsWornCourse}
use Rattle.hx_replay.proofs.Counting.{counts_own, grows}
use Rattle.hx_replay.proofs.Stepping.{not-all-taken, one-worn-step}

-- ---- how many entries an actor made in a space
abbrev made_by : Actor → WorldState → ℕ
made_by a r = entries_of a r.trace

abbrev count : ℕ → Actor → List WorldState → ℕ
count k a [] = 0
count zero a (r ∷ rest) = made_by a r
count (suc k) a (r ∷ rest) = count k a rest

some_same : {A : Type 0} (x y : A) → Some x ≡ Some y → x ≡ y
some_same x y e = cc

none_some : {A : Type 0} (x : A) → None ≡ Some x → ⊥
none_some x e = absurd (cc)

-- the space of an entry has one more, or as many, and the others have as many
set_grows : (j k : ℕ) (a : Actor) (runs : List WorldState) (r new : WorldState) → slice_get runs j ≡ Some r
    → made_by a r ≤ made_by a new → count k a runs ≤ count k a (slice_set runs j new)
set_grows j k a [] r new at more = absurd (none_some r at)
set_grows zero zero a (x ∷ rest) r new at more = let same = ap (made_by a) (some_same x r at) in omega (arith, same, more)
set_grows zero (suc k) a (x ∷ rest) r new at more = omega arith
set_grows (suc j) zero a (x ∷ rest) r new at more = omega arith
set_grows (suc j) (suc k) a (x ∷ rest) r new at more = set_grows j k a rest r new at more

set_is : (k : ℕ) (a : Actor) (runs : List WorldState) (r new : WorldState) → slice_get runs k ≡ Some r → count k a (slice_set runs k new) ≡ made_by a new
set_is k a [] r new at = absurd (none_some r at)
set_is zero a (x ∷ rest) r new at = refl
set_is (suc k) a (x ∷ rest) r new at = set_is k a rest r new at

module _ (k : ℕ) (a : Actor) (runs : List WorldState) (turn : Turn) where
  run_grows : (o : Option WorldState) → slice_get runs turn.space ≡ o
      → count k a runs ≤ count k a (when_some o runs (λ (r : WorldState). slice_set runs turn.space (run_with turn.next r)))
  run_grows None at = omega arith
  run_grows (Some r) at = set_grows turn.space k a runs r (run_with turn.next r) at (grows a r.trace (Some (entry_by r.script r.trace turn.next)))

turn_grows : (k : ℕ) (a : Actor) (c : Course) (o : Option Turn) → count k a c.runs ≤ count k a (with_turn c o).runs
turn_grows k a c None = omega arith
turn_grows k a c (Some turn) = run_grows k a c.runs turn (slice_get c.runs turn.space) refl

-- ---- along the schedule
module _ (start : Course) where
  abbrev at : ℕ → Course
  at n = scheduled start n

  one_further : (k : ℕ) (a : Actor) (n m : ℕ) → n ≤ suc m → (n ≤ m → count k a (at n).runs ≤ count k a (at m).runs) → (n < suc m) ⊎ (suc m ≤ n)
      → count k a (at n).runs ≤ count k a (at (suc m)).runs
  one_further k a n m within below (inl before) =
      let step : count k a (at m).runs ≤ count k a (at (suc m)).runs = turn_grows k a (at m) (next_turn (at m)) in
      omega (arith, below (omega (arith, before)), step)
  one_further k a n m within below (inr after) =
      let same : suc m ≡ n = omega (arith, within, after) in
      subst (λ (i : ℕ). count k a (at i).runs ≤ count k a (at (suc m)).runs) same (omega arith)

  grows_further : (k : ℕ) (a : Actor) (n m : ℕ) → n ≤ m → count k a (at n).runs ≤ count k a (at m).runs
  grows_further k a n zero within =
      let same : zero ≡ n = omega (arith, within) in
      subst (λ (i : ℕ). count k a (at i).runs ≤ count k a (at zero).runs) same (omega arith)
  grows_further k a n (suc m) within = one_further k a n m within (λ h. grows_further k a n m h) (cases_lt n (suc m))

  -- a quiet course stays as it is
  stays_on : (n m : ℕ) → n ≤ suc m → next_turn (at n) ≡ None → (n ≤ m → at m ≡ at n) → (n < suc m) ⊎ (suc m ≤ n) → at (suc m) ≡ at n
  stays_on n m within quiet below (inl before) =
      let here : at m ≡ at n = below (omega (arith, before)) in
      let none : next_turn (at m) ≡ None = ap next_turn here ∙ quiet in
      ap (λ (o : Option Turn). with_turn (at m) o) none ∙ here
  stays_on n m within quiet below (inr after) = let same : suc m ≡ n = omega (arith, within, after) in ap at same

  stays : (n m : ℕ) → n ≤ m → next_turn (at n) ≡ None → at m ≡ at n
  stays n zero within quiet = let same : zero ≡ n = omega (arith, within) in ap at same
  stays n (suc m) within quiet = stays_on n m within quiet (λ h. stays n m h quiet) (cases_lt n (suc m))

-- no actor of any space made too many entries
abbrev HaveFew : List WorldState → Type 0
HaveFew runs = (k : ℕ) (a : Actor) → count k a runs ≤ 1048576

few_runs : (scripts : List Script) (runs : List WorldState) → AllZip IsRunOf scripts (map (λ (r : WorldState). reverse r.trace) runs) → HaveFew runs
few_runs scripts [] all k a = omega arith
few_runs [] (r ∷ rest) all k a = absurd all
few_runs (s ∷ scripts) (r ∷ rest) all zero a =
    let few : entries_of a (reverse (reverse r.trace)) ≤ 1048576 = all.0.few a in
    subst (λ (t : List Entry). entries_of a t ≤ 1048576) (reverse-reverse r.trace) few
few_runs (s ∷ scripts) (r ∷ rest) all (suc k) a = few_runs scripts rest all.1 k a

few_course : (bundle : Bundle) (course : Course) (traces : List (List Entry)) → IsCourseOf bundle course traces → HaveFew course.runs
few_course bundle course traces of_bundle =
    few_runs bundle.spaces course.runs (subst (λ (t : List (List Entry)). AllZip IsRunOf bundle.spaces t) of_bundle.traces_are of_bundle.runs)

module _ (c : Course) (a : Actor) (worn : IsWornTurn c.runs (next_turn c) a) where
  abbrev after : WorldState
  after = run_with worn.next.next worn.run

  -- the next entry of a worn actor is one too many
  one_too_many : 1048577 ≤ count worn.next.space a (with_turn c (next_turn c)).runs
  one_too_many =
      let made : 1048576 ≤ entries_of a worn.run.trace = leb-true 1048576 (entries_of a worn.run.trace) worn.worn in
      let counted : made_by a after ≡ entries_of a worn.run.trace + 1 =
      counts_own a worn.run.trace (entry_by worn.run.script worn.run.trace worn.next.next) worn.actor in
      let taken : (with_turn c (next_turn c)).runs ≡ slice_set c.runs worn.next.space after =
      ap (λ (o : Option Turn). (with_turn c o).runs) worn.is_next
      ∙ ap (λ (o : Option WorldState). when_some o c.runs (λ (r : WorldState). slice_set c.runs worn.next.space (run_with worn.next.next r))) worn.stands in
      let here : count worn.next.space a (with_turn c (next_turn c)).runs ≡ made_by a after =
      ap (count worn.next.space a) taken ∙ set_is worn.next.space a c.runs worn.run after worn.stands in
      omega (arith, made, counted, here)

module _ (start : Course) where
  -- no course goes on beyond a worn actor
  not_beyond : (a : Actor) (i n : ℕ) → IsWornTurn (scheduled start i).runs (next_turn (scheduled start i)) a → i < n → HaveFew (scheduled start n).runs → ⊥
  not_beyond a i n worn later few =
      omega (arith, one_too_many (scheduled start i) a worn, grows_further start worn.next.space a (suc i) n (omega (arith, later)), few worn.next.space a)

  no_next : (a : Actor) (c : Course) → IsWornTurn c.runs (next_turn c) a → next_turn c ≡ None → ⊥
  no_next a c worn quiet = none_some worn.next (sym quiet ∙ worn.is_next)

  -- where an actor is worn no course is whole
  not_quiet : (a : Actor) (i n : ℕ) → IsWornTurn (scheduled start i).runs (next_turn (scheduled start i)) a
      → next_turn (scheduled start n) ≡ None → HaveFew (scheduled start n).runs → ⊥
  not_quiet a i n worn quiet few = by (cases_lt i n)
    where
      by : (i < n) ⊎ (n ≤ i) → ⊥
      by (inl before) = not_beyond a i n worn before few
      by (inr after) =
          let same : scheduled start i ≡ scheduled start n = stays start n i after quiet in
          no_next a (scheduled start i) worn (ap next_turn same ∙ quiet)

  -- two worn actors are one
  same_worn : (c : Course) (a b : Actor) → IsWornTurn c.runs (next_turn c) a → IsWornTurn c.runs (next_turn c) b → a ≡ b
  same_worn c a b h g = sym h.actor ∙ ap (λ (t : Turn). t.next.actor) (some_same h.next g.next (sym h.is_next ∙ g.is_next)) ∙ g.actor

  one_worn : (a b : Actor) (i n : ℕ) → IsWornTurn (scheduled start i).runs (next_turn (scheduled start i)) a
      → IsWornTurn (scheduled start n).runs (next_turn (scheduled start n)) b
      → HaveFew (scheduled start i).runs → HaveFew (scheduled start n).runs → a ≡ b
  one_worn a b i n worn other few many = by (cases_lt i n) (cases_lt n i)
    where
      by : (i < n) ⊎ (n ≤ i) → (n < i) ⊎ (i ≤ n) → a ≡ b
      by (inl before) any = absurd (not_beyond a i n worn before many)
      by (inr after) (inl before) = absurd (not_beyond b n i other before few)
      by (inr after) (inr before) =
          let place : n ≡ i = omega (arith, after, before) in
          same_worn (scheduled start i) a b worn (subst (λ (m : ℕ). IsWornTurn (scheduled start m).runs (next_turn (scheduled start m)) b) place other)

-- ---- of a bundle
abbrev start_of : Bundle → Course
start_of bundle = bundle_stepped (at_start bundle) bundle.steps

-- a bundle whose replay is whole has no worn course
pub whole_course_is_not_worn : (with_trace : Bool) (bundle : Bundle) (traces worn : List (List Entry))
    (report : List ℕ) (a : Actor) → IsWholeCourse with_trace bundle traces report → IsWornCourse bundle worn a → ⊥
whole_course_is_not_worn with_trace bundle traces worn report a whole run = by run.ends
  where
    by : IsWornAtBundleStep bundle run.course a ⊎ IsWornAfterBundleSteps bundle run.course a → ⊥
    by (inl at) = not-all-taken bundle run.course a at whole.is_whole.taken
    by (inr after) =
        let of_schedule = whole.is_whole.scheduled in
        not_quiet (start_of bundle) a after.entries of_schedule.entries
        (subst (λ (c : Course). IsWornTurn c.runs (next_turn c) a) after.course_is after.worn_out)
        (ap next_turn (sym of_schedule.course_is) ∙ of_schedule.quiet)
        (subst (λ (c : Course). HaveFew c.runs) of_schedule.course_is (few_course bundle whole.course traces whole.is_whole.of_bundle))

-- the worn courses of a bundle end at one actor
pub worn_course_at_one : (bundle : Bundle) (one other : List (List Entry)) (a b : Actor) → IsWornCourse bundle one a → IsWornCourse bundle other b → a ≡ b
worn_course_at_one bundle one other a b run further = by run.ends further.ends
  where
    by : IsWornAtBundleStep bundle run.course a ⊎ IsWornAfterBundleSteps bundle run.course a
        → IsWornAtBundleStep bundle further.course b ⊎ IsWornAfterBundleSteps bundle further.course b → a ≡ b
    by (inl at) (inl also) = one-worn-step bundle run.course further.course a b at also
    by (inl at) (inr after) = absurd (not-all-taken bundle run.course a at after.taken)
    by (inr after) (inl at) = absurd (not-all-taken bundle further.course b at after.taken)
    by (inr after) (inr also) =
        one_worn (start_of bundle) a b after.entries also.entries
        (subst (λ (c : Course). IsWornTurn c.runs (next_turn c) a) after.course_is after.worn_out)
        (subst (λ (c : Course). IsWornTurn c.runs (next_turn c) b) also.course_is also.worn_out)
        (subst (λ (c : Course). HaveFew c.runs) after.course_is (few_course bundle run.course one run.of_bundle))
        (subst (λ (c : Course). HaveFew c.runs) also.course_is (few_course bundle further.course other further.of_bundle))
