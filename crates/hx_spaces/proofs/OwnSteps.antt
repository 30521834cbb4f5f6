-- What a cluster knows when it takes a step.
use Rattle.std.proofs.Common.{◌≡◌, ℕ, ◌+◌, ◌<◌, ◌^◌, Bool, true, false, List, [], ◌∷◌, ◌++◌, length, map, refl, sym, ap, ◌∙◌, subst}
use Rattle.std.specs.Prelude.{IfSome, IsSomeAnd, is_none, slice_get, slice_index_or, Option, Some, None}
use Rattle.std.specs.List.{All}
use Rattle.hx_model.specs.Types.{Step}
use Rattle.hx_model.specs.Schedule as a_fault
use Rattle.hx_model.specs.Schedule.{StepFault}
use Rattle.hx_world.specs.Worlds.{IsStepOf, WorldState}
use Rattle.hx_world.specs.declared.ends.StepError.{StepError}
use Rattle.hx_bundle.specs.declared.bundles.Bundle.{Bundle}
use Rattle.hx_spaces.specs.Courses.{Course, newest}
use Rattle.hx_spaces.specs.Keeping.{IsKept, IsShort, counted, course_of}
use Rattle.hx_spaces.specs.Stepping.{IsStepAt, Refuses, Steps, beginner, bundle_fault, turn_fault}
use Rattle.hx_spaces.specs.Walks.{CanStep, RefusesAt, StepsAt}
use Rattle.hx_spaces.proofs.FairTurns.{beginner_counts, beginner_within}
use Rattle.hx_spaces.proofs.Places.{get-index, some-same, within}
use Rattle.hx_spaces.proofs.StepsTaken.{can_step, out_of_turn, refused_in, step_kept, step_shown}

-- a fault of turn doesn't depend on the order
turn-same : (bundle : Bundle) (runs : List WorldState) (order : List ℕ) (k : ℕ) (o : Option ℕ)
    → turn_fault (record { bundle = bundle; runs = runs; order = [] }) k o ≡ turn_fault (record { bundle = bundle; runs = runs; order = order }) k o
turn-same bundle runs order k None = refl
turn-same bundle runs order k (Some place) = refl

module _ (bundle : Bundle) (worlds : List WorldState) (order begun : List ℕ)
    (i : IsKept (course_of bundle worlds order) begun) (self : Course) (view : course_of bundle worlds order ≡ self)
    (k : ℕ) (step : Step) (asked : IsStepAt self.bundle k step) (w : WorldState) (read : w ≡ slice_index_or worlds k w) where
  pub can_take : CanStep worlds k step
  can_take = can_step bundle worlds order k step i.course (subst (λ (o : Course). IsStepAt o.bundle k step) (sym view) asked)

  stands : slice_get worlds k ≡ Some w
  stands = let t = can_take in get-index worlds k w (within worlds k t.world t.stands) read

  pub taken_by : IsStepOf w.script step
  taken_by = let t = can_take in subst (λ (x : WorldState). IsStepOf x.script step) (some-same (sym t.stands ∙ stands)) t.step_of

  module _ (o : Option ℕ) (told : o ≡ beginner (newest w) step) where
    pub place_within : (slice : List ℕ) → slice ≡ begun → IfSome o (λ place. place < length slice)
    place_within slice e =
        subst (λ (l : List ℕ). IfSome o (λ place. place < length l)) (sym e) (beginner_within bundle worlds order begun i k step w stands taken_by o told)

    module _ (slice : List WorldState) (same : slice ≡ worlds) (b : Bool)
        (turn : b ≡ is_none (turn_fault (record { bundle = bundle; runs = map newest slice; order = [] }) k o)) where
      turn-is : is_none (turn_fault (course_of bundle worlds order) k o) ≡ b
      turn-is =
          sym (turn ∙ ap (λ (l : List WorldState). is_none (turn_fault (record { bundle = bundle; runs = map newest l; order = [] }) k o)) same
          ∙ ap (λ (f : Option StepFault). is_none f) (turn-same bundle (map newest worlds) (course_of bundle worlds order).order k o))

      turn-told : is_none (turn_fault (course_of bundle worlds order) k (beginner (newest w) step)) ≡ b
      turn-told = subst (λ (p : Option ℕ). is_none (turn_fault (course_of bundle worlds order) k p) ≡ b) told turn-is

      -- the session's turn isn't here
      pub not_in_turn : b ≡ false → bundle_fault self k step ≡ Some a_fault.Idle
      not_in_turn e = subst (λ (c : Course). bundle_fault c k step ≡ Some a_fault.Idle) view (out_of_turn bundle worlds order k step w stands (turn-told ∙ e))

      -- the world refused it
      pub not_taken : b ≡ true → (e : StepError) → RefusesAt k (map newest worlds) step e → Refuses self k step e
      not_taken t e r = subst (λ (c : Course). Refuses c k step e) view (refused_in bundle worlds order k step w stands (turn-told ∙ t) e r)

      pub place_counts : b ≡ true → IfSome o (λ place. IsSomeAnd (slice_get begun place) (λ n. n + 1 < 2 ^ 64))
      place_counts t = beginner_counts bundle worlds order begun i k o (turn-is ∙ t)

      module _ (t : b ≡ true) (new : List WorldState) (held pushed now : List ℕ)
          (s : StepsAt k (map newest worlds) (map newest new) step) (h : held ≡ order) (p : pushed ≡ held ++ k ∷ []) where
        pub taken_kept : (All IsShort worlds → All IsShort new) → now ≡ counted begun o → IsKept (course_of bundle new pushed) now
        taken_kept grows q =
            subst (λ (l : List ℕ). IsKept (course_of bundle new pushed) l) (ap (λ (x : Option ℕ). counted begun x) (sym told) ∙ sym q)
            (step_kept bundle worlds order k step w stands (turn-told ∙ t) new held pushed begun s grows i h p)

        pub taken_shown : Steps self (course_of bundle new pushed) k step
        taken_shown = subst (λ (c : Course). Steps c (course_of bundle new pushed) k step) view
            (step_shown bundle worlds order k step w stands (turn-told ∙ t) new held pushed s h p)
