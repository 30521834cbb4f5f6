-- What a drain does to the course of a bundle.
use Rattle.std.specs.Prelude.{◌≡◌, ℕ, ◌+◌, ◌<◌, ◌≤◌, Bool, true, List, length, is_some, slice_get, IsSome, Option, Some, ⊤}
use Rattle.hx_model.specs.Types.{Actor}
use Rattle.hx_model.specs.Schedule.{is_worn}
use Rattle.hx_world.specs.Worlds.{WorldState}
use Rattle.hx_world.specs.declared.ends.DrainError.{DrainError}
use Rattle.hx_world.specs.declared.ends.DrainError.TheVariants.{Memory, Worn}
use Rattle.hx_world.specs.declared.ends.Drained.{Drained}
use Rattle.hx_world.specs.declared.ends.Drained.TheVariants.{Quiet, Spent}
use Rattle.hx_spaces.specs.Courses.{Course, IsQuiet, Turn, next_turn, scheduled, with_turn}

-- the entry is one of this actor, which has made in that space all the entries that it may make
pub record IsWornTurn (runs : List WorldState) (turn : Option Turn) (a : Actor) : Type 0 where
  pub next : Turn
  pub is_next : turn ≡ Some next
  pub run : WorldState
  pub stands : slice_get runs next.space ≡ Some run
  pub actor : next.next.actor ≡ a
  pub worn : is_worn a run.trace ≡ true

-- why this entry wasn't made
abbrev pub FailsIn : List WorldState → Option Turn → DrainError → Type 0
FailsIn runs turn Memory = ⊤
FailsIn runs turn (Worn a) = IsWornTurn runs turn a

-- this entry was made, if there is one
pub record Takes (turn : Option Turn) (old new : Course) (made : Bool) : Type 0 where
  pub course : new ≡ with_turn old turn
  pub told : made ≡ is_some turn

-- all n entries were made, and there is a next
pub record IsSpent (n : ℕ) (old new : Course) : Type 0 where
  pub made : length new.order ≡ length old.order + n
  pub next : IsSome (next_turn new)

-- how a drain ends: quiet where there is no next entry, spent where there is one
abbrev pub Ends : ℕ → Course → Course → Drained → Type 0
Ends n old new Quiet = IsQuiet new
Ends n old new Spent = IsSpent n old new

-- what a drain of n entries leaves
pub record Drains (n : ℕ) (old new : Course) (drained : Drained) : Type 0 where
  pub course : new ≡ scheduled old n
  pub ends : Ends n old new drained

-- a drain that failed has made fewer than n entries, and one that met a worn actor would have made its next
pub record DrainFails (n : ℕ) (old new : Course) (e : DrainError) : Type 0 where
  pub fewer : length new.order < length old.order + n
  pub cause : FailsIn new.runs (next_turn new) e

-- no cluster makes more entries: in each of 8 spaces the 34,603,008 that a world makes at most
abbrev pub most_in_all : ℕ
most_in_all = 276824064

-- what was made, also where a drain failed before the end
abbrev pub IsPartOf : ℕ → Course → Course → Type 0
IsPartOf n old new = (k : ℕ) × (k ≤ n) × (new ≡ scheduled old k)
