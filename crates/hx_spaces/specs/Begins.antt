-- In which order the calls of a session begin, whatever their spaces.
use Rattle.std.specs.Prelude.{◌≡◌, ℕ, false, List, [], ◌∷◌, IfSome, drop, slice_get, slice_set, Some, ⊤}
use Rattle.hx_model.specs.Types.{Entry, Session, SessionId}
use Rattle.hx_types.specs.declared.traces.Note.TheVariants.{Began}
use Rattle.hx_types.specs.Words.{IsIn, first_of_list, when_some}
use Rattle.hx_world.specs.Worlds.{WorldState}
use Rattle.hx_bundle.specs.declared.bundles.Bundle.{Bundle}
use Rattle.hx_spaces.specs.Courses.{begun_in, is_busy_in, session_at, turns_at}

-- the run before its newest entry
abbrev pub run_before : WorldState → WorldState
run_before r = record { script = r.script; trace = drop 1 r.trace }

-- the runs before the newest entry of one space
abbrev pub runs_before : ℕ → List WorldState → List WorldState
runs_before k runs = when_some (slice_get runs k) runs (λ (r : WorldState). slice_set runs k (run_before r))

-- with this entry a call of this session begins
pub record BeginsCallOf (x : Entry) (u : SessionId) : Type 0 where
  pub actor : x.actor ≡ Session u
  pub number : ℕ
  pub noted : IsIn (Began number) x.notes

-- after these runs a call of the session of a place can begin in this space: the turn after those
-- of the calls that it began is there, and none of its calls is under way in any space
pub record IsItsTurn (bundle : Bundle) (runs : List WorldState) (place k : ℕ) : Type 0 where
  pub free : is_busy_in (session_at place) runs ≡ false
  pub turn : slice_get (turns_at bundle.turns place) (begun_in (session_at place) runs) ≡ Some k

-- a session begins a call with this entry of a space only where it is its turn after these runs
abbrev pub BeginsInTurn : Bundle → List WorldState → ℕ → Entry → Type 0
BeginsInTurn bundle runs k x = (place : ℕ) → BeginsCallOf x (session_at place) → IsItsTurn bundle runs place k

-- each session makes its calls in the order of its turns, and begins none while another of its
-- calls is under way, in whatever space; the order of all entries stands newest first
abbrev pub IsSequential : Bundle → List WorldState → List ℕ → Type 0
IsSequential bundle runs [] = ⊤
IsSequential bundle runs (k ∷ before) =
    IfSome (slice_get runs k) (λ (r : WorldState). IfSome (first_of_list r.trace) (BeginsInTurn bundle (runs_before k runs) k))
    × IsSequential bundle (runs_before k runs) before
