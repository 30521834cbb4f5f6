-- The course of a bundle: a run of each space's script, and the space of each entry in the order in
-- which they were made; the newest entry stands first in both.
use Rattle.std.specs.Prelude.{◌≡◌, ℕ, zero, suc, ◌+◌, Bool, List, [], ◌∷◌, map, reverse, slice_get, slice_set, if◌then◌else◌, Option, None, Some}
use Rattle.std.specs.List.{list_any}
use Rattle.hx_model.specs.Types.{Script, Session, SessionId, Tick}
use Rattle.hx_types.specs.Words.{first_some, when_some}
use Rattle.hx_model.specs.Runs.{session_of}
use Rattle.hx_model.specs.Schedule.{Next, entry_by}
use Rattle.hx_world.specs.Worlds.{WorldState}
use Rattle.hx_world.specs.Nexts.{delivery_in}
use Rattle.hx_bundle.specs.declared.bundles.Bundle.{Bundle}

-- a bundle with the run of each space and the order of all entries
pub record Course : Type 0 where
  pub bundle : Bundle
  pub runs : List WorldState
  pub order : List ℕ

-- sessions are numbered from 1
abbrev pub session_at : ℕ → SessionId
session_at place = record { 0 = place + 1 }

-- the run of a script before its first entry
abbrev pub run_at_start : Script → WorldState
run_at_start script = record { script = script; trace = [] }

-- before the first entry
abbrev pub at_start : Bundle → Course
at_start bundle = record { bundle = bundle; runs = map run_at_start bundle.spaces; order = [] }

-- a world's run, newest entry first
abbrev pub newest : WorldState → WorldState
newest w = record { script = w.script; trace = reverse w.trace }

-- which space makes which entry next
pub record Turn : Type 0 where
  pub space : ℕ
  pub next : Next

-- the first delivery of the first space that has one, where these are the spaces from a number on
abbrev pub first_delivery_from : ℕ → List WorldState → Option Turn
first_delivery_from k [] = None
first_delivery_from k (r ∷ rest) = when_some (delivery_in r.script r.trace) (first_delivery_from (k + 1) rest)
    (λ (next : Next). Some (record { space = k; next = next }))

-- how many calls a session began in all spaces
abbrev pub begun_in : SessionId → List WorldState → ℕ
begun_in u [] = 0
begun_in u (r ∷ rest) = (session_of r.script u r.trace).begun + begun_in u rest

-- a call of the session is under way in some space
abbrev pub is_busy_in : SessionId → List WorldState → Bool
is_busy_in u runs = list_any (λ (r : WorldState). (session_of r.script u r.trace).under_way) runs

-- the turns of the session of a place
abbrev pub turns_at : List (List ℕ) → ℕ → List ℕ
turns_at turns place = when_some (slice_get turns place) [] (λ (spaces : List ℕ). spaces)

-- the space of the session's next call, where one is left and none is under way in any space
abbrev pub next_space : Bundle → List WorldState → ℕ → Option ℕ
next_space bundle runs place =
    if is_busy_in (session_at place) runs then None else slice_get (turns_at bundle.turns place) (begun_in (session_at place) runs)

-- a session begins its next call
abbrev pub begin_by : ℕ → Next
begin_by place = record { actor = Session (session_at place); input = Tick }

-- the tick of the first session that has a next call, where these are the turns of the sessions from a place on
abbrev pub first_begin_from : Bundle → List WorldState → ℕ → List (List ℕ) → Option Turn
first_begin_from bundle runs place [] = None
first_begin_from bundle runs place (turns ∷ rest) =
    when_some (next_space bundle runs place) (first_begin_from bundle runs (place + 1) rest) (λ k. Some (record { space = k; next = begin_by place }))

-- the tick of the lowest session with a call left and none under way in any space
abbrev pub first_begin : Bundle → List WorldState → Option Turn
first_begin bundle runs = first_begin_from bundle runs 0 bundle.turns

-- the next entry: a delivery in the first space that has one, else a begin of the lowest session that can begin its next call
abbrev pub next_turn : Course → Option Turn
next_turn c = first_some (first_delivery_from 0 c.runs) (first_begin c.bundle c.runs)

-- the run with one more entry
abbrev pub run_with : Next → WorldState → WorldState
run_with next r = record { script = r.script; trace = entry_by r.script r.trace next ∷ r.trace }

-- the runs after one more entry of one space
abbrev pub runs_with : Turn → List WorldState → List WorldState
runs_with turn runs = when_some (slice_get runs turn.space) runs (λ (r : WorldState). slice_set runs turn.space (run_with turn.next r))

-- the course after the next entry, if there is one
abbrev pub with_turn : Course → Option Turn → Course
with_turn c None = c
with_turn c (Some turn) = record { bundle = c.bundle; runs = runs_with turn c.runs; order = turn.space ∷ c.order }

-- the course after n further entries of the schedule, or fewer where there is no next
abbrev pub scheduled : Course → ℕ → Course
scheduled c zero = c
scheduled c (suc n) = let before = scheduled c n in with_turn before (next_turn before)

-- the schedule has no next entry
abbrev pub IsQuiet : Course → Type 0
IsQuiet c = next_turn c ≡ None
