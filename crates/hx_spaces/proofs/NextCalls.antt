-- Whose turn it is, and that it was taken.
use Rattle.std.proofs.Common.{◌≡◌, ℕ, ◌+◌, ◌<◌, List, [], ◌∷◌, length, map, drop, refl, sym, ap, ◌∙◌, arith}
use Rattle.std.specs.Prelude.{IfErr, OnOk, Option, Some, None, Result, Ok, Err, reverse, slice_get, slice_set}
use Rattle.hx_model.specs.Types.{Actor, Coordinator, Server, Session, SessionId}
use Rattle.hx_types.specs.Words.{when_some}
use Rattle.hx_model.specs.Schedule.{Next}
use Rattle.hx_world.specs.Worlds.{WorldState}
use Rattle.hx_world.specs.Nexts.{FailsAt, Makes, tick_of}
use Rattle.hx_world.specs.declared.ends.DrainError.{DrainError}
use Rattle.hx_world.specs.declared.ends.DrainError.TheVariants.{Memory, Worn}
use Rattle.hx_bundle.specs.declared.bundles.Bundle.{Bundle}
use Rattle.hx_spaces.specs.Courses.{Turn, begin_by, first_begin, first_begin_from, newest, next_space, runs_with, session_at}
use Rattle.hx_spaces.specs.Draining.{FailsIn}
use Rattle.hx_spaces.specs.Walks.{begin_turn}
use Rattle.hx_spaces.proofs.Deliveries.{runs-set, with-entry}
use Rattle.hx_spaces.proofs.Places.{drop-here, get-map, set-map, some-same, something}

-- ---- whether a session is busy

-- ---- the first session with a next space

begin-drop : (bundle : Bundle) (runs : List WorldState) (place : ℕ) → place < length bundle.turns
    → first_begin_from bundle runs place (drop place bundle.turns)
    ≡ when_some (next_space bundle runs place) (first_begin_from bundle runs (place + 1) (drop (place + 1) bundle.turns)) (λ k. Some (begin_turn place k))
begin-drop bundle runs place h =
    let own = something bundle.turns place h in
    ap (λ (l : List (List ℕ)). first_begin_from bundle runs place l) (drop-here bundle.turns place own.0 own.1)

pub begin_on : (bundle : Bundle) (runs : List WorldState) (place : ℕ) → place < length bundle.turns
    → first_begin bundle runs ≡ first_begin_from bundle runs place (drop place bundle.turns)
    → next_space bundle runs place ≡ None → first_begin bundle runs ≡ first_begin_from bundle runs (place + 1) (drop (place + 1) bundle.turns)
begin_on bundle runs place h walk none =
    walk ∙ begin-drop bundle runs place h
    ∙ ap (λ (o : Option ℕ). when_some o (first_begin_from bundle runs (place + 1) (drop (place + 1) bundle.turns)) (λ k. Some (begin_turn place k))) none

pub begin_here : (bundle : Bundle) (runs : List WorldState) (place k : ℕ) → place < length bundle.turns
    → first_begin bundle runs ≡ first_begin_from bundle runs place (drop place bundle.turns)
    → next_space bundle runs place ≡ Some k → first_begin bundle runs ≡ Some (begin_turn place k)
begin_here bundle runs place k h walk some =
    walk ∙ begin-drop bundle runs place h
    ∙ ap (λ (o : Option ℕ). when_some o (first_begin_from bundle runs (place + 1) (drop (place + 1) bundle.turns)) (λ k. Some (begin_turn place k))) some

abbrev session_of_actor : Actor → SessionId
session_of_actor Coordinator = record { 0 = 0 }
session_of_actor (Server s) = record { 0 = 0 }
session_of_actor (Session u) = u

abbrev session_in : Turn → SessionId
session_in t = session_of_actor t.next.actor

-- what is found first has its turn
pub first-next : (bundle : Bundle) (runs : List WorldState) (place k : ℕ) (from : ℕ) (rest : List (List ℕ))
    → first_begin_from bundle runs from rest ≡ Some (begin_turn place k) → next_space bundle runs place ≡ Some k
first-next bundle runs place k from [] h = cc
first-next bundle runs place k from (own ∷ rest) h = by (first-next bundle runs place k (from + 1) rest) (next_space bundle runs from) refl h where
  by : (first_begin_from bundle runs (from + 1) rest ≡ Some (begin_turn place k) → next_space bundle runs place ≡ Some k)
      → (o : Option ℕ) → next_space bundle runs from ≡ o
      → when_some o (first_begin_from bundle runs (from + 1) rest) (λ j. Some (begin_turn from j))
      ≡ Some (begin_turn place k) → next_space bundle runs place ≡ Some k
  by later None e q = later q
  by later (Some j) e q = here (some-same q) where
    here : begin_turn from j ≡ begin_turn place k → next_space bundle runs place ≡ Some k
    here t =
        let space : j ≡ k = ap (λ (x : Turn). x.space) t in
        let same : session_at from ≡ session_at place = ap session_in t in
        let number : from + 1 ≡ place + 1 = ap (λ (u : SessionId). u.0) same in
        let there : from ≡ place = omega (arith, number) in
        ap (λ m. next_space bundle runs m) (sym there) ∙ e ∙ ap (λ m. Some m) space

-- ---- the world of a space

pub began_at : (ws : List WorldState) (k place : ℕ) (w w' : WorldState) (r : Result (Unit {0}) DrainError) → slice_get ws k ≡ Some w → w'.script ≡ w.script
    → OnOk r (Makes w.script (reverse w.trace) (reverse w'.trace) (tick_of (session_at place)))
    → OnOk r (map newest (slice_set ws k w') ≡ runs_with (begin_turn place k) (map newest ws))
began_at ws k place w w' (Ok u) h s m =
    set-map newest ws k w' ∙ ap (λ (x : WorldState). slice_set (map newest ws) k x) (with-entry w w' (begin_by place) s m)
    ∙ sym (runs-set (map newest ws) k (newest w) (begin_by place) (get-map newest ws k w h))
began_at ws k place w w' (Err e) h s m = tt

begin-failed : (ws : List WorldState) (k place : ℕ) (w : WorldState) (e : DrainError) → slice_get ws k ≡ Some w
    → FailsAt (reverse w.trace) (Some (tick_of (session_at place))) e
    → FailsIn (map newest ws) (Some (begin_turn place k)) e
begin-failed ws k place w Memory h f = tt
begin-failed ws k place w (Worn a) h (next, is, actor, worn) = record {
  next = begin_turn place k;
  is_next = refl;
  run = newest w;
  stands = get-map newest ws k w h;
  actor = ap (λ (n : Next). n.actor) (some-same is) ∙ actor;
  worn = worn;
}

pub not_begun : (ws : List WorldState) (k place : ℕ) (w : WorldState) (r : Result (Unit {0}) DrainError)
    → slice_get ws k ≡ Some w → IfErr r (FailsAt (reverse w.trace) (Some (tick_of (session_at place))))
    → IfErr r (FailsIn (map newest ws) (Some (begin_turn place k)))
not_begun ws k place w (Ok u) h f = tt
not_begun ws k place w (Err e) h f = begin-failed ws k place w e h f
