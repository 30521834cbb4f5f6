-- Which session begins its next call, and which post is delivered next.
use Rattle.std.specs.Prelude.{◌≡◌, ℕ, ◌<◌, Bool, true, false, List, length, slice_get, Some}
use Rattle.hx_model.specs.Types.{Entry, Post, PostId, Script}
use Rattle.hx_types.specs.Words.{when_some}
use Rattle.hx_model.specs.Runs.{has_halted, post_named}
use Rattle.hx_model.specs.Schedule.{delivery_of, first_delivery, is_idle, undelivered}
use Rattle.hx_world.specs.declared.sessions.CountedSession.{CountedSession}

-- the session of this place has a call left and none under way
abbrev pub is_idle_at : List CountedSession → ℕ → Bool
is_idle_at sessions place = when_some (slice_get sessions place) false (λ (s : CountedSession). is_idle s.session.state)

abbrev pub IsNoneIdle : List CountedSession → Type 0
IsNoneIdle sessions = (place : ℕ) → place < length sessions → is_idle_at sessions place ≡ false

-- the lowest session that can begin a call
pub record IsFirstIdle (sessions : List CountedSession) (first : ℕ) : Type 0 where
  pub within : first < length sessions
  pub idle : is_idle_at sessions first ≡ true
  pub lowest : (place : ℕ) → place < first → is_idle_at sessions place ≡ false

-- the post of this name was sent to an actor that hasn't halted, and its delivery is the first
pub record IsPostedFirst (script : Script) (t : List Entry) (id : PostId) : Type 0 where
  pub sent : Post
  pub named : post_named id t ≡ Some sent
  pub running : has_halted script t sent.to ≡ false
  pub first : first_delivery script t (undelivered t) ≡ Some (delivery_of id sent)

-- the post of this name was sent to an actor that hasn't halted
pub record IsRunningPost (script : Script) (t : List Entry) (id : PostId) (p : Post) : Type 0 where
  pub named : post_named id t ≡ Some p
  pub running : has_halted script t p.to ≡ false
