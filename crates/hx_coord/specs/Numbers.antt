-- Where the newest number of a session stands, and how a call stands to it.
use Rattle.std.specs.Prelude.{◌≡◌, ℕ, ◌<◌, Bool, false, List, length, take, IsSomeAnd, slice_get}
use Rattle.std.specs.List.{list_any}
use Rattle.hx_model.specs.Types.{Caller, SessionId}
use Rattle.hx_types.specs.Words.{same_session}
use Rattle.hx_model.specs.CoordinatorSteps.{CoordinatorState, CoordinatorStep, Newest, again, by_number, newest_of, resting}
use Rattle.hx_coord.specs.declared.calls.Coming.{Coming}
use Rattle.hx_coord.specs.declared.calls.Coming.TheVariants.{Old, Again, New}

abbrev pub is_of_session : SessionId → Newest → Bool
is_of_session u n = same_session n.session u

-- the first newest number of the session stands there
pub record IsPlaceOf (u : SessionId) (newest : List Newest) (place : ℕ) : Type 0 where
  pub within : place < length newest
  pub before : list_any (is_of_session u) (take place newest) ≡ false
  pub here : IsSomeAnd (slice_get newest place) (λ (n : Newest). n.session.0 ≡ u.0)

-- what a call is answered by how it stands to the newest number
abbrev pub step_by : CoordinatorState → Caller → CoordinatorStep → Coming → CoordinatorStep
step_by c caller new Old = resting c
step_by c caller new (Again answer) = again c caller answer
step_by c caller new New = new

-- so stands the call to the newest number of its session
abbrev pub Comes : List Newest → Caller → Coming → Type 0
Comes newest caller coming =
    (c : CoordinatorState) (new : CoordinatorStep) → by_number c caller (newest_of caller.session newest) new ≡ step_by c caller new coming
