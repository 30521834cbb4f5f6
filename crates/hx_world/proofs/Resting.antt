-- Sessions that are neither idle nor at their end.
use Rattle.std.proofs.Common.{◌≡◌, Bool, true, false, not, ◌&&◌, length, refl, sym, ap}
use Rattle.std.proofs.lemmas.Bool.{false≢true}
use Rattle.std.specs.Prelude.{nat_lt}
use Rattle.hx_model.specs.Schedule.{is_idle}
use Rattle.hx_model.specs.SessionSteps.{SessionState}
use Rattle.hx_session.specs.Sessions.{is_ended}

told : (busy left ended : Bool) → (not busy && left) ≡ false → ended ≡ (not busy && not left) → not ended ≡ busy
told true left ended i e = ap not e
told false true ended i e = absurd (false≢true (sym i))
told false false ended i e = ap not e

-- a session that isn't idle has a call under way, unless it is at its end
pub busy_told : (s : SessionState) (ended : Bool) → is_idle s ≡ false → ended ≡ is_ended s → not ended ≡ s.under_way
busy_told s ended i e = told s.under_way (nat_lt s.begun (length s.calls)) ended i e

free : (busy left : Bool) → (not busy && left) ≡ true → busy ≡ false
free true left i = absurd (false≢true i)
free false left i = refl

-- an idle session has none
pub idle_free : (s : SessionState) → is_idle s ≡ true → s.under_way ≡ false
idle_free s i = free s.under_way (nat_lt s.begun (length s.calls)) i
