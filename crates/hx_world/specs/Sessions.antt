-- A session of a world before and after one of its entries.
use Rattle.std.specs.Prelude.{◌≡◌, ◌+◌}
use Rattle.hx_model.specs.Types.{Input, Op}
use Rattle.hx_session.specs.Sessions.{with_call}
use Rattle.hx_model.specs.SessionSteps.{session_step}
use Rattle.hx_world.specs.declared.sessions.CountedSession.{CountedSession}

-- the session has taken the input
pub record HasTaken (old new : CountedSession) (input : Input) : Type 0 where
  pub space : new.session.space ≡ old.session.space
  pub state : new.session.state ≡ (session_step old.session.space old.session.state input).state
  pub entries : new.entries ≡ old.entries + 1

-- the session is as it was
pub record IsSameSession (old new : CountedSession) : Type 0 where
  pub space : new.session.space ≡ old.session.space
  pub state : new.session.state ≡ old.session.state
  pub entries : new.entries ≡ old.entries

-- the session has one more call
pub record HasCall (old new : CountedSession) (op : Op) : Type 0 where
  pub space : new.session.space ≡ old.session.space
  pub state : new.session.state ≡ with_call op old.session.state
  pub entries : new.entries ≡ old.entries
