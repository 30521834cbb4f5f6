-- What contracts see of a session, and what it keeps true.
use Rattle.std.specs.Prelude.{◌≡◌, ◌≤◌, map, length}
use Rattle.std.specs.List.{All}
use Rattle.hx_model.specs.Types.{Space}
use Rattle.hx_types.specs.Spaces.{Fits, IsAscending, IsConfigOf}
use Rattle.hx_types.specs.declared.limits.TheConstants.{MOST_CALLS}
use Rattle.hx_model.specs.SessionSteps.{Part as PartSeen, SessionState}
use Rattle.hx_session.specs.declared.sessions.Session.TheInside.{Inside}
use Rattle.hx_session.specs.Changes.{part_seen}
use Rattle.hx_session.specs.Sessions.{SessionValue}

abbrev pub value_of : Inside → SessionValue
value_of s = record {
  space = s.space;
  state = record {
    id = s.id;
    calls = s.calls;
    config = s.config;
    begun = s.progress.begun;
    under_way = s.progress.under_way;
    sent = s.progress.sent;
    parts = map part_seen s.parts;
  };
}

-- no more calls began than there are, and the parts are of ascending regions
pub record IsInOrder (s : SessionState) : Type 0 where
  pub within : s.begun ≤ length s.calls
  pub few : length s.calls ≤ MOST_CALLS
  pub ascend : IsAscending (map (λ (p : PartSeen). p.region.0) s.parts)

-- the configuration and the calls are of the space
pub record IsStateOf (space : Space) (s : SessionState) : Type 0 where
  pub config : IsConfigOf space s.config
  pub calls : All (Fits space) s.calls

-- the map is that of the space
pub record IsSession (s : Inside) : Type 0 where
  pub map_is : s.map ≡ s.space
  pub of_space : IsStateOf s.space (value_of s).state
  pub in_order : IsInOrder (value_of s).state
