-- To which replica a call on a key goes.
use Rattle.std.specs.Prelude.{List, ℕ, if◌then◌else◌, Option, None}
use Rattle.hx_model.specs.Types.{Space}
use Rattle.hx_types.specs.Configs.{leads}
use Rattle.hx_model.specs.Regions.{key_region}
use Rattle.hx_model.specs.ServerSteps.{Replica, ServerState, replica_for}

-- a call goes to the replica of the key's region, where the server leads it
abbrev pub leading : Space → ServerState → List ℕ → Option Replica
leading space s key = if leads space s.config s.id (key_region space key) then replica_for s (key_region space key) else None
