-- The limits of commands.
use Rattle.std.specs.Prelude.{◌≤◌, ⊤}
use Rattle.hx_types.specs.declared.limits.TheConstants.{MOST_CALLS, MOST_DRIVERS}
use Rattle.hx_words.specs.declared.commands.Request.{Request}
use Rattle.hx_words.specs.declared.commands.Request.TheVariants as a_request
use Rattle.hx_words.specs.declared.commands.Run.{Run}
use Rattle.hx_words.specs.declared.commands.Share.{Share}
use Rattle.hx_words.specs.declared.commands.Soak.{Soak}

pub record IsRun (run : Run) : Type 0 where
  pub some_workers : 1 ≤ run.workers
  pub workers : run.workers ≤ MOST_DRIVERS
  pub lose : run.lose ≤ 1000000
  pub repeat : run.repeat ≤ 1000000

pub record IsSoak (soak : Soak) : Type 0 where
  pub some_calls : 1 ≤ soak.calls
  pub calls : soak.calls ≤ MOST_CALLS
  pub some_workers : 1 ≤ soak.workers
  pub workers : soak.workers ≤ MOST_DRIVERS

pub record IsShare (share : Share) : Type 0 where
  pub some_workers : 1 ≤ share.workers
  pub workers : share.workers ≤ MOST_DRIVERS

-- the numbers of a request are within their limits
abbrev pub HasLimits : Request → Type 0
HasLimits (a_request.Command command) = ⊤
HasLimits a_request.Audit = ⊤
HasLimits (a_request.Run run) = IsRun run
HasLimits (a_request.Soak soak) = IsSoak soak
HasLimits (a_request.Share share) = IsShare share
HasLimits (a_request.Question question) = ⊤
