-- Which session a key is called by.
use Rattle.std.specs.Prelude.{◌≡◌, ℕ, List, Some}
use Rattle.hx_model.specs.Types.{Op, Script, SessionId}
use Rattle.hx_types.specs.Effects.{key_of}
use Rattle.hx_types.specs.Fitting.{calls_of}
use Rattle.hx_types.specs.Words.{IsIn}

-- the session has a call on the key
pub record Calls (script : Script) (u : SessionId) (key : List ℕ) : Type 0 where
  pub op : Op
  pub called : IsIn op (calls_of script u)
  pub of_key : key_of op ≡ Some key

-- no two sessions have calls on the same key
abbrev pub KeysAreOwned : Script → Type 0
KeysAreOwned script = (u v : SessionId) (key : List ℕ) → Calls script u key → Calls script v key → u ≡ v
