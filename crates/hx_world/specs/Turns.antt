-- One entry of one actor: when it may be made, and what it leaves.
use Rattle.std.specs.Prelude.{◌≡◌, ℕ, ◌<◌, ◌≤◌, true, false, List, ◌∷◌, Bool, Result, Ok, Err, ⊤}
use Rattle.hx_types.specs.declared.limits.TheConstants.{MOST_ENTRIES}
use Rattle.hx_model.specs.Types.{Actor, Entry, Input, Script}
use Rattle.hx_model.specs.Runs.{has_halted, made_of, does_something}
use Rattle.hx_model.specs.Schedule.{entry_by, is_worn}
use Rattle.hx_world.specs.declared.ends.DrainError.{DrainError}
use Rattle.hx_world.specs.declared.ends.DrainError.TheVariants.{Memory, Worn}
use Rattle.hx_world.specs.declared.ends.StepError.{StepError}
use Rattle.hx_world.specs.declared.ends.StepError.TheVariants as an_error

-- the entry is no tick that makes nothing
abbrev pub entry_does_something : Entry → Bool
entry_does_something e = does_something e.input (record { posts = e.outputs; notes = e.notes })

-- an actor that has made so many entries may make this one
pub record IsAdmitted (e : Entry) (entries : ℕ) : Type 0 where
  pub enough : entry_does_something e ≡ true
  pub fresh : entries < MOST_ENTRIES

-- its entry is one too many
pub record IsTooMany (e : Entry) (entries : ℕ) (a : Actor) : Type 0 where
  pub enough : entry_does_something e ≡ true
  pub many : MOST_ENTRIES ≤ entries
  pub actor : a ≡ e.actor

-- why it may not
abbrev pub IsBarred : Entry → ℕ → DrainError → Type 0
IsBarred e entries Memory = ⊤
IsBarred e entries (Worn a) = IsTooMany e entries a

-- whether the entry was made: there may be nothing to make, or it may not be made
abbrev pub IsDecided : Entry → ℕ → Result Bool DrainError → Type 0
IsDecided e entries (Ok true) = IsAdmitted e entries
IsDecided e entries (Ok false) = entry_does_something e ≡ false
IsDecided e entries (Err error) = IsBarred e entries error

-- what holds where the entry was made, and what where it wasn't
abbrev pub IfMade : Result Bool DrainError → Type 0 → Type 0 → Type 0
IfMade (Ok true) made unmade = made
IfMade (Ok false) made unmade = unmade
IfMade (Err error) made unmade = unmade

-- the error of a step whose actor failed so
abbrev pub step_error : DrainError → StepError
step_error Memory = an_error.Memory
step_error (Worn a) = an_error.Worn a

-- the actor took the input
pub record HasTurn (script : Script) (old new : List Entry) (a : Actor) (input : Input) : Type 0 where
  pub running : has_halted script old a ≡ false
  pub enough : does_something input (made_of script old a input) ≡ true
  pub fresh : is_worn a old ≡ false
  pub trace : new ≡ entry_by script old (record { actor = a; input = input }) ∷ old

-- the actor would make nothing
pub record IsIdleActor (script : Script) (t : List Entry) (a : Actor) (input : Input) : Type 0 where
  pub running : has_halted script t a ≡ false
  pub nothing : does_something input (made_of script t a input) ≡ false

-- the actor has made all the entries that it may make
pub record IsSpentActor (script : Script) (t : List Entry) (a : Actor) (input : Input) (b : Actor) : Type 0 where
  pub running : has_halted script t a ≡ false
  pub enough : does_something input (made_of script t a input) ≡ true
  pub worn : is_worn a t ≡ true
  pub actor : b ≡ a

-- why an actor that hasn't halted and would make something didn't take the input
abbrev pub FailsTurn : Script → List Entry → Actor → Input → DrainError → Type 0
FailsTurn script t a input Memory = ⊤
FailsTurn script t a input (Worn b) = IsSpentActor script t a input b

-- what became of an input that an actor was given which hasn't halted
abbrev pub IsTurn : Script → List Entry → List Entry → Actor → Input → Result Bool DrainError → Type 0
IsTurn script old new a input (Ok true) = HasTurn script old new a input
IsTurn script old new a input (Ok false) = IsIdleActor script old a input
IsTurn script old new a input (Err error) = FailsTurn script old a input error

-- why the actor didn't take the input
abbrev pub HasNoTurn : Script → List Entry → Actor → Input → StepError → Type 0
HasNoTurn script t a input an_error.Memory = ⊤
HasNoTurn script t a input an_error.Unsent = ⊥
HasNoTurn script t a input an_error.Halted = has_halted script t a ≡ true
HasNoTurn script t a input an_error.NotServer = ⊥
HasNoTurn script t a input an_error.Idle = IsIdleActor script t a input
HasNoTurn script t a input (an_error.Worn b) = IsSpentActor script t a input b
