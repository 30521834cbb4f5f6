-- What a world can be asked to do next, apart from its schedule: its first delivery, and the next call of a session; traces stand here newest first.
use Rattle.std.specs.Prelude.{◌≡◌, Bool, true, false, List, ◌∷◌, Option, None, Some, ⊤}
use Rattle.hx_model.specs.Types.{Entry, Script, Session, SessionId, Tick}
use Rattle.hx_model.specs.Schedule.{Next, entry_by, first_delivery, is_worn, undelivered}
use Rattle.hx_world.specs.declared.ends.DrainError.{DrainError}
use Rattle.hx_world.specs.declared.ends.DrainError.TheVariants.{Memory, Worn}

-- the delivery of the lowest post never delivered whose receiver hasn't halted
abbrev pub delivery_in : Script → List Entry → Option Next
delivery_in script trace = first_delivery script trace (undelivered trace)

-- the session's own turn
abbrev pub tick_of : SessionId → Next
tick_of u = record { actor = Session u; input = Tick }

-- this entry was made
abbrev pub Makes : Script → List Entry → List Entry → Next → Type 0
Makes script old new next = new ≡ entry_by script old next ∷ old

-- the first delivery was made, if there is one
abbrev pub DeliversNext : Script → List Entry → List Entry → Bool → Type 0
DeliversNext script old new true = (next : Next) × (delivery_in script old ≡ Some next) × Makes script old new next
DeliversNext script old new false = (delivery_in script old ≡ None) × (new ≡ old)

-- why this entry wasn't made: there was no memory, or its actor has made all the entries that it may make
abbrev pub FailsAt : List Entry → Option Next → DrainError → Type 0
FailsAt trace next Memory = ⊤
FailsAt trace next (Worn a) = (n : Next) × (next ≡ Some n) × (n.actor ≡ a) × (is_worn a trace ≡ true)
