-- A group: one search, and then a conditional put for each of its rows.
use Rattle.std.specs.Prelude.{◌≡◌, ◌≢◌, ◌⊎◌, ℕ, ◌+◌, not, List, [], ◌∷◌, ◌++◌, length, map, Err}
use Rattle.std.specs.List.{filter}
use mathlib.Core.List.{IsPrefix}
use Rattle.hx_model.specs.Types.{Assign, Cput, Op, Row, Search, SessionId, Term, Value}
use Rattle.hx_types.specs.Fitting.{calls_of, is_done}
use Rattle.hx_types.specs.Words.{when_some}
use Rattle.hx_model.specs.Schedule.{IsQuiet}
use Rattle.hx_model.specs.Searching.{rows_in}
use Rattle.hx_service.specs.declared.errors.ServiceError.{ServiceError}
use Rattle.hx_service.specs.declared.errors.ServiceError.TheVariants as an_error
use Rattle.hx_service.specs.declared.putting.Grouped.{Grouped}
use Rattle.hx_service.specs.declared.receipts.Receipt.{Receipt}
use Rattle.hx_service.specs.Receipts.{IsFree, receipts_by}
use Rattle.hx_service.specs.Services.{Calls, Grows, ServiceState, newest}

-- the tests for these values, of the attributes behind those before
abbrev pub tests_from : ℕ → List Value → List Assign
tests_from before [] = []
tests_from before (v ∷ rest) = record { attribute = before + 1; value = v } ∷ tests_from (before + 1) rest

-- the put of a row: it is done where the key's object is the one that was found
abbrev pub put_of : List Assign → Row → Op
put_of sets r = Cput r.key (tests_from 0 r.object) sets

-- the rows that a receipt tells of: none where the search was refused
abbrev pub rows_told : Receipt → List Row
rows_told r = when_some (rows_in r.answer) [] (λ (rows : List Row). rows)

-- the calls of a group whose search has this receipt
abbrev pub group_calls : List Term → List Assign → Receipt → List Op
group_calls terms sets search = Search terms ∷ map (put_of sets) (rows_told search)

-- the session made these calls, no other session any, and its receipts have these more: one of each, in the order of the calls
pub record HasMade (old : ServiceState) (u : SessionId) (ops : List Op) (new : ServiceState) (receipts : List Receipt) : Type 0 where
  pub calls : calls_of new.script u ≡ calls_of old.script u ++ ops
  pub others : (v : SessionId) → v ≢ u → calls_of new.script v ≡ calls_of old.script v
  pub booked : receipts_by u (newest new) ≡ receipts_by u (newest old) ++ receipts
  pub each : length receipts ≡ length ops
  pub grows : Grows old new

-- how many of the calls were done
abbrev pub done_in : List Receipt → ℕ
done_in receipts = length (filter (λ (r : Receipt). is_done r.answer) receipts)

-- how many were answered otherwise
abbrev pub left_in : List Receipt → ℕ
left_in receipts = length (filter (λ (r : Receipt). not (is_done r.answer)) receipts)

-- these puts were counted
pub record Counts (g : Grouped) (puts : List Receipt) : Type 0 where
  pub done : g.done ≡ done_in puts
  pub left : g.left ≡ left_in puts

-- the group was made: its search and a put for each row of it, in their order, all answered, and the puts are counted
pub record IsGrouped (old : ServiceState) (u : SessionId) (terms : List Term) (sets : List Assign) (new : ServiceState) (g : Grouped) : Type 0 where
  pub search : Receipt
  pub puts : List Receipt
  pub made : HasMade old u (group_calls terms sets search) new (search ∷ puts)
  pub counts : Counts g puts
  pub quiet : IsQuiet new.script (newest new)
  pub free : IsFree new.script (newest new) u

-- the call that a group makes after those of which it has these receipts
abbrev pub IsNextOf : List Term → List Assign → List Receipt → List Op → Op → Type 0
IsNextOf terms sets [] made next = (made ≡ []) × (next ≡ Search terms)
IsNextOf terms sets (search ∷ puts) made next = IsPrefix (made ++ next ∷ []) (group_calls terms sets search)

-- what a call's error leaves, or there was no memory to make the call ready, and nothing changed
abbrev pub FailsAt : ServiceState → SessionId → Op → ServiceState → ServiceError → Type 0
FailsAt old u op new e = Calls old u op new (Err e) ⊎ ((new ≡ old) × (e ≡ an_error.Memory))

-- the group was made up to a call that has no receipt
pub record IsStopped (old : ServiceState) (u : SessionId) (terms : List Term) (sets : List Assign) (new : ServiceState) (e : ServiceError) : Type 0 where
  pub ops : List Op
  pub receipts : List Receipt
  pub mid : ServiceState
  pub next : Op
  pub made : HasMade old u ops mid receipts
  pub next_is : IsNextOf terms sets receipts ops next
  pub fails : FailsAt mid u next new e
  pub grows : Grows mid new
