-- What a slice and a retry of a driver leave.
use Rattle.std.specs.Prelude.{ℕ, zero, suc, ◌≡◌, ◌⊎◌, ◌≤◌, true, false, List, [], ◌∷◌, None, Some, ⊤}
use Rattle.hx_types.specs.declared.traces.Script.{Script}
use Rattle.hx_types.specs.Words.{IsIn}
use Rattle.hx_outbox.specs.Outboxes.{MorePut}
use Rattle.hx_outbox.specs.Zipped.{Both}
use Rattle.hx_driver.specs.declared.desks.Desk.{Desk}
use Rattle.hx_driver.specs.declared.faults.Fault.{Fault}
use Rattle.hx_driver.specs.declared.faults.Fault.TheVariants as a_fault
use Rattle.hx_driver.specs.Desks.{HasNoRetry, HasRetried, IsLater}
use Rattle.hx_driver.specs.declared.crews.Crew.{Crew}
use Rattle.hx_driver.specs.Crews.{HasFault, HasWorn}

-- the same crew later: what its actors made, put and took before is a beginning of what they did by now
pub record IsLaterCrew (c c' : Crew) : Type 0 where
  pub index : c'.out.index ≡ c.out.index
  pub put : MorePut c.out.ports.items c'.out.ports.items
  pub desks : Both IsLater c.desks.items c'.desks.items
  pub calm : c'.fault ≡ None → c.fault ≡ None
  -- after a fault nothing changes
  pub stays : (fault : Fault) → c.fault ≡ Some fault → c' ≡ c
  pub lose : c.totals.lose ≤ c'.totals.lose
  pub twice : c.totals.twice ≤ c'.totals.twice

-- no actor retried, and where one was found worn, the entry that it has still to make is no retry
pub record HaveNoRetry (script : Script) (c c' : Crew) : Type 0 where
  pub desks : Both HasNoRetry c.desks.items c'.desks.items
  pub fault : c.fault ≡ None → HasFault script false c'

-- each actor that waited retried, and nothing else was done; after a fault some of them may not have
abbrev pub MayHaveRetried : Script → Desk → Desk → Type 0
MayHaveRetried script d d' = HasRetried script d d' ⊎ (d'.part.items ≡ d.part.items)

-- an actor that made nothing since then is worn, and has a retry to make
pub record HasWornSince (script : Script) (before : List Desk) (c : Crew) : Type 0 where
  pub worn : HasWorn script true c
  pub desk : Desk
  pub was : IsIn desk before
  pub actor : worn.desk.actor ≡ desk.actor
  pub part : worn.desk.part.items ≡ desk.part.items

-- the fault is a want of memory, or such an actor is worn
abbrev pub HasFaultSince : Script → List Desk → Crew → Type 0
HasFaultSince script before c = (c.fault ≡ None) ⊎ ((c.fault ≡ Some a_fault.Memory) ⊎ HasWornSince script before c)

pub record HaveRetried (script : Script) (c c' : Crew) : Type 0 where
  pub calm : c'.fault ≡ None → Both (HasRetried script) c.desks.items c'.desks.items
  pub some : Both (MayHaveRetried script) c.desks.items c'.desks.items
  pub fault : c.fault ≡ None → HasFaultSince script c.desks.items c'

-- the first n actors did what is said, and the others nothing
abbrev pub DoneTo : (Desk → Desk → Type 0) → ℕ → List Desk → List Desk → Type 0
DoneTo R n [] [] = ⊤
DoneTo R n [] (e ∷ es) = ⊥
DoneTo R n (d ∷ ds) [] = ⊥
DoneTo R zero (d ∷ ds) (e ∷ es) = (e ≡ d) × DoneTo R zero ds es
DoneTo R (suc n) (d ∷ ds) (e ∷ es) = R d e × DoneTo R n ds es
