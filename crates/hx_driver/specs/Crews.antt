-- A crew: the actors of one driver with its ports, its totals and its fault.
use Rattle.std.specs.Prelude.{ℕ, ◌≡◌, ◌+◌, ◌*◌, ◌≤◌, ◌⊎◌, Bool, List, length, None, Some}
use Rattle.std.specs.List.{AllByRecursion}
use Rattle.atomic_table.specs.Seated.{TableId}
use Rattle.hx_types.specs.declared.limits.TheConstants.{MOST_ACTORS, MOST_ENTRIES}
use Rattle.hx_types.specs.declared.totals.Totals.{Totals}
use Rattle.hx_types.specs.declared.traces.Script.{Script}
use Rattle.hx_types.specs.Words.{IsIn}
use Rattle.hx_clock.specs.Views.{total}
use Rattle.hx_mail.specs.declared.views.Mailed.{Mailed}
use Rattle.hx_mail.specs.Boxes.{Boxed}
use Rattle.hx_outbox.specs.declared.outboxes.Outbox.{Outbox}
use Rattle.hx_outbox.specs.Outboxes.{IsOutbox, kept_weight, out_weight}
use Rattle.hx_fate.specs.declared.fates.FateState.{FateState}
use Rattle.hx_outbox.specs.Offers.{IsOffered, IsTotal}
use Rattle.hx_driver.specs.declared.desks.Desk.{Desk}
use Rattle.hx_driver.specs.declared.faults.Fault.TheVariants as a_fault
use Rattle.hx_driver.specs.Desks.{IsBrokenDesk, IsWholeDesk, made_by}
use Rattle.hx_driver.specs.Turns.{HasMoreToMake}
use Rattle.hx_driver.specs.declared.crews.Crew.{Crew}

-- h of all that the driver put, or keeps for one of its actors
abbrev pub weight_in : (Mailed → ℕ) → Outbox → List Desk → ℕ
weight_in h out desks = out_weight h out.ports.items + total (λ (d : Desk). kept_weight h d.kept.items) desks

-- h of all posts that the actors made
abbrev pub made_weight : (Mailed → ℕ) → List Desk → ℕ
made_weight h desks = total (λ (d : Desk). total h (made_by d.part.items)) desks

abbrev pub no_totals : Totals
no_totals = record { posts = 0; deliver = 0; lose = 0; twice = 0 }

-- the posts that the actors made between two moments were offered, each once, and what was put or is kept comes from there
pub record IsPosted (c c' : Crew) (f f' : FateState) : Type 0 where
  pub posts : List Mailed
  pub offered : IsOffered (λ h. weight_in h c.out c.desks.items) (λ h. weight_in h c'.out c'.desks.items) c.totals c'.totals f f' posts
  pub made : (h : Mailed → ℕ) → made_weight h c.desks.items + total h posts ≡ made_weight h c'.desks.items

-- the same from the beginning, with some state of a fate
pub record IsBooked (c : Crew) : Type 0 where
  pub posts : List Mailed
  pub before : FateState
  pub after : FateState
  pub offered : IsOffered (λ h. 0) (λ h. weight_in h c.out c.desks.items) no_totals c.totals before after posts
  pub made : (h : Mailed → ℕ) → total h posts ≡ made_weight h c.desks.items
  -- no entry made more posts than can be numbered
  pub few : made_weight (λ m. 1) c.desks.items ≤ 4294967296 * total (λ (d : Desk). length d.part.items) c.desks.items

-- a desk of a crew: only a fault left something undelivered that a running actor took
pub record IsDeskOf (script : Script) (clock : TableId) (boxes : List Boxed) (w : ℕ) (c : Crew) (d : Desk) : Type 0 where
  pub broken : IsBrokenDesk script clock boxes w d
  pub whole : c.fault ≡ None → IsWholeDesk script clock boxes w d

-- one of the actors is worn: it has made the most entries that it may make, and has one more to make; `retry` is whether that entry is a retry
pub record HasWorn (script : Script) (retry : Bool) (c : Crew) : Type 0 where
  pub desk : Desk
  pub is : IsIn desk c.desks.items
  pub fault : c.fault ≡ Some (a_fault.Worn desk.actor)
  pub most : length desk.part.items ≡ MOST_ENTRIES
  pub more : HasMoreToMake script retry desk

-- the fault is a want of memory, or one of the actors is worn
abbrev pub HasFault : Script → Bool → Crew → Type 0
HasFault script retry c = (c.fault ≡ None) ⊎ ((c.fault ≡ Some a_fault.Memory) ⊎ HasWorn script retry c)

pub record IsCrew (script : Script) (clock : TableId) (boxes : List Boxed) (w : ℕ) (c : Crew) : Type 0 where
  pub out : IsOutbox boxes c.out
  pub desks : AllByRecursion (IsDeskOf script clock boxes w c) c.desks.items
  pub many : length c.desks.items ≤ MOST_ACTORS
  pub booked : IsBooked c
  pub total : IsTotal c.totals
  pub fault : (retry : Bool) × HasFault script retry c
