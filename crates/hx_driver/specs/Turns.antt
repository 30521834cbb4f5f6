-- What a turn of an actor does: which entries came, what was posted for them, and why a turn may fail.
use Rattle.std.specs.Prelude.{ℕ, ◌≡◌, ◌≢◌, ◌+◌, ◌≤◌, ◌<◌, ◌^◌, Bool, true, false, List, ◌++◌, length, map, ⊤}
use Rattle.hx_types.specs.declared.limits.TheConstants.{MOST_ENTRIES}
use Rattle.hx_types.specs.declared.totals.Totals.{Totals}
use Rattle.hx_types.specs.declared.traces.Input.{Input}
use Rattle.hx_types.specs.declared.traces.Script.{Script}
use Rattle.hx_types.specs.declared.traces.Input.TheVariants.{Halt}
use Rattle.hx_model.specs.Runs.{entry_of, has_halted, made_of, does_something}
use Rattle.hx_clock.specs.declared.parts.Stamped.{Stamped}
use Rattle.hx_law_threads.specs.Cuts.{is_retry}
use Rattle.hx_mail.specs.declared.views.Mailed.{Mailed}
use Rattle.hx_mail.specs.Boxes.{Boxed}
use Rattle.hx_outbox.specs.declared.outboxes.Outbox.{Outbox}
use Rattle.hx_outbox.specs.Outboxes.{IsOutbox, MorePut, kept_weight, out_weight}
use Rattle.hx_fate.specs.declared.fates.FateState.{FateState}
use Rattle.hx_outbox.specs.Offers.{IsOffered, IsTotal}
use Rattle.hx_driver.specs.declared.desks.Desk.{Desk}
use Rattle.hx_driver.specs.declared.faults.Fault.{Fault}
use Rattle.hx_driver.specs.declared.faults.Fault.TheVariants.{Memory, Worn}
use Rattle.hx_driver.specs.Desks.{IsLater, entries_before, made_by, told}
use Rattle.hx_driver.specs.Inboxes.{ins_of}
use Rattle.hx_driver.specs.Told.{told_by}

-- h of all that the actor's driver put, or keeps for the actor
abbrev pub weight_of : (Mailed → ℕ) → Outbox → Desk → ℕ
weight_of h out d = out_weight h out.ports.items + kept_weight h d.kept.items

-- a turn in which these entries came: their posts were offered, each once
pub record IsTurn (boxes : List Boxed) (d d' : Desk) (o o' : Outbox) (t t' : Totals) (f f' : FateState) (xs : List Stamped) : Type 0 where
  pub later : IsLater d d'
  pub part : d'.part.items ≡ d.part.items ++ xs
  pub out : IsOutbox boxes o' × (o'.index ≡ o.index)
  pub more : MorePut o.ports.items o'.ports.items
  pub offered : IsOffered (λ h. weight_of h o d) (λ h. weight_of h o' d') t t' f f' (made_by xs)
  pub total : IsTotal t'
  -- at most one entry came, with fewer posts than can be numbered
  pub one : length xs ≤ 1
  pub few : length (made_by xs) < 2 ^ 32

-- the driver's counts leave room for the posts of one more entry
pub record HasRoom (out : Outbox) (d : Desk) (t : Totals) : Type 0 where
  pub weight : weight_of (λ m. 1) out d < 2 ^ 61
  pub posts : t.posts < 2 ^ 61
  pub total : IsTotal t

-- the actor has one more entry to make: of what was taken for it and not delivered, or of a tick,
-- where that makes something; `retry` is whether that entry is a retry
pub record HasMoreToMake (script : Script) (retry : Bool) (d : Desk) : Type 0 where
  pub input : Input
  pub no_halt : input ≢ Halt
  pub running : has_halted script (entries_before d.part.items) d.actor ≡ false
  -- it was told of all that was taken but for this
  pub told : told d.part.items ++ told_by d.actor input ≡ map (λ s. s.mailed) (ins_of d.inbox)
  pub enough : does_something input (made_of script (entries_before d.part.items) d.actor input) ≡ true
  pub retries : is_retry (entry_of d.actor input (made_of script (entries_before d.part.items) d.actor input)) ≡ retry

-- an actor is worn that has made the most entries that it may make, and has one more to make; `retry` is whether that entry is a retry
abbrev pub IsFaultOf : Script → Bool → Desk → Fault → Type 0
IsFaultOf script retry d Memory = ⊤
IsFaultOf script retry d (Worn a) = (a ≡ d.actor) × (length d.part.items ≡ MOST_ENTRIES) × HasMoreToMake script retry d
