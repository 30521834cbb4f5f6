-- Entries with their stamps, the parts that actors make of them, and which parts are causal.
use Rattle.std.specs.Prelude.{ℕ, ◌≡◌, ◌+◌, ◌<◌, eqb, List, map, flat_map, Some, slice_get, IsPermutation, ⊤}
use Rattle.std.specs.List.{AllByRecursion, IsDistinct}
use Rattle.std.specs.List.Sorted.{IsStrictlyIncreasing}
use Rattle.hx_types.specs.declared.messages.Post.{Post}
use Rattle.hx_types.specs.declared.messages.PostId.{PostId}
use Rattle.hx_types.specs.declared.ids.Actor.{Actor}
use Rattle.hx_types.specs.declared.traces.Entry.{Entry}
use Rattle.hx_types.specs.declared.traces.Input.{Input}
use Rattle.hx_types.specs.declared.traces.Input.TheVariants.{Tick, Halt, Deliver}
use Rattle.hx_types.specs.Words.{below, post, IsIn}
use Rattle.hx_clock.specs.declared.parts.Stamped.{Stamped}

-- an entry with its stamp
abbrev pub stamped : ℕ → Entry → Stamped
stamped n entry = record { stamp = record { 0 = n }; entry = entry }

-- the entry made the post of this name: its number is its stamp plus 1
abbrev pub Posted : Stamped → PostId → Post → Type 0
Posted x id p = (x.stamp.0 + 1 ≡ id.entry) × (slice_get x.entry.outputs id.place ≡ Some p)

-- what an actor takes is a post, addressed to it, that P holds of, or no post
abbrev pub InputMeets : (PostId → Post → Type 0) → Actor → Input → Type 0
InputMeets P actor Tick = ⊤
InputMeets P actor Halt = ⊤
InputMeets P actor (Deliver id from message) = P id (post from actor message)

-- P holds of the post that the entry delivers, addressed to the entry's actor, if it delivers one
abbrev pub DeliveryMeets : (PostId → Post → Type 0) → Entry → Type 0
DeliveryMeets P entry = InputMeets P entry.actor entry.input

-- all entries of the parts, one part after another
abbrev pub all_of : List (List Stamped) → List Stamped
all_of parts = flat_map (λ part. part) parts

abbrev pub stamps_of : List Stamped → List ℕ
stamps_of xs = map (λ x. x.stamp.0) xs

-- an entry with a stamp below n made the post
abbrev pub IsPostedBefore : List Stamped → ℕ → PostId → Post → Type 0
IsPostedBefore xs n id p = ∥ ((x : Stamped) × IsIn x xs × (x.stamp.0 < n) × Posted x id p) ∥₁

-- the parts are causal
pub record IsCausal (parts : List (List Stamped)) : Type 0 where
  -- stamps ascend within a part
  pub ascend : AllByRecursion (λ part. IsStrictlyIncreasing (stamps_of part)) parts
  -- all stamps differ
  pub differ : IsDistinct eqb (stamps_of (all_of parts))
  -- each post that is delivered was made by an entry with a smaller stamp, for the actor that takes it
  pub caused : AllByRecursion (λ x. DeliveryMeets (IsPostedBefore (all_of parts) x.stamp.0) x.entry) (all_of parts)

-- the stamps of the parts are the numbers below n, each once
abbrev pub HasStampsBelow : ℕ → List (List Stamped) → Type 0
HasStampsBelow n parts = IsPermutation (below n) (stamps_of (all_of parts))
