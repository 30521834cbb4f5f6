-- What the rule says at every moment, in terms of what seats carry and know.
use Rattle.std.specs.Prelude.{ℕ, ◌≡◌, ◌≤◌, nat_lt, List, length, flat_map, map, slice_index, Some, ⊤}
use Rattle.std.specs.List.{AllByRecursion}
use mathlib.Core.Option.{some}
use mathlib.Core.List.{IsPrefix}
use lib.ListN.{get_elem?}
use Rattle.atomic_table.specs.Table.{State}
use Rattle.hx_types.specs.declared.limits.TheConstants.{MOST_ENTRIES}
use Rattle.hx_clock.specs.declared.limits.TheConstants.{MOST_ENROLLED}
use Rattle.hx_clock.specs.declared.parts.Stamped.{Stamped}
use Rattle.hx_clock.specs.declared.view.NumberedPart.{NumberedPart}
use Rattle.hx_clock.specs.declared.view.View.{View}
use Rattle.hx_clock.specs.Parts.{IsCausal, HasStampsBelow}
use Rattle.hx_clock.specs.Views.{known_part, one, times, total}
use Rattle.hx_clock.specs.Rule.{counts, IsKept}

-- word 0: the number of stamps drawn
abbrev pub stamps_in : State ⊤ View → ℕ
stamps_in s = slice_index s.words 0

-- word 1: the number of actors enrolled
abbrev pub actors_in : State ⊤ View → ℕ
actors_in s = slice_index s.words 1

-- all that is carried
abbrev pub carried_in : State ⊤ View → List NumberedPart
carried_in s = flat_map (λ v. v.carried) s.views

abbrev pub parts_in : State ⊤ View → List (List Stamped)
parts_in s = map (λ p. p.entries) (carried_in s)

pub record IsOrderly (s : State ⊤ View) : Type 0 where
  -- each number below that of actors is carried by one view, once, and no view carries another
  pub carried_once : (k : ℕ) → total (λ v. times k v.carried) s.views ≡ one (nat_lt k (actors_in s))
  -- one view has a count, and that count is the number of actors
  pub counted_once : total (λ v. counts v.count) s.views ≡ 1
  pub counted : (place n : ℕ) (v : View) → get_elem? s.views place ≡ some v → v.count ≡ Some n → n ≡ actors_in s
  -- the carried parts are causal, and their stamps are the numbers below that of stamps, each once
  pub causal : IsCausal (parts_in s)
  pub stamps : HasStampsBelow (stamps_in s) (parts_in s)
  -- each known part is a prefix of the carried part of its number
  pub known : (place k : ℕ) (v : View) → get_elem? s.views place ≡ some v → IsPrefix (known_part k v.known) (known_part k (carried_in s))
  -- no part is too long, and there are not too many
  pub few_entries : AllByRecursion (λ part. length part ≤ MOST_ENTRIES) (parts_in s)
  pub few_actors : actors_in s ≤ MOST_ENROLLED

-- so it is whenever the rule holds
abbrev pub PartsStayCausal : Type 0
PartsStayCausal = (s : State ⊤ View) → IsKept s → IsOrderly s
