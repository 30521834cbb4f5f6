-- All crews of a run: their actors, parts and totals, and the cut that their entries make.
use Rattle.std.specs.Prelude.{ℕ, ◌≡◌, true, List, [], ◌∷◌, map, length, if◌then◌else◌}
use Rattle.std.specs.List.{IsDistinct, flat_map}
use Rattle.hx_model.specs.Types.{Actor, Script}
use Rattle.hx_types.specs.Words.{below, same_actor, IsIn}
use Rattle.hx_model.specs.Runs.{is_actor}
use Rattle.hx_clock.specs.Views.{total}
use Rattle.hx_law_threads.specs.Cuts.{Cut}
use Rattle.hx_law_threads.specs.Merged.{ActorPart}
use Rattle.hx_driver.specs.declared.desks.Desk.{Desk}
use Rattle.hx_driver.specs.declared.crews.Crew.{Crew}

abbrev pub desks_of : List Crew → List Desk
desks_of crews = flat_map (λ (c : Crew). c.desks.items) crews

abbrev pub part_of : Desk → ActorPart
part_of d = record { actor = d.actor; part = d.part.items }

abbrev pub parts_of : List Crew → List ActorPart
parts_of crews = map part_of (desks_of crews)

-- each actor of the script is at one desk
pub record HaveAllActors (script : Script) (crews : List Crew) : Type 0 where
  pub all : (a : Actor) → is_actor script a ≡ true → (d : Desk) × IsIn d (desks_of crews) × (d.actor ≡ a)
  pub apart : IsDistinct same_actor (map (λ (d : Desk). d.actor) (desks_of crews))

-- crew j, from 0, has the ports of the name j + 1
abbrev pub AreNumbered : ℕ → List Crew → Type 0
AreNumbered w crews = map (λ (c : Crew). c.out.index) crews ≡ below w

-- how many entries an actor has made
abbrev pub entries_at : List Desk → Cut
entries_at [] a = 0
entries_at (d ∷ rest) a = if same_actor d.actor a then length d.part.items else entries_at rest a

abbrev pub cut_of : List Crew → Cut
cut_of crews = entries_at (desks_of crews)

abbrev pub lost_by : List Crew → ℕ
lost_by crews = total (λ (c : Crew). c.totals.lose) crews

abbrev pub doubled_by : List Crew → ℕ
doubled_by crews = total (λ (c : Crew). c.totals.twice) crews
