-- The parts of several actors as one list.
use Rattle.std.specs.Prelude.{◌≡◌, ℕ, true, List, length, map, IsPermutation}
use Rattle.std.specs.List.{AllByRecursion, IsDistinct}
use Rattle.std.specs.List.Sorted.{IsStrictlyIncreasing}
use Rattle.hx_model.specs.Types.{Actor, Entry, Script}
use Rattle.hx_types.specs.Words.{below, same_actor}
use Rattle.hx_model.specs.Runs.{is_actor}
use Rattle.hx_clock.specs.declared.parts.Stamped.{Stamped}
use Rattle.hx_clock.specs.Parts.{all_of, stamps_of, HasStampsBelow, IsCausal}
use Rattle.hx_law_threads.specs.Own.{own_entries, past_of, IsOwn}

-- all entries of the parts, each once and nothing else, in the order of their stamps
pub record IsMerged (parts : List (List Stamped)) (merged : List Stamped) : Type 0 where
  pub all : IsPermutation (all_of parts) merged
  pub by_stamp : IsStrictlyIncreasing (stamps_of merged)

-- an entry's stamp is its place from 0, so that its number is its stamp plus 1
abbrev pub HasStampsAsPlaces : List Stamped → Type 0
HasStampsAsPlaces merged = stamps_of merged ≡ below (length merged)

-- what an actor made
pub record ActorPart : Type 0 where
  pub actor : Actor
  pub part : List Stamped

abbrev pub parts_in : List ActorPart → List (List Stamped)
parts_in whole = map (λ (p : ActorPart). p.part) whole

abbrev pub actors_in : List ActorPart → List Actor
actors_in whole = map (λ (p : ActorPart). p.actor) whole

-- the part holds the steps of an actor of the script
abbrev pub IsOwnPart : Script → ActorPart → Type 0
IsOwnPart script p = (is_actor script p.actor ≡ true) × IsOwn script p.actor (past_of p.part)

-- what actors of the script made on their own, each actor once
pub record AreOwnParts (script : Script) (whole : List ActorPart) : Type 0 where
  pub own : AllByRecursion (IsOwnPart script) whole
  pub apart : IsDistinct same_actor (actors_in whole)

-- the parts are causal, and their stamps are the numbers from 0, each once and none left out
pub record AreWholeParts (parts : List (List Stamped)) : Type 0 where
  pub causal : IsCausal parts
  pub drawn : ℕ
  pub stamps : HasStampsBelow drawn parts

-- each actor's entries in the trace are those of its part, in order
abbrev pub HasOwnParts : List ActorPart → List Entry → Type 0
HasOwnParts whole trace = AllByRecursion (λ (p : ActorPart). own_entries p.actor trace ≡ past_of p.part) whole
