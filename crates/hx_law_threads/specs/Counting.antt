-- What the entries of a cut add up to, on the trace and on the parts of which it is merged.
use Rattle.std.specs.Prelude.{◌≡◌, ◌≤◌, ℕ, ◌+◌, Bool, true, false, cond, List, [], ◌∷◌, length, take}
use Rattle.hx_model.specs.Types.{Entry, PostId, Script}
use Rattle.hx_types.specs.Words.{IsIn}
use Rattle.hx_model.specs.Schedule.{names_from}
use Rattle.hx_clock.specs.declared.parts.Stamped.{Stamped}
use Rattle.hx_clock.specs.Views.{one, total}
use Rattle.hx_law_threads.specs.Own.{past_of}
use Rattle.hx_law_threads.specs.Merged.{parts_in, ActorPart, AreOwnParts, AreWholeParts, IsMerged}
use Rattle.hx_law_threads.specs.Cuts.{delivered_at, delivered_by, is_in_cut, is_to_halted, open_at, posted_at, times_named, whole_of, Cut}

-- f of the number and of the entry, added up over the entries of a cut
abbrev pub total_at : (ℕ → Entry → ℕ) → Cut → List Entry → ℕ
total_at f cut [] = 0
total_at f cut (x ∷ older) = total_at f cut older + cond (is_in_cut cut x.actor older) (f (length older + 1) x) 0

-- the same over some entries with their stamps, whose numbers are their stamps plus 1
abbrev pub total_over : (ℕ → Entry → ℕ) → List Stamped → ℕ
total_over f part = total (λ (x : Stamped). f (x.stamp.0 + 1) x.entry) part

-- the same over the entries of a cut, part by part
abbrev pub total_of_parts : (ℕ → Entry → ℕ) → Cut → List ActorPart → ℕ
total_of_parts f cut whole = total (λ (p : ActorPart). total_over f (take (cut p.actor) p.part)) whole

-- what the entries of a cut add up to can be counted part by part
abbrev pub CutsAddUp : Type 0
CutsAddUp =
    (script : Script) (whole : List ActorPart) (merged : List Stamped)
    → AreOwnParts script whole → AreWholeParts (parts_in whole) → IsMerged (parts_in whole) merged
    → (f : ℕ → Entry → ℕ) (cut : Cut) → total_at f cut (past_of merged) ≡ total_of_parts f cut whole

-- and so what all entries of the trace add up to
abbrev pub TracesAddUp : Type 0
TracesAddUp =
    (script : Script) (whole : List ActorPart) (merged : List Stamped)
    → AreOwnParts script whole → AreWholeParts (parts_in whole) → IsMerged (parts_in whole) merged
    → (f : ℕ → Entry → ℕ) → total_at f (whole_of (past_of merged)) (past_of merged) ≡ total (λ (p : ActorPart). total_over f p.part) whole

-- what the posts that an entry made, or delivered, weigh
abbrev pub weight_made : (PostId → ℕ) → ℕ → Entry → ℕ
weight_made h number x = total h (names_from number 0 x.outputs)

abbrev pub weight_delivered : (PostId → ℕ) → ℕ → Entry → ℕ
weight_delivered h number x = total h (delivered_by x.input)

-- what the posts of a cut weigh is what its entries add up to
pub record PostsWeigh (h : PostId → ℕ) (cut : Cut) (trace : List Entry) : Type 0 where
  pub made : total h (posted_at cut trace) ≡ total_at (weight_made h) cut trace
  pub delivered : total h (delivered_at cut trace) ≡ total_at (weight_delivered h) cut trace

abbrev pub PostsOfCutsWeigh : Type 0
PostsOfCutsWeigh = (h : PostId → ℕ) (cut : Cut) (trace : List Entry) → PostsWeigh h cut trace

-- whatever holds of no post that was delivered and of none to a halted server holds of at most so many
abbrev pub AtMostUndelivered : Script → Cut → List Entry → ℕ → Type 0
AtMostUndelivered script cut trace lost =
    (test : PostId → Bool) → ((id : PostId) → IsIn id (delivered_at cut trace) → test id ≡ false)
    → ((id : PostId) → is_to_halted script cut trace id ≡ true → test id ≡ false)
    → total (λ (id : PostId). one (test id)) (posted_at cut trace) ≤ lost

-- then at most so many are open
abbrev pub OpenAreCounted : Type 0
OpenAreCounted =
    (script : Script) (cut : Cut) (trace : List Entry) (lost : ℕ) → AtMostUndelivered script cut trace lost → length (open_at script cut trace) ≤ lost

-- no name is of two posts
abbrev pub PostsAreNamedOnce : Type 0
PostsAreNamedOnce = (cut : Cut) (trace : List Entry) (id : PostId) → times_named id (posted_at cut trace) ≤ 1
