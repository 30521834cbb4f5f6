-- When retries come: together, and only where no other step is left but for what was lost.
use Rattle.std.specs.Prelude.{◌≡◌, ℕ, ◌+◌, ◌≤◌, Bool, true, false, List, [], ◌∷◌, length, Some, ⊤}
use Rattle.std.specs.List.{AllByRecursion}
use Rattle.hx_model.specs.Types.{Actor, Entry, PostId, Script}
use Rattle.hx_types.specs.Words.{when_some, IsIn}
use Rattle.hx_model.specs.Runs.{entry_at, is_actor}
use Rattle.hx_model.specs.Schedule.{entries_of}
use Rattle.hx_law_threads.specs.Own.{own_entries}
use Rattle.hx_law_threads.specs.Cuts.{delivered_at, delivered_twice, is_retry, is_waiting, next_at, open_at, own_at}
use Rattle.hx_law_threads.specs.Cuts.{times_named, whole_of, Cut, HasCallUnderWay}

-- none is smaller at any actor than the one after it in the list, which is the one before it in time
abbrev pub AreRising : List Cut → Type 0
AreRising [] = ⊤
AreRising (cut ∷ []) = ⊤
AreRising (cut ∷ before ∷ older) = ((a : Actor) → before a ≤ cut a) × AreRising (before ∷ older)

-- each retry is its actor's first entry after one of the cuts
abbrev pub RetriesFollow : List Entry → List Cut → Type 0
RetriesFollow trace cuts =
    (a : Actor) (n : ℕ) (x : Entry) → entry_at (n + 1) (own_entries a trace) ≡ Some x → is_retry x ≡ true
    → (cut : Cut) × IsIn cut cuts × (cut a ≡ n)

-- the actor's first entry after the cut is a retry
abbrev pub retries_at : Cut → List Entry → Actor → Bool
retries_at cut trace a = when_some (next_at cut trace a) false is_retry

-- after the cut those retry first who waited there, and nobody else
abbrev pub WaitersRetry : Script → List Entry → Cut → Type 0
WaitersRetry script trace cut = (a : Actor) → is_actor script a ≡ true → retries_at cut trace a ≡ is_waiting script (own_at cut trace a) a

-- the cuts but the last one
abbrev pub earlier : List Cut → List Cut
earlier [] = []
earlier (cut ∷ older) = older

-- the retries of a trace come at these cuts, the last cut first; `lost` is how many posts may be lost
pub record IsPacedBy (script : Script) (trace : List Entry) (lost : ℕ) (cuts : List Cut) : Type 0 where
  pub within : AllByRecursion (λ (cut : Cut). (a : Actor) → cut a ≤ entries_of a trace) cuts
  pub rising : AreRising cuts
  pub retries : RetriesFollow trace cuts
  pub waiters : AllByRecursion (WaitersRetry script trace) (earlier cuts)
  pub calls : AllByRecursion (HasCallUnderWay trace) cuts
  pub few_open : AllByRecursion (λ (cut : Cut). length (open_at script cut trace) ≤ lost) cuts

-- no post is delivered more than twice, and at most so many twice
pub record AreRepeatedAtMost (trace : List Entry) (repeats : ℕ) : Type 0 where
  pub thrice : (id : PostId) → times_named id (delivered_at (whole_of trace) trace) ≤ 2
  pub twice : length (delivered_twice trace) ≤ repeats

-- a trace in which an actor retries only where nothing else can go on, posts aside that were lost
pub record IsPaced (script : Script) (trace : List Entry) (lost repeats : ℕ) : Type 0 where
  pub cuts : List Cut
  pub paced : IsPacedBy script trace lost cuts
  pub repeated : AreRepeatedAtMost trace repeats

-- the same of a trace that ended: the last cut is like the others, and at the end too only what was lost is open
pub record IsPacedToEnd (script : Script) (trace : List Entry) (lost repeats : ℕ) : Type 0 where
  pub cuts : List Cut
  pub paced : IsPacedBy script trace lost cuts
  pub waiters : AllByRecursion (WaitersRetry script trace) cuts
  pub few_open : length (open_at script (whole_of trace) trace) ≤ lost
  pub repeated : AreRepeatedAtMost trace repeats
