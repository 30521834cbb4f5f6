-- The pace of a trace, as it is read in the parts of which it is merged.
use Rattle.std.specs.Prelude.{◌≡◌, ◌≢◌, ◌≤◌, ℕ, true, false, List, length, take, Some}
use Rattle.std.specs.List.{AllByRecursion}
use Rattle.hx_model.specs.Types.{Actor, Entry, Script, Session, SessionId}
use Rattle.hx_types.specs.Words.{when_some, IsIn}
use Rattle.hx_model.specs.Runs.{is_actor, session_of}
use Rattle.hx_model.specs.Schedule.{entries_of}
use Rattle.hx_clock.specs.declared.parts.Stamped.{Stamped}
use Rattle.hx_law_threads.specs.Own.{past_of}
use Rattle.hx_law_threads.specs.Merged.{parts_in, ActorPart, AreOwnParts, AreWholeParts, IsMerged}
use Rattle.hx_law_threads.specs.Cuts.{is_retry, is_waiting, Cut, HasCallUnderWay}
use Rattle.hx_law_threads.specs.Pacing.{earlier, AreRising, IsPacedBy, RetriesFollow, WaitersRetry}
use Rattle.hx_law_threads.specs.Offers.{put_times, AllCame, Offer}
use Rattle.hx_law_threads.specs.Laws.{entry_in}

-- what an actor had made at a cut
abbrev pub past_at : Cut → ActorPart → List Entry
past_at cut p = past_of (take (cut p.actor) p.part)

-- each actor of the script has a part
abbrev pub HasAllActors : Script → List ActorPart → Type 0
HasAllActors script whole = (a : Actor) → is_actor script a ≡ true → (p : ActorPart) × IsIn p whole × (a ≡ p.actor)

-- the parts have the entries of the cut
pub record HaveCut (whole : List ActorPart) (cut : Cut) : Type 0 where
  pub within : AllByRecursion (λ (p : ActorPart). cut p.actor ≤ length p.part) whole
  pub others : (a : Actor) → AllByRecursion (λ (p : ActorPart). p.actor ≢ a) whole → cut a ≡ 0

-- each retry is the first entry of its part after one of the cuts
abbrev pub PartsFollow : List ActorPart → List Cut → Type 0
PartsFollow whole cuts =
    AllByRecursion
    (
    λ (p : ActorPart). (n : ℕ) (x : Entry) → entry_in p.part n ≡ Some x → is_retry x ≡ true → (cut : Cut) × IsIn cut cuts × (cut p.actor ≡ n)
    )
    whole

-- the first entry of a part after the cut is a retry exactly where its actor waited
abbrev pub PartsRetry : Script → List ActorPart → Cut → Type 0
PartsRetry script whole cut =
    AllByRecursion (λ (p : ActorPart). when_some (entry_in p.part (cut p.actor)) false is_retry ≡ is_waiting script (past_at cut p) p.actor) whole

-- a session had a call under way
abbrev pub HasSessionUnderWay : Script → List ActorPart → Cut → Type 0
HasSessionUnderWay script whole cut =
    (p : ActorPart) × IsIn p whole × ((u : SessionId) × (p.actor ≡ Session u) × ((session_of script u (past_at cut p)).under_way ≡ true))

-- what the parts tell of the pace of their trace
pub record TellPace (script : Script) (whole : List ActorPart) (trace : List Entry) : Type 0 where
  pub within : (cut : Cut) → HaveCut whole cut → (a : Actor) → cut a ≤ entries_of a trace
  pub retries : (cuts : List Cut) → PartsFollow whole cuts → RetriesFollow trace cuts
  pub waiters : (cut : Cut) → HasAllActors script whole → PartsRetry script whole cut → WaitersRetry script trace cut
  pub calls : (cut : Cut) → HasSessionUnderWay script whole cut → HasCallUnderWay trace cut

abbrev pub PartsTellPace : Type 0
PartsTellPace =
    (script : Script) (whole : List ActorPart) (merged : List Stamped)
    → AreOwnParts script whole → AreWholeParts (parts_in whole) → IsMerged (parts_in whole) merged
    → TellPace script whole (past_of merged)

-- at the cut posts had been delivered as often as they were put, and at most so many were never put
pub record IsSettled (script : Script) (trace : List Entry) (lost : ℕ) (cut : Cut) : Type 0 where
  pub offers : List Offer
  pub came : AllCame script cut trace offers
  pub never_put : put_times 0 offers ≤ lost

-- the parts of a trace were made with retries at these cuts alone, the last cut first
pub record ArePacedParts (script : Script) (whole : List ActorPart) (trace : List Entry) (lost : ℕ) (cuts : List Cut) : Type 0 where
  pub have : AllByRecursion (HaveCut whole) cuts
  pub rising : AreRising cuts
  pub follow : PartsFollow whole cuts
  pub retry : AllByRecursion (PartsRetry script whole) (earlier cuts)
  pub calls : AllByRecursion (HasSessionUnderWay script whole) cuts
  pub settled : AllByRecursion (IsSettled script trace lost) cuts

-- then their trace is paced by these cuts
abbrev pub PacedPartsPaceTraces : Type 0
PacedPartsPaceTraces =
    (script : Script) (whole : List ActorPart) (merged : List Stamped)
    → AreOwnParts script whole → AreWholeParts (parts_in whole) → IsMerged (parts_in whole) merged → HasAllActors script whole
    → (lost : ℕ) (cuts : List Cut) → ArePacedParts script whole (past_of merged) lost cuts → IsPacedBy script (past_of merged) lost cuts
