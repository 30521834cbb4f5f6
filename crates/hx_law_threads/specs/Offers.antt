-- How often each post was put into its receiver's mailbox, and what follows for those that were lost and those that came twice.
use Rattle.std.specs.Prelude.{◌≡◌, ◌≤◌, ℕ, ◌*◌, eqb, true, List, length}
use Rattle.std.specs.List.{AllByRecursion}
use Rattle.hx_model.specs.Types.{Entry, PostId, Script}
use Rattle.hx_clock.specs.Views.{one, total}
use Rattle.hx_law_threads.specs.Cuts.{delivered_at, is_to_halted, open_at, posted_at, whole_of, Cut}
use Rattle.hx_law_threads.specs.Pacing.{AreRepeatedAtMost}

-- a post, and how often it was put
pub record Offer : Type 0 where
  pub post : PostId
  pub times : ℕ

-- how many of the posts were put so often
abbrev pub put_times : ℕ → List Offer → ℕ
put_times n offers = total (λ (o : Offer). one (eqb o.times n)) offers

-- each post of the cut was offered once: whatever posts are weighed by, both weigh the same
abbrev pub AreOffered : Cut → List Entry → List Offer → Type 0
AreOffered cut trace offers = (h : PostId → ℕ) → total h (posted_at cut trace) ≡ total (λ (o : Offer). h o.post) offers

-- as often as posts were put they were delivered, those to halted servers aside
pub record AllCame (script : Script) (cut : Cut) (trace : List Entry) (offers : List Offer) : Type 0 where
  pub offered : AreOffered cut trace offers
  pub came :
      (h : PostId → ℕ) → ((id : PostId) → is_to_halted script cut trace id ≡ true → h id ≡ 0)
      → total h (delivered_at cut trace) ≡ total (λ (o : Offer). o.times * h o.post) offers

-- then no more are open than were never put
abbrev pub OpenWereLost : Type 0
OpenWereLost =
    (script : Script) (cut : Cut) (trace : List Entry) (offers : List Offer) → AllCame script cut trace offers
    → length (open_at script cut trace) ≤ put_times 0 offers

-- posts were put at most twice, and no delivery is of one that wasn't put as often
pub record NoMoreCame (trace : List Entry) (offers : List Offer) : Type 0 where
  pub offered : AreOffered (whole_of trace) trace offers
  pub twice : AllByRecursion (λ (o : Offer). o.times ≤ 2) offers
  pub came : (h : PostId → ℕ) → total h (delivered_at (whole_of trace) trace) ≤ total (λ (o : Offer). o.times * h o.post) offers

-- then none is delivered thrice, and no more twice than were put twice
abbrev pub RepeatsWerePut : Type 0
RepeatsWerePut = (trace : List Entry) (offers : List Offer) → NoMoreCame trace offers → AreRepeatedAtMost trace (put_times 2 offers)
