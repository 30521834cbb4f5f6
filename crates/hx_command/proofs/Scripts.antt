-- Fates that rose, of a script of one space or several.
use Rattle.std.proofs.Common.{◌≡◌, ◌∙◌, ◌+◌, ◌*◌, ◌<◌, ℕ, zero, suc, List, Some, sym, ap, subst, arith}
use Rattle.std.proofs.lemmas.Option.{none-some, same_Some}
use Rattle.std.specs.Prelude.{slice_get}
use Rattle.hx_types.specs.declared.totals.Totals.{Totals}
use Rattle.hx_types.specs.declared.traces.Entry.{Entry}
use Rattle.hx_types.specs.declared.traces.Script.{Script}
use Rattle.hx_replay.specs.declared.texts.Scripted.{Scripted}
use Rattle.hx_replay.specs.declared.texts.Scripted.TheVariants.{One}
use Rattle.hx_replay.specs.declared.outcomes.Outcome.{Outcome}
use Rattle.hx_replay.specs.Streams.{Stream}
use Rattle.hx_words.specs.declared.commands.Run.{Run}
use Rattle.hx_command.specs.Threads.{EndsWith, Handed, IsRunReported, IsRunWorn, spaces_of, workers_in}

-- how a run of the script ends
pub ends_in : (run : Run) (sink : Stream) (h : Handed) (outcome : Outcome) (x y : Scripted) → x ≡ y
    → EndsWith (IsRunReported run y) (IsRunWorn run.workers y) sink h outcome
    → EndsWith (IsRunReported run x) (IsRunWorn run.workers x) sink h outcome
ends_in run sink h outcome x y same ends = subst (λ (z : Scripted). EndsWith (IsRunReported run z) (IsRunWorn run.workers z) sink h outcome) (sym same) ends

module _ {F : Type 0} (rises : ℕ → Script → List Entry → ℕ → Totals → F → F → Type 0) (workers : ℕ)
    (before after : List F) (traces : List (List Entry)) (totals : List Totals) where
  -- each fate of each space
  abbrev pub AreRisen : Scripted → Type 0
  AreRisen scripted =
      (k j : ℕ) (script : Script) (trace : List Entry) (f g : F) (t : Totals) → j < workers_in scripted workers
      → slice_get (spaces_of scripted) k ≡ Some script → slice_get traces k ≡ Some trace
      → slice_get before (k * workers_in scripted workers + j) ≡ Some f
      → slice_get after (k * workers_in scripted workers + j) ≡ Some g
      → slice_get totals (k * workers_in scripted workers + j) ≡ Some t
      → rises (workers_in scripted workers) script trace j t f g

  -- those of the one space
  pub one_risen : (script : Script)
      → ((trace : List Entry) → slice_get traces 0 ≡ Some trace → (i : ℕ) (f g : F) (t : Totals)
      → slice_get before i ≡ Some f → slice_get after i ≡ Some g → slice_get totals i ≡ Some t
      → rises workers script trace i t f g)
      → AreRisen (One script)
  one_risen script all zero j s trace f g t within at first p q r =
      let here : j ≡ 0 * workers + j = omega arith in
      subst (λ (x : Script). rises workers x trace j t f g) (same_Some script s at)
      (all trace first j f g t (ap (slice_get before) here ∙ p) (ap (slice_get after) here ∙ q) (ap (slice_get totals) here ∙ r))
  one_risen script all (suc k) j s trace f g t within at first p q r = absurd (none-some s at)
