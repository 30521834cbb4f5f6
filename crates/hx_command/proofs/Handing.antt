-- How a run on threads ends whose answer was written, and what the laws say of it.
use Rattle.std.proofs.Common.{◌≡◌, ◌∙◌, inl, inr, refl, ℕ, ◌≤◌, List, [], ◌∷◌, Some, None, true, false, ap, sym, subst, rules}
use Rattle.std.specs.Prelude.{reverse, slice_get}
use Rattle.hx_types.specs.declared.ids.Actor.{Actor}
use Rattle.hx_types.specs.declared.limits.TheConstants.{MOST_CALLS}
use Rattle.hx_types.specs.declared.totals.Totals.{Totals}
use Rattle.hx_types.specs.declared.traces.Entry.{Entry}
use Rattle.hx_types.specs.declared.traces.Input.{Input}
use Rattle.hx_types.specs.declared.traces.Input.TheVariants.{Halt}
use Rattle.hx_types.specs.declared.traces.Script.{Script}
use Rattle.hx_types.specs.Words.{IsIn}
use Rattle.hx_clock.specs.Seats.{Seated}
use Rattle.hx_mail.specs.Boxes.{Ported}
use Rattle.hx_fate.specs.declared.fates.FateState.{FateState}
use Rattle.hx_soak.specs.Soaking.{script_drawn}
use Rattle.hx_law_soak.specs.Soaks.{IsSoak, NoHalts, SoaksSumUpInOrder}
use Rattle.hx_law_threads.proofs.Lemmas.{of_reverse}
use Rattle.hx_soak.specs.Summing.{IsSummary}
use Rattle.hx_words.specs.declared.commands.Soak.{Soak}
use Rattle.hx_run.specs.Ran.{HasNoHalts, HasRisen, is_halt}
use Rattle.hx_replay.specs.Streams.{Stream}
use Rattle.hx_command.specs.Threads.{EndsWith, Handed, IsHandedWorn, IsHandedWritten, IsOfOneRun, IsThreaded, IsWritten, SpaceRun, SumsUp, handed_by, nothing}
use Rattle.hx_replay.specs.declared.outcomes.Outcome.{Outcome}
use Rattle.hx_replay.specs.declared.outcomes.Outcome.TheVariants.{Fine, Usage, Refused, TooLarge, ReadFault, WriteFault, Memory, Worn, Wrong}

-- what is handed back, part by part
abbrev pub handed : List (List Entry) → List Seated → List Totals → List Ported → ℕ → Handed
handed t s a p n = record { traces = t; seats = s; totals = a; ports = p; fates = n }

pub same_handed : (t u : List (List Entry)) (s r : List Seated) (a b : List Totals) (p q : List Ported) (n m : ℕ)
    → t ≡ u → s ≡ r → a ≡ b → p ≡ q → n ≡ m → handed t s a p n ≡ handed u r b q m
same_handed t u s r a b p q n m e d f g h = λ i. handed (e i) (d i) (f i) (g i) (h i)

-- an empty list has nothing at any place
pub none_at : {A : Type 0} (xs : List A) (i : ℕ) (x : A) → xs ≡ [] → slice_get xs i ≡ Some x → ⊥
none_at xs i x e at = let none : slice_get [] i ≡ Some x = ap (λ l. slice_get l i) (sym e) ∙ at in absurd (search rules)

module _ (good : Handed → List ℕ → Type 0) (worn : Handed → Actor → Type 0) (sink : Stream) where
  by_outcome : (h : Handed) (bytes : List ℕ) (outcome : Outcome) → good h bytes → IsWritten sink bytes outcome → EndsWith good worn sink h outcome
  by_outcome h bytes Fine g written = (bytes, g, written)
  by_outcome h bytes Usage g written = written
  by_outcome h bytes (Refused line reason) g written = written
  by_outcome h bytes TooLarge g written = written
  by_outcome h bytes ReadFault g written = written
  by_outcome h bytes WriteFault g written = (bytes, g, written)
  by_outcome h bytes Memory g written = absurd written
  by_outcome h bytes (Worn a) g written = absurd written
  by_outcome h bytes (Wrong line clause) g written = absurd written

  -- the answer was written, or a prefix of it, or there was no memory
  pub written_handed : (given h : Handed) (bytes : List ℕ) (outcome : Outcome) → good given bytes
      → IsHandedWritten sink given h bytes outcome → EndsWith good worn sink h outcome
  written_handed given h bytes outcome g (inl (same, written)) =
      subst (λ (x : Handed). EndsWith good worn sink x outcome) (sym same) (by_outcome given bytes outcome g written)
  written_handed given h bytes outcome g (inr (none, empty)) = subst (λ (o : Outcome). EndsWith good worn sink h o) (sym none) empty

  -- an actor is worn, or there was no memory
  pub worn_handed : (given h : Handed) (a : Actor) (outcome : Outcome) → worn given a → IsHandedWorn given h a outcome → EndsWith good worn sink h outcome
  worn_handed given h a outcome w (inl (is, same)) =
      subst (λ (o : Outcome). EndsWith good worn sink h o) (sym is) (subst (λ (x : Handed). worn x a) (sym same) w)
  worn_handed given h a outcome w (inr (none, empty)) = subst (λ (o : Outcome). EndsWith good worn sink h o) (sym none) empty

  -- there was no memory
  pub none_handed : (h : Handed) (outcome : Outcome) → outcome ≡ Memory → h ≡ nothing → EndsWith good worn sink h outcome
  none_handed h outcome none empty = subst (λ (o : Outcome). EndsWith good worn sink h o) (sym none) empty

-- of one space
pub of_one_run : (holds : SpaceRun → Type 0) (r : SpaceRun) → holds r → IsOfOneRun holds (handed_by r)
of_one_run holds r h = record { space = r; handed = refl; held = h }

-- the trace of one space
pub first_same : (traces : List (List Entry)) (own trace : List Entry) → traces ≡ own ∷ [] → slice_get traces 0 ≡ Some trace → trace ≡ own
first_same traces own trace same first =
    let at : slice_get (own ∷ []) 0 ≡ Some trace = ap (λ (l : List (List Entry)). slice_get l 0) (sym same) ∙ first in
    cc

-- ---- the state of a fate
-- what is said of a fate from the state in which it was tuned
pub risen_from : (script : Script) (w : ℕ) (trace : List Entry) (i : ℕ) (t : Totals) (before tuned after : FateState)
    → tuned ≡ before → HasRisen script w trace i t tuned after → HasRisen script w trace i t before after
risen_from script w trace i t before tuned after same risen = subst (λ (f : FateState). HasRisen script w trace i t f after) same risen

pub risen_trace : (script : Script) (w : ℕ) (own trace : List Entry) (i : ℕ) (t : Totals) (before after : FateState)
    → trace ≡ own → HasRisen script w own i t before after → HasRisen script w trace i t before after
risen_trace script w own trace i t before after same risen = subst (λ (l : List Entry). HasRisen script w l i t before after) (sym same) risen

pub risen_same : (script drawn : Script) (w : ℕ) (trace : List Entry) (i : ℕ) (t : Totals) (f f' : FateState)
    → script ≡ drawn → HasRisen script w trace i t f f' → HasRisen drawn w trace i t f f'
risen_same script drawn w trace i t f f' same risen = subst (λ (s : Script). HasRisen s w trace i t f f') same risen

-- ---- what the law on soaks asks for
not_halt : (input : Input) → is_halt input ≡ false → input ≡ Halt → ⊥
not_halt input runs e = let both : true ≡ false = ap is_halt (sym e) ∙ runs in absurd (cc)

no_halt_in : (trace : List Entry) → HasNoHalts trace → (x : Entry) → IsIn x trace → x.input ≡ Halt → ⊥
no_halt_in [] none x i = absurd i
no_halt_in (y ∷ ys) none x (inl e) = not_halt x.input (ap (λ (z : Entry). is_halt z.input) e ∙ none.0)
no_halt_in (y ∷ ys) none x (inr i) = no_halt_in ys none.1 x i

no_halts : (trace : List Entry) → HasNoHalts trace → NoHalts (reverse trace)
no_halts trace none x i = no_halt_in trace none x (of_reverse trace x i)

-- a run of a drawn script that came to its end is a soak
is_soak : (seed calls workers : ℕ) (script : Script) (r : SpaceRun) → script ≡ script_drawn seed calls
    → calls ≤ MOST_CALLS → IsThreaded script workers r None → IsSoak seed calls (reverse r.trace)
is_soak seed calls workers script r is few threaded =
    let drawn : IsThreaded (script_drawn seed calls) workers r None = subst (λ (s : Script). IsThreaded s workers r None) is threaded in
    record { few = few; run = drawn.ran.run; no_halts = no_halts r.trace drawn.ran.no_halts; ended = drawn.ran.end.0 }

-- and its summary is that of its calls in order
pub is_summed : (soaked : Soak) (script : Script) (r : SpaceRun) (bytes : List ℕ) → SoaksSumUpInOrder
    → script ≡ script_drawn soaked.seed soaked.calls → soaked.calls ≤ MOST_CALLS
    → IsThreaded script soaked.workers r None → IsSummary script (reverse r.trace) bytes → SumsUp soaked bytes r
is_summed soaked script r bytes law is few threaded summary =
    let of_trace : IsSummary (script_drawn soaked.seed soaked.calls) (reverse r.trace) bytes =
    subst (λ (s : Script). IsSummary s (reverse r.trace) bytes) is summary in
    record {
      threaded = subst (λ (s : Script). IsThreaded s soaked.workers r None) is threaded;
      of_trace = of_trace;
      summary_is = law soaked.seed soaked.calls (reverse r.trace) (is_soak soaked.seed soaked.calls soaked.workers script r is few threaded) bytes of_trace;
    }
