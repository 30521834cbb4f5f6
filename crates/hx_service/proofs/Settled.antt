-- What the entries that a drain makes one by one come to.
use Rattle.std.proofs.Common.{◌≡◌, ℕ, suc, ◌+◌, Bool, true, false, List, ◌∷◌, length, Option, Some, None, refl, sym, ap, ◌∙◌, subst, arith}
use Rattle.std.specs.Prelude.{is_some, reverse}
use Rattle.std.proofs.lemmas.List.{length-reverse}
use Rattle.hx_model.specs.Types.{Entry, Script}
use Rattle.hx_model.specs.Runs.{IsRun}
use Rattle.hx_model.specs.Schedule.{IsQuiet, next_entry, with_entry}
use Rattle.hx_law_growing.specs.Serving.{IsServed, SchedulesServe}
use Rattle.hx_world.specs.Worlds.{Advances, WorldState}
use Rattle.hx_service.specs.Services.{IsDrained}

-- the next entry of the schedule serves
pub next-served : (old mid new : WorldState) → mid ≡ old → new.script ≡ mid.script
    → reverse new.trace ≡ with_entry (reverse mid.trace) (next_entry mid.script (reverse mid.trace))
    → SchedulesServe → IsRun new.script (reverse new.trace) → IsServed (reverse old.trace) → IsServed (reverse new.trace)
next-served old mid new same script made law run served =
    subst IsServed (sym made)
    (law mid.script (reverse mid.trace) 1
    (subst (IsRun mid.script) made (subst (λ (s : Script). IsRun s (reverse new.trace)) script run))
    (subst (λ (w : WorldState). IsServed (reverse w.trace)) (sym same) served))

-- one more entry
pub drained-more : (script : Script) (old mid new : List Entry) (made : Bool) → IsDrained script old mid
    → Advances script mid new made → IsDrained script old new
drained-more script old mid new made before advances =
    (suc before.0, advances.trace ∙ ap (λ (t : List Entry). with_entry t (next_entry script t)) before.1)

-- where one was made the trace is longer by it
pub longer : (script : Script) (mid new : List Entry) (made : Bool) → Advances script mid new made → made ≡ true → length new ≡ length mid + 1
longer script mid new made advances is = by (next_entry script mid) advances.trace (sym is ∙ advances.told)
  where
    by : (o : Option Entry) → new ≡ with_entry mid o → true ≡ is_some o → length new ≡ length mid + 1
    by None e t = absurd (cc)
    by (Some x) e t = ap length e ∙ (let q : length (x ∷ mid) ≡ length mid + 1 = omega arith in q)

-- what a loop of such entries keeps
pub kept : (old mid new : WorldState) (n : ℕ) (made : Bool) → mid.script ≡ old.script → IsDrained old.script (reverse old.trace) (reverse mid.trace)
    → length mid.trace ≡ length old.trace + n → Advances mid.script (reverse mid.trace) (reverse new.trace) made → made ≡ true
    → IsDrained old.script (reverse old.trace) (reverse new.trace) × (length new.trace ≡ length old.trace + (n + 1))
kept old mid new n made script drained long advances is =
    let a = subst (λ (s : Script). Advances s (reverse mid.trace) (reverse new.trace) made) script advances in
    let l = longer old.script (reverse mid.trace) (reverse new.trace) made a is in
    let p = length-reverse mid.trace in
    let q = length-reverse new.trace in
    (drained-more old.script (reverse old.trace) (reverse mid.trace) (reverse new.trace) made drained a, omega (arith, l, p, q, long))
