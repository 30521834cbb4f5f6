-- Deliveries in one world are deliveries in the course of all.
use Rattle.std.proofs.Common.{◌≡◌, ℕ, ◌+◌, ◌<◌, ◌≤◌, Bool, true, false, List, length, map, drop, refl, sym, ap, ◌∙◌, subst}
use Rattle.std.proofs.lemmas.Bool.{false≢true}
use Rattle.std.proofs.lemmas.List.{reverse-reverse}
use Rattle.std.specs.Prelude.{slice_get, slice_set, reverse, is_some, Option, Some, None, Result, Ok, Err, IfOk, IfErr, OnErr}
use Rattle.hx_model.specs.Types.{Entry, Script}
use Rattle.hx_types.specs.Words.{when_some}
use Rattle.hx_model.specs.Schedule.{Next}
use Rattle.hx_world.specs.Worlds.{WorldState}
use Rattle.hx_world.specs.Nexts.{DeliversNext, FailsAt, Makes, delivery_in}
use Rattle.hx_world.specs.declared.ends.DrainError.{DrainError}
use Rattle.hx_world.specs.declared.ends.DrainError.TheVariants.{Memory, Worn}
use Rattle.hx_spaces.specs.Courses.{Turn, first_delivery_from, newest, run_with, runs_with}
use Rattle.hx_spaces.specs.Draining.{FailsIn}
use Rattle.hx_spaces.specs.Walks.{DeliversAt, DeliversIn, delivery_at, turn_at}
use Rattle.hx_spaces.proofs.Places.{drop-here, drop-none, get-map, length-map, none-some, set-map, set_same, something}

-- the world at a place, seen with its newest entry first
at-place : (ws : List WorldState) (k : ℕ) (w : WorldState) → slice_get ws k ≡ Some w → delivery_at (map newest ws) k ≡ delivery_in w.script (reverse w.trace)
at-place ws k w h = ap (λ o. when_some o None (λ (r : WorldState). delivery_in r.script r.trace)) (get-map newest ws k w h)

pub runs-set : (runs : List WorldState) (k : ℕ) (r : WorldState) (next : Next) → slice_get runs k ≡ Some r
    → runs_with (record { space = k; next = next }) runs ≡ slice_set runs k (run_with next r)
runs-set runs k r next h = ap (λ o. when_some o runs (λ (x : WorldState). slice_set runs k (run_with next x))) h

-- a world with one more entry
pub with-entry : (w w' : WorldState) (next : Next) → w'.script ≡ w.script
    → Makes w.script (reverse w.trace) (reverse w'.trace) next → newest w' ≡ run_with next (newest w)
with-entry w w' next s h = ap (λ (c : _). record { script = c; trace = reverse w'.trace }) s ∙ ap (λ (t : _). record { script = w.script; trace = t }) h

-- a world with the same script and trace is the same
same-world : (w w' : WorldState) → w'.script ≡ w.script → reverse w'.trace ≡ reverse w.trace → w' ≡ w
same-world w w' s t =
    let trace : w'.trace ≡ w.trace = sym (reverse-reverse w'.trace) ∙ ap (λ (l : List Entry). reverse l) t ∙ reverse-reverse w.trace in
    ap (λ (c : Script). record { script = c; trace = w'.trace }) s ∙ ap (λ (l : List Entry). record { script = w.script; trace = l }) trace

pub delivered_at : (ws : List WorldState) (k : ℕ) (w w' : WorldState) (made : Bool) → slice_get ws k ≡ Some w → w'.script ≡ w.script
    → DeliversNext w.script (reverse w.trace) (reverse w'.trace) made → DeliversAt k (map newest ws) (map newest (slice_set ws k w')) made
delivered_at ws k w w' true h s (next, first, makes) = (
  next,
  at-place ws k w h ∙ first,
  set-map newest ws k w' ∙ ap (λ r. slice_set (map newest ws) k r) (with-entry w w' next s makes)
      ∙ sym (runs-set (map newest ws) k (newest w) next (get-map newest ws k w h)),
)
delivered_at ws k w w' false h s (none, same) = (
  at-place ws k w h ∙ none,
  ap (λ x. map newest (slice_set ws k x)) (same-world w w' s same) ∙ ap (λ l. map newest l) (set_same ws k w h),
)

pub failed_at : (ws : List WorldState) (k : ℕ) (w : WorldState) (e : DrainError) → slice_get ws k ≡ Some w
    → FailsAt (reverse w.trace) (delivery_in w.script (reverse w.trace)) e
    → FailsIn (map newest ws) (turn_at k (delivery_at (map newest ws) k)) e
failed_at ws k w Memory h f = tt
failed_at ws k w (Worn a) h (next, is, actor, worn) = record {
  next = record { space = k; next = next };
  is_next = ap (λ o. turn_at k o) (at-place ws k w h ∙ is);
  run = newest w;
  stands = get-map newest ws k w h;
  actor = actor;
  worn = worn;
}

pub rested_at : (ws : List WorldState) (k : ℕ) (w w' : WorldState) → slice_get ws k ≡ Some w → w' ≡ w → slice_set ws k w' ≡ ws
rested_at ws k w w' h e = ap (λ x. slice_set ws k x) e ∙ set_same ws k w h

pub walked : (runs : List WorldState) (k : ℕ) → k < length runs → delivery_at runs k ≡ None
    → first_delivery_from k (drop k runs) ≡ first_delivery_from (k + 1) (drop (k + 1) runs)
walked runs k h none = let at = something runs k h in
    ap (λ l. first_delivery_from k l) (drop-here runs k at.0 at.1)
    ∙ ap (λ o. when_some o (first_delivery_from (k + 1) (drop (k + 1) runs)) (λ (next : Next). Some (record { space = k; next = next })))
    (sym (ap (λ o. when_some o None (λ (r : WorldState). delivery_in r.script r.trace)) at.1) ∙ none)

pub found : (runs : List WorldState) (k : ℕ) (next : Next) → k < length runs → delivery_at runs k ≡ Some next
    → first_delivery_from k (drop k runs) ≡ Some (record { space = k; next = next })
found runs k next h is = let at = something runs k h in
    ap (λ l. first_delivery_from k l) (drop-here runs k at.0 at.1)
    ∙ ap (λ o. when_some o (first_delivery_from (k + 1) (drop (k + 1) runs)) (λ (n : Next). Some (record { space = k; next = n })))
    (sym (ap (λ o. when_some o None (λ (r : WorldState). delivery_in r.script r.trace)) at.1) ∙ is)

-- the walk ends behind the last space
pub walked_all : (runs : List WorldState) (k : ℕ) → length runs ≤ k → first_delivery_from k (drop k runs) ≡ None
walked_all runs k h = ap (λ l. first_delivery_from k l) (drop-none runs k h)

pub delivers_first : (old new : List WorldState) (k : ℕ) → k < length old
    → first_delivery_from 0 old ≡ first_delivery_from k (drop k old) → DeliversAt k old new true → DeliversIn old new (Some k)
delivers_first old new k h walk (next, is, made) = (next, walk ∙ found old k next h is, made)

pub fails_first : (runs : List WorldState) (k : ℕ) (e : DrainError) → k < length runs → first_delivery_from 0 runs ≡ first_delivery_from k (drop k runs)
    → FailsIn runs (turn_at k (delivery_at runs k)) e → FailsIn runs (first_delivery_from 0 runs) e
fails_first runs k Memory h walk f = tt
fails_first runs k (Worn a) h walk f = record {
  next = f.next;
  is_next = walk ∙ first (delivery_at runs k) refl ∙ f.is_next;
  run = f.run;
  stands = f.stands;
  actor = f.actor;
  worn = f.worn;
} where
  first : (o : Option Next) → delivery_at runs k ≡ o → first_delivery_from k (drop k runs) ≡ turn_at k (delivery_at runs k)
  first None e = absurd (none-some f.next (sym (ap (λ o. turn_at k o) e) ∙ f.is_next))
  first (Some next) e = found runs k next h e ∙ sym (ap (λ o. turn_at k o) e)

-- the same of what a call answered
pub ok-delivers : (ws : List WorldState) (k : ℕ) (w w' : WorldState) (r : Result Bool DrainError) → slice_get ws k ≡ Some w → w'.script ≡ w.script
    → IfOk r (DeliversNext w.script (reverse w.trace) (reverse w'.trace)) → IfOk r (DeliversAt k (map newest ws) (map newest (slice_set ws k w')))
ok-delivers ws k w w' (Ok made) h s d = delivered_at ws k w w' made h s d
ok-delivers ws k w w' (Err e) h s d = tt

pub err-fails : (ws : List WorldState) (k : ℕ) (w : WorldState) (r : Result Bool DrainError) → slice_get ws k ≡ Some w
    → IfErr r (FailsAt (reverse w.trace) (delivery_in w.script (reverse w.trace)))
    → IfErr r (FailsIn (map newest ws) (turn_at k (delivery_at (map newest ws) k)))
err-fails ws k w (Ok made) h f = tt
err-fails ws k w (Err e) h f = failed_at ws k w e h f

-- where a call failed, nothing changed
pub err-rests : {T E : Type 0} (ws : List WorldState) (k : ℕ) (w w' : WorldState) (r : Result T E)
    → slice_get ws k ≡ Some w → w'.script ≡ w.script → OnErr r (w'.trace ≡ w.trace) → OnErr r (slice_set ws k w' ≡ ws)
err-rests ws k w w' (Ok made) h s t = tt
err-rests ws k w w' (Err e) h s t = rested_at ws k w w' h
    (ap (λ (c : Script). record { script = c; trace = w'.trace }) s
    ∙ ap (λ (l : List Entry). record { script = w.script; trace = l }) t)

mapped : {A B : Type 0} (f : A → B) (xs : List A) (k : ℕ) → k < length xs → k < length (map f xs)
mapped f xs k h = subst (λ n. k < n) (sym (length-map f xs)) h

pub walked_on : (start now : List WorldState) (k : ℕ) → now ≡ start → k < length now
    → first_delivery_from 0 (map newest start) ≡ first_delivery_from k (drop k (map newest start))
    → DeliversAt k (map newest now) (map newest now) false
    → first_delivery_from 0 (map newest start) ≡ first_delivery_from (k + 1) (drop (k + 1) (map newest start))
walked_on start now k same h walk (none, stays) =
    walk ∙ walked (map newest start) k (mapped newest start k (subst (λ (l : List WorldState). k < length l) same h))
    (subst (λ (l : List WorldState). delivery_at (map newest l) k ≡ None) same none)

pub delivers_from : (start now new : List WorldState) (k : ℕ) → now ≡ start → k < length now
    → first_delivery_from 0 (map newest start) ≡ first_delivery_from k (drop k (map newest start))
    → DeliversAt k (map newest now) (map newest new) true → DeliversIn (map newest start) (map newest new) (Some k)
delivers_from start now new k same h walk made =
    delivers_first (map newest start) (map newest new) k (mapped newest start k (subst (λ (l : List WorldState). k < length l) same h)) walk
    (subst (λ (l : List WorldState). DeliversAt k (map newest l) (map newest new) true) same made)

pub fails_from : (start now : List WorldState) (k : ℕ) (e : DrainError) → now ≡ start → k < length now
    → first_delivery_from 0 (map newest start) ≡ first_delivery_from k (drop k (map newest start))
    → FailsIn (map newest now) (turn_at k (delivery_at (map newest now) k)) e → FailsIn (map newest start) (first_delivery_from 0 (map newest start)) e
fails_from start now k e same h walk f =
    fails_first (map newest start) k e (mapped newest start k (subst (λ (l : List WorldState). k < length l) same h)) walk
    (subst (λ (l : List WorldState). FailsIn (map newest l) (turn_at k (delivery_at (map newest l) k)) e) same f)

-- where no delivery was made, nothing changed
pub ok-rests : (ws : List WorldState) (k : ℕ) (w w' : WorldState) (r : Result Bool DrainError) → slice_get ws k ≡ Some w → w'.script ≡ w.script
    → IfOk r (DeliversNext w.script (reverse w.trace) (reverse w'.trace)) → IfOk r (λ made. made ≡ false → slice_set ws k w' ≡ ws)
ok-rests ws k w w' (Ok true) h s d = λ e. absurd (false≢true (sym e))
ok-rests ws k w w' (Ok false) h s d = λ e. rested_at ws k w w' h (same-world w w' s d.1)
ok-rests ws k w w' (Err e) h s d = tt

none-there : {A : Type 0} (o : Option A) → false ≡ is_some o → o ≡ None
none-there None e = refl
none-there (Some x) e = cc

some-there : {A : Type 0} (o : Option A) → true ≡ is_some o → (x : A) × (o ≡ Some x)
some-there None e = cc
some-there (Some x) e = (x, refl)

pub none_here : (start now : List WorldState) (k : ℕ) → now ≡ start → k < length now
    → first_delivery_from 0 (map newest start) ≡ first_delivery_from k (drop k (map newest start))
    → false ≡ is_some (delivery_at (map newest now) k)
    → first_delivery_from 0 (map newest start) ≡ first_delivery_from (k + 1) (drop (k + 1) (map newest start))
none_here start now k same h walk none = walked_on start now k same h walk (none-there (delivery_at (map newest now) k) none, refl)

pub one_here : (start now : List WorldState) (k : ℕ) → now ≡ start → k < length now
    → first_delivery_from 0 (map newest start) ≡ first_delivery_from k (drop k (map newest start))
    → true ≡ is_some (delivery_at (map newest now) k) → true ≡ is_some (first_delivery_from 0 (map newest start))
one_here start now k same h walk one =
    let some = some-there (delivery_at (map newest start) k) (subst (λ (l : List WorldState). true ≡ is_some (delivery_at (map newest l) k)) same one) in
    let there = found (map newest start) k some.0 (mapped newest start k (subst (λ (l : List WorldState). k < length l) same h)) some.1 in
    sym (ap (λ (o : Option Turn). is_some o) (walk ∙ there))
