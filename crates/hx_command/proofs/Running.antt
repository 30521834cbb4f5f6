-- Spaces that are run one after the other: how far that came, and which fates each of them had.
use Rattle.std.proofs.Common.{◌≡◌, ◌∙◌, ◌+◌, ◌*◌, ◌<◌, ◌≤◌, ◌⊎◌, ⊎_elim, inl, inr, ℕ, zero, suc, true, false, List, []}
use Rattle.std.proofs.Common.{◌∷◌, ◌++◌, length, map, take, drop, get_or, Option, Some, None, refl, sym, ap, subst}
use Rattle.std.proofs.Common.{arith}
use Rattle.std.proofs.lemmas.List.{drop-drop}
use Rattle.std.proofs.lemmas.Option.{none-some, same_Some, slice_get-get_or}
use Rattle.std.specs.Prelude.{IfOk, Ok, Err, Result, is_some, slice_get}
use Rattle.std.specs.List.{remove}
use Rattle.hx_types.specs.declared.ids.Actor.{Actor}
use Rattle.hx_types.specs.declared.totals.Totals.{Totals}
use Rattle.hx_types.specs.declared.traces.Entry.{Entry}
use Rattle.hx_types.specs.declared.traces.Script.{Script}
use Rattle.hx_command.specs.Threads.{AreRan, IsThreaded, RanAll, RanUntilWorn, SpaceRun}
use Rattle.hx_command.proofs.Chunks.{get_first}

-- two facts of what was answered
pub if_ok_both : {X E : Type 0} (r : Result X E) (P Q R : X → Type 0) → ((x : X) → P x → Q x → R x) → IfOk r P → IfOk r Q → IfOk r R
if_ok_both (Ok x) P Q R make p q = make x p q
if_ok_both (Err e) P Q R make p q = tt

-- ---- fates that are taken away from the front
-- the first is taken
pub first_taken : {F : Type 0} (taken left : List F) (x : F) (all : List F) → 0 < length left → x ≡ get_or left 0 x
    → taken ++ left ≡ all → (taken ++ x ∷ []) ++ remove left 0 ≡ all
first_taken [] [] x all some is split = absurd (omega (arith, some))
first_taken [] (y ∷ left) x all some is split = ap (λ z. z ∷ left) is ∙ split
first_taken (t ∷ taken) left x all some is split = ap (λ l. t ∷ l) (first_taken taken left x (taken ++ left) some is refl) ∙ split

-- each of them stood there
pub own_at : {F : Type 0} (own left all : List F) (n j : ℕ) (f : F) → own ++ left ≡ all → length own ≡ n → j < n
    → slice_get all j ≡ Some f → slice_get own j ≡ Some f
own_at own left all n j f split count within at = sym (get_first own left j (omega (arith, count, within))) ∙ ap (λ l. slice_get l j) split ∙ at

get_drop : {F : Type 0} (n : ℕ) (xs : List F) (j : ℕ) → slice_get (drop n xs) j ≡ slice_get xs (n + j)
get_drop zero xs j = let e : j ≡ 0 + j = omega arith in ap (slice_get xs) e
get_drop (suc n) [] j = refl
get_drop (suc n) (x ∷ xs) j = let e : suc (n + j) ≡ suc n + j = omega arith in get_drop n xs j ∙ ap (slice_get (x ∷ xs)) e

-- the fates of the spaces up to this one are taken too
pub left_next : {F : Type 0} (left now all : List F) (i w : ℕ) → left ≡ drop (i * w) all → now ≡ drop w left → now ≡ drop ((i + 1) * w) all
left_next left now all i w was is =
    let e : i * w + w ≡ (i + 1) * w = omega arith in
    is ∙ ap (λ l. drop w l) was ∙ drop-drop w (i * w) all ∙ ap (λ k. drop k all) e

-- ---- the runs so far
module _ {A : Type 0} (see : A → SpaceRun) (w : ℕ) where
  -- one more space was run to its end
  ran_next : (scripts : List Script) (runs : List A) (script : Script) (run : A) (i : ℕ) → i < length scripts → script ≡ get_or scripts i script
      → RanAll w (take i scripts) (map see runs) → IsThreaded script w (see run) None → RanAll w (take (suc i) scripts) (map see (runs ++ run ∷ []))
  ran_next [] runs script run i within is ran last = absurd (omega (arith, within))
  ran_next (s ∷ scripts) [] script run zero within is ran last = (subst (λ (x : Script). IsThreaded x w (see run) None) is last, tt)
  ran_next (s ∷ scripts) (r ∷ runs) script run zero within is ran last = absurd ran
  ran_next (s ∷ scripts) [] script run (suc i) within is ran last = absurd ran
  ran_next (s ∷ scripts) (r ∷ runs) script run (suc i) within is ran last = (ran.0, ran_next scripts runs script run i (omega (arith, within)) is ran.1 last)

  pub ran_more : (scripts : List Script) (runs : List A) (script : Script) (run : A) (i : ℕ) → i < length scripts → script ≡ get_or scripts i script
      → RanAll w (take i scripts) (map see runs) → IsThreaded script w (see run) None → RanAll w (take (i + 1) scripts) (map see (runs ++ run ∷ []))
  ran_more scripts runs script run i within is ran last =
      let more : suc i ≡ i + 1 = omega arith in
      subst (λ (n : ℕ). RanAll w (take n scripts) (map see (runs ++ run ∷ []))) more (ran_next scripts runs script run i within is ran last)

  -- one more space was run until an actor was worn
  ran_worn : (a : Actor) (scripts : List Script) (runs : List A) (script : Script) (run : A) (i : ℕ) → i < length scripts → script ≡ get_or scripts i script
      → RanAll w (take i scripts) (map see runs) → IsThreaded script w (see run) (Some a) → RanUntilWorn w a scripts (map see (runs ++ run ∷ []))
  ran_worn a [] runs script run i within is ran last = absurd (omega (arith, within))
  ran_worn a (s ∷ scripts) [] script run zero within is ran last = subst (λ (x : Script). IsThreaded x w (see run) (Some a)) is last
  ran_worn a (s ∷ scripts) (r ∷ runs) script run zero within is ran last = absurd ran
  ran_worn a (s ∷ scripts) [] script run (suc i) within is ran last = absurd ran
  ran_worn a (s ∷ scripts) (r ∷ []) script run (suc i) within is ran last = (ran.0, ran_worn a scripts [] script run i (omega (arith, within)) is ran.1 last)
  ran_worn a (s ∷ scripts) (r ∷ next ∷ runs) script run (suc i) within is ran last =
      (ran.0, ran_worn a scripts (next ∷ runs) script run i (omega (arith, within)) is ran.1 last)

  -- it was run to its end where no actor was worn
  pub still_ran : (script : Script) (run : A) (worn : Option Actor) → is_some worn ≡ false
      → IsThreaded script w (see run) worn → IsThreaded script w (see run) None
  still_ran script run None none ran = ran
  still_ran script run (Some a) none ran = absurd (cc)

  -- and else until that actor was
  pub ran_stopped : (worn : Option Actor) (scripts : List Script) (runs : List A) (script : Script) (run : A) (i : ℕ)
      → i < length scripts → script ≡ get_or scripts i script
      → RanAll w (take i scripts) (map see runs) → IsThreaded script w (see run) worn → is_some worn ≡ true → AreRan w scripts (map see (runs ++ run ∷ [])) worn
  ran_stopped None scripts runs script run i within is ran last some = absurd (cc)
  ran_stopped (Some a) scripts runs script run i within is ran last some = ran_worn a scripts runs script run i within is ran last

  -- so many of them
  pub ran_count : (scripts : List Script) (runs : List A) (i : ℕ) → i ≤ length scripts → RanAll w (take i scripts) (map see runs) → length runs ≡ i
  ran_count [] [] i within ran = omega (arith, within)
  ran_count [] (r ∷ runs) zero within ran = absurd ran
  ran_count [] (r ∷ runs) (suc i) within ran = absurd ran
  ran_count (s ∷ scripts) [] zero within ran = refl
  ran_count (s ∷ scripts) (r ∷ runs) zero within ran = absurd ran
  ran_count (s ∷ scripts) [] (suc i) within ran = absurd ran
  ran_count (s ∷ scripts) (r ∷ runs) (suc i) within ran = ap (λ (n : ℕ). suc n) (ran_count scripts runs i (omega (arith, within)) ran.1)

-- ---- how the fates of each rose
-- what stands in a list with one more
pushed_at : {A : Type 0} (xs : List A) (x y : A) (k : ℕ) → slice_get (xs ++ x ∷ []) k ≡ Some y → (slice_get xs k ≡ Some y) ⊎ ((k ≡ length xs) × (x ≡ y))
pushed_at [] x y zero at = inr (refl, same_Some x y at)
pushed_at [] x y (suc k) at = absurd (none-some y at)
pushed_at (z ∷ xs) x y zero at = inl at
pushed_at (z ∷ xs) x y (suc k) at =
    ⊎_elim (λ (h : slice_get xs k ≡ Some y). inl h) (λ (h : (k ≡ length xs) × (x ≡ y)). inr (ap (λ (n : ℕ). suc n) h.0, h.1)) (pushed_at xs x y k at)

module _ {A F : Type 0} (see : A → SpaceRun) (fates_in : A → List F) (w : ℕ) (rises : Script → List Entry → ℕ → Totals → F → F → Type 0) where
  -- of one run, which had the first of these fates
  abbrev pub OneRises : List F → Script → A → Type 0
  OneRises fates script run = (j : ℕ) (f g : F) (t : Totals) → slice_get fates j ≡ Some f
      → slice_get (fates_in run) j ≡ Some g → slice_get (see run).totals j ≡ Some t → rises script (see run).trace j t f g

  -- of each run, which had those from its own place on
  abbrev pub AllRise : List F → List Script → List A → Type 0
  AllRise fates scripts runs =
      (k j : ℕ) (script : Script) (run : A) (f g : F) (t : Totals) → j < w → slice_get scripts k ≡ Some script → slice_get runs k ≡ Some run
      → slice_get fates (k * w + j) ≡ Some f → slice_get (fates_in run) j ≡ Some g
      → slice_get (see run).totals j ≡ Some t → rises script (see run).trace j t f g

  pub rise_more : (fates left : List F) (scripts : List Script) (runs : List A) (script : Script) (run : A) (i : ℕ)
      → i < length scripts → script ≡ get_or scripts i script → length runs ≡ i
      → left ≡ drop (i * w) fates → AllRise fates scripts runs → OneRises left script run → AllRise fates scripts (runs ++ run ∷ [])
  rise_more fates left scripts runs script run i inside is count was before here k j s x f g t within at among p q r = by (pushed_at runs run x k among)
    where
      by : (slice_get runs k ≡ Some x) ⊎ ((k ≡ length runs) × (run ≡ x)) → rises s (see x).trace j t f g
      by (inl old) = before k j s x f g t within at old p q r
      by (inr (last, same)) =
          let here_is : k ≡ i = last ∙ count in
          let s_is : s ≡ script = same_Some s script (sym at ∙ ap (slice_get scripts) here_is
          ∙ slice_get-get_or scripts i script inside ∙ ap (λ (z : Script). Some z) (sym is)) in
          let there : slice_get left j ≡ Some f = ap (λ (l : List F). slice_get l j) was ∙ get_drop (i * w) fates j
          ∙ ap (λ (n : ℕ). slice_get fates (n * w + j)) (sym here_is) ∙ p in
          subst (λ (y : A). rises s (see y).trace j t f g) same
          (subst (λ (z : Script). rises z (see run).trace j t f g) (sym s_is)
          (here j f g t there (subst (λ (y : A). slice_get (fates_in y) j ≡ Some g) (sym same) q)
          (subst (λ (y : A). slice_get (see y).totals j ≡ Some t) (sym same) r)))
