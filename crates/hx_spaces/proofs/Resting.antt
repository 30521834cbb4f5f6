-- Before the space of the first delivery none has one.
use Rattle.std.proofs.Common.{◌≡◌, ℕ, zero, suc, ◌+◌, ◌<◌, ◌≤◌, Bool, true, false, List, [], ◌∷◌, length, drop, min, refl, sym, ap, ◌∙◌, arith, ltb}
use Rattle.std.proofs.lemmas.Bool.{ltb-false, ltb-true}
use Rattle.std.specs.Prelude.{slice_get, slice_set, Option, Some, None}
use Rattle.hx_types.specs.Words.{when_some}
use Rattle.hx_model.specs.Schedule.{Next}
use Rattle.hx_world.specs.Worlds.{WorldState}
use Rattle.hx_world.specs.Nexts.{delivery_in}
use Rattle.hx_spaces.specs.Courses.{Turn, first_delivery_from, run_with, runs_with}
use Rattle.hx_spaces.specs.Keeping.{RestBefore}
use Rattle.hx_spaces.specs.Walks.{DeliversIn, delivery_at}
use Rattle.hx_spaces.proofs.Deliveries.{walked}
use Rattle.hx_spaces.proofs.Places.{drop-none, get-set-other, none-some, some-same, suc-is}

-- ---- the walk begins at the first space that may have one

later : (runs : List WorldState) (first : ℕ) (b : Bool) → ltb first (length runs) ≡ b → delivery_at runs first ≡ None
    → first_delivery_from first (drop first runs) ≡ first_delivery_from (first + 1) (drop (first + 1) runs)
later runs first true e none = walked runs first (ltb-true first (length runs) e) none
later runs first false e none =
    let behind = ltb-false first (length runs) e in
    let behind-too : length runs ≤ first + 1 = omega (arith, behind) in
    ap (λ l. first_delivery_from first l) (drop-none runs first behind)
    ∙ sym (ap (λ l. first_delivery_from (first + 1) l) (drop-none runs (first + 1) behind-too))

pub rests_walk : (runs : List WorldState) (first : ℕ) → RestBefore first runs → first_delivery_from 0 runs ≡ first_delivery_from first (drop first runs)
rests_walk runs zero rest = refl
rests_walk runs (suc first) rest =
    let here : first < suc first = omega arith in
    rests_walk runs first (λ k h. rest k (let less : k < suc first = omega (arith, h) in less))
    ∙ later runs first (ltb first (length runs)) refl (rest first here)
    ∙ sym (ap (λ n. first_delivery_from n (drop n runs)) (suc-is first))

-- ---- where a delivery is the first, or there is none

-- the same of the spaces behind one
abbrev AreNone : ℕ → List WorldState → ℕ → Type 0
AreNone from runs space = (k : ℕ) → from + k < space → delivery_at runs k ≡ None

none-before : (from : ℕ) (runs : List WorldState) (t : Turn) → first_delivery_from from runs ≡ Some t → AreNone from runs t.space
none-before from [] t h k less = absurd (none-some t h)
none-before from (r ∷ rest) t h k less = by (none-before (from + 1) rest t) (delivery_in r.script r.trace) refl h where
  within : (k : ℕ) → from + k < t.space → delivery_in r.script r.trace ≡ None → AreNone (from + 1) rest t.space → delivery_at (r ∷ rest) k ≡ None
  within zero less e behind = e
  within (suc k) less e behind = behind k (let same : from + 1 + k < t.space = omega (arith, less) in same)

  by : (first_delivery_from (from + 1) rest ≡ Some t → AreNone (from + 1) rest t.space) → (o : Option Next) → delivery_in r.script r.trace ≡ o
      → when_some o (first_delivery_from (from + 1) rest) (λ (next : Next). Some (record { space = from; next = next })) ≡ Some t
      → delivery_at (r ∷ rest) k ≡ None
  by behind None e q = within k less e (behind q)
  by behind (Some next) e q = absurd (let here : from ≡ t.space = ap (λ (x : Turn). x.space) (some-same q) in omega (arith, less, here))

none-at-all : (from : ℕ) (runs : List WorldState) → first_delivery_from from runs ≡ None → (k : ℕ) → delivery_at runs k ≡ None
none-at-all from [] h k = refl
none-at-all from (r ∷ rest) h k = by (none-at-all (from + 1) rest) (delivery_in r.script r.trace) refl h k where
  by : (first_delivery_from (from + 1) rest ≡ None → (k : ℕ) → delivery_at rest k ≡ None) → (o : Option Next) → delivery_in r.script r.trace ≡ o
      → when_some o (first_delivery_from (from + 1) rest) (λ (next : Next). Some (record { space = from; next = next })) ≡ None
      → (k : ℕ) → delivery_at (r ∷ rest) k ≡ None
  by behind None e q zero = e
  by behind None e q (suc k) = behind q k
  by behind (Some next) e q k = absurd (none-some (record { space = from; next = next }) (sym q))

-- ---- what an entry of one space leaves

others : (runs : List WorldState) (t : Turn) (k : ℕ) → (k ≡ t.space → ⊥) → delivery_at (runs_with t runs) k ≡ delivery_at runs k
others runs t k other = ap (λ (o : Option WorldState). when_some o None (λ (r : WorldState). delivery_in r.script r.trace)) (by (slice_get runs t.space)) where
  by : (o : Option WorldState) → slice_get (when_some o runs (λ (r : WorldState). slice_set runs t.space (run_with t.next r))) k ≡ slice_get runs k
  by None = refl
  by (Some r) = get-set-other runs t.space k (run_with t.next r) other

-- the spaces before its own rest as they did
pub rest_with : (runs new : List WorldState) (t : Turn) (first now : ℕ) → RestBefore first runs
    → new ≡ runs_with t runs → now ≡ min first t.space → RestBefore now new
rest_with runs new t first now rest made e k less =
    let before : k < first = omega (arith, less, e) in
    let other : k ≡ t.space → ⊥ = λ same. omega (arith, less, e, same) in
    ap (λ l. delivery_at l k) made ∙ others runs t k other ∙ rest k before

-- where the first delivery was made
pub rest_delivered : (old new : List WorldState) (space : ℕ) → DeliversIn old new (Some space) → RestBefore space new
rest_delivered old new space (next, first, made) k less =
    let other : k ≡ space → ⊥ = λ same. omega (arith, less, same) in
    ap (λ l. delivery_at l k) made ∙ others old (record { space = space; next = next }) k other
    ∙ none-before 0 old (record { space = space; next = next }) first k (let same : 0 + k < space = omega (arith, less) in same)

-- where there was none
pub rest_quiet : (old new : List WorldState) (first : ℕ) → DeliversIn old new None → RestBefore first new
rest_quiet old new first (none, same) k less = ap (λ l. delivery_at l k) same ∙ none-at-all 0 old none k

-- at the start
pub rest_at_start : (runs : List WorldState) (first : ℕ) → first ≡ 0 → RestBefore first runs
rest_at_start runs first e k less = absurd (omega (arith, less, e))
