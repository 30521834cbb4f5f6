-- What the rule says of all that is carried and known.
use Rattle.std.proofs.Common.{◌≡◌, ◌≢◌, ℕ, suc, ◌+◌, ◌<◌, ◌≤◌, ⊎_elim, Bool, true, false, cond, eqb, nat_lt, lt-ltb}
use Rattle.std.proofs.Common.{List, [], ◌∷◌, ◌++◌, map, length, flat_map, refl, ap, sym, subst, ◌∙◌, arith}
use Rattle.std.proofs.Common.{length-append, append-nil}
use mathlib.Core.Option.{some}
use mathlib.Core.List.{IsPrefix}
use lib.ListN.{get_elem?}
use Rattle.std.specs.Prelude.{slice_index, ⊤}
use Rattle.std.specs.List.{AllByRecursion}
use Rattle.std.proofs.lemmas.Bool.Decides.{eqb_tells}
use Rattle.atomic_table.specs.Table.{State}
use Rattle.hx_types.specs.declared.limits.TheConstants.{MOST_ENTRIES}
use Rattle.hx_clock.specs.declared.limits.TheConstants.{MOST_ENROLLED}
use Rattle.hx_clock.specs.declared.parts.Stamped.{Stamped}
use Rattle.hx_clock.specs.declared.view.NumberedPart.{NumberedPart}
use Rattle.hx_clock.specs.declared.view.View.{View}
use Rattle.hx_clock.specs.Parts.{HasStampsBelow}
use Rattle.hx_clock.specs.Views.{known_part, longer, one, times, total}
use Rattle.hx_clock.specs.Rule.{part_in, Event, IsKept}
use Rattle.hx_clock.specs.Laws.{actors_in, carried_in, parts_in, stamps_in, IsOrderly}
use Rattle.hx_clock.proofs.Lists.{each_append, each_map, total-append}
use Rattle.hx_clock.proofs.Histories.{one-not, part-none}
use Rattle.hx_clock.proofs.Knowing.{longer-first, longer-none, longer-second, lt_tells}
use Rattle.hx_clock.proofs.Carried.{whole-causal, whole-stamps, AreWhole}

-- what holds of each view's carried parts holds of all that are carried
each_carried : (P : NumberedPart → Type 0) (views : List View) → ((place : ℕ) (v : View) → get_elem? views place ≡ some v → AllByRecursion P v.carried)
    → AllByRecursion P (flat_map (λ (v : View). v.carried) views)
each_carried P [] h = tt
each_carried P (v ∷ vs) h = each_append P v.carried (flat_map (λ (v : View). v.carried) vs) (h 0 v refl) (each_carried P vs (λ place u e. h (suc place) u e))

times-all : (k : ℕ) (views : List View) → times k (flat_map (λ (v : View). v.carried) views) ≡ total (λ (v : View). times k v.carried) views
times-all k [] = refl
times-all k (v ∷ vs) = total-append (λ p. one (eqb k p.number)) v.carried (flat_map (λ (v : View). v.carried) vs)
    ∙ ap (λ n. times k v.carried + n) (times-all k vs)

prefix-longer : (xs ys zs : List Stamped) → IsPrefix xs zs → IsPrefix ys zs → IsPrefix (longer xs ys) zs
prefix-longer xs ys zs p q =
    ⊎_elim
    (λ (h : (nat_lt (length xs) (length ys) ≡ true) × (length xs < length ys)). subst (λ w. IsPrefix w zs) (sym (longer-second xs ys h.1)) q)
    (λ (h : (nat_lt (length xs) (length ys) ≡ false) × (length ys ≤ length xs)). subst (λ w. IsPrefix w zs) (sym (longer-first xs ys h.1)) p)
    (lt_tells (length xs) (length ys))

prefix-length : (xs ys : List Stamped) → IsPrefix xs ys → length xs ≤ length ys
prefix-length xs ys p = omega (arith, sym (ap length p.1) ∙ length-append xs p.0)

-- the part that stands under a number, or none
prefix-case : (b : Bool) (xs zs : List Stamped) → (b ≡ true → IsPrefix xs zs) → IsPrefix (cond b xs []) zs
prefix-case true xs zs h = h refl
prefix-case false xs zs h = (zs, refl)

module _ (F : ℕ → List Stamped) where
  known-prefix : (k : ℕ) (ps : List NumberedPart) → AllByRecursion (λ p. IsPrefix p.entries (F p.number)) ps → IsPrefix (known_part k ps) (F k)
  known-prefix k [] h = (F k, refl)
  known-prefix k (p ∷ ps) h =
      prefix-longer (cond (eqb k p.number) p.entries []) (known_part k ps) (F k)
      (prefix-case (eqb k p.number) p.entries (F k)
      (λ e. ⊎_elim (λ (t : (eqb k p.number ≡ true) × (k ≡ p.number)). subst (λ j. IsPrefix p.entries (F j)) (sym t.1) h.0)
      (λ (t : (eqb k p.number ≡ false) × (k ≢ p.number)). absurd (cc (e, t.0))) (eqb_tells k p.number)))
      (known-prefix k ps h.1)

  whole-prefix : (ps : List NumberedPart) → AllByRecursion (λ p. p.entries ≡ F p.number) ps → AllByRecursion (λ p. IsPrefix p.entries (F p.number)) ps
  whole-prefix ps h = each_map _ _ ps (λ p i e. subst (IsPrefix p.entries) e ([], append-nil p.entries)) h

  known-whole : (k : ℕ) (ps : List NumberedPart) → AllByRecursion (λ p. p.entries ≡ F p.number) ps → 1 ≤ times k ps → known_part k ps ≡ F k
  known-whole k [] h t = absurd (omega arith)
  known-whole k (p ∷ ps) h t =
      let rest = known-prefix k ps (whole-prefix ps h.1) in
      ⊎_elim
      (λ (e : (eqb k p.number ≡ true) × (k ≡ p.number)).
      ap (λ b. longer (cond b p.entries []) (known_part k ps)) e.0
      ∙ ap (λ w. longer w (known_part k ps)) (h.0 ∙ ap F (sym e.1))
      ∙ longer-first (F k) (known_part k ps) (prefix-length (known_part k ps) (F k) rest))
      (λ (e : (eqb k p.number ≡ false) × (k ≢ p.number)).
      ap (λ b. longer (cond b p.entries []) (known_part k ps)) e.0
      ∙ longer-none (known_part k ps)
      ∙ known-whole k ps h.1 (omega (arith, one-not k p.number e.1)))
      (eqb_tells k p.number)

no-prefix : (xs : List Stamped) → IsPrefix xs [] → xs ≡ []
no-prefix [] h = refl
no-prefix (x ∷ xs) h = absurd (cc h.1)

-- what is known of a number is a prefix of what is carried
known-carried : (history : List Event) (actors k : ℕ) (ps known : List NumberedPart) → AreWhole history actors ps
    → AllByRecursion (λ p. IsPrefix p.entries (part_in p.number history)) known → IsPrefix (known_part k known) (known_part k ps)
known-carried history actors k ps known whole h =
    let begins = known-prefix (λ j. part_in j history) k known h in
    ⊎_elim
    (λ (t : (nat_lt k actors ≡ true) × (k < actors)).
    let e = whole.2 k t.1 in
    subst (IsPrefix (known_part k known)) (sym (known-whole (λ j. part_in j history) k ps whole.0 (omega arith))) begins)
    (λ (t : (nat_lt k actors ≡ false) × (actors ≤ k)).
    let none : known_part k known ≡ [] = no-prefix (known_part k known)
    (subst (IsPrefix (known_part k known)) (part-none k actors 0 history whole.1 t.1) begins) in
    (known_part k ps, ap (λ w. w ++ known_part k ps) none))
    (lt_tells k actors)

each_mapped : {A B : Type 0} (P : B → Type 0) (f : A → B) (xs : List A) → AllByRecursion (λ x. P (f x)) xs → AllByRecursion P (map f xs)
each_mapped P f [] h = tt
each_mapped P f (x ∷ xs) h = (h.0, each_mapped P f xs h.1)

pub stays_orderly : (s : State ⊤ View) → IsKept s → IsOrderly s
stays_orderly s kept =
    let stamps : stamps_in s ≡ length kept.history = ap (λ ws. slice_index ws 0) kept.words in
    let actors : actors_in s ≡ kept.actors = ap (λ ws. slice_index ws 1) kept.words in
    let whole : AreWhole kept.history kept.actors (carried_in s) = (
      each_carried _ s.views (λ place v at. (kept.fits place v at).carried),
      kept.by_actors,
      λ k lt. times-all k s.views ∙ kept.carried_once k ∙ ap one (lt-ltb k kept.actors lt),
    ) in
    record {
      carried_once = λ k. kept.carried_once k ∙ ap (λ n. one (nat_lt k n)) (sym actors);
      counted_once = kept.counted_once;
      counted = λ place n v at e. (kept.fits place v at).count n e ∙ sym actors;
      causal = whole-causal kept.history kept.actors (carried_in s) whole kept.causal;
      stamps = subst (λ n. HasStampsBelow n (parts_in s)) (sym stamps) (whole-stamps kept.history kept.actors (carried_in s) whole);
      known = λ place k v at. known-carried kept.history kept.actors k (carried_in s) v.known whole (kept.fits place v at).known;
      few_entries = each_mapped (λ part. length part ≤ MOST_ENTRIES) (λ (p : NumberedPart). p.entries) (carried_in s)
          (each_map _ _ (carried_in s) (λ p i e. subst (λ xs. length xs ≤ MOST_ENTRIES) (sym e) (kept.few_entries p.number)) whole.0);
      few_actors = subst (λ n. n ≤ MOST_ENROLLED) (sym actors) kept.few_actors;
    }
