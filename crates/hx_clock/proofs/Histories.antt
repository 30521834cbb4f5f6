-- The history, and the parts of its numbers.
use Rattle.std.proofs.Common.{◌≡◌, ◌≢◌, ℕ, zero, suc, ◌+◌, ◌*◌, ◌<◌, ◌≤◌, ⊎_elim, Bool, true, false, cond, eqb, List}
use Rattle.std.proofs.Common.{[], ◌∷◌, ◌++◌, length, Some, slice_get, refl, ap, sym, ◌∙◌, arith, add-zero, zero-add}
use Rattle.std.proofs.Common.{eqb-true}
use Rattle.std.proofs.lemmas.Bool.{ltb-true}
use Rattle.std.proofs.lemmas.Bool.Decides.{eqb_tells}
use Rattle.std.specs.Prelude.{nat_lt}
use Rattle.hx_types.specs.declared.messages.Post.{Post}
use Rattle.hx_types.specs.declared.messages.PostId.{PostId}
use Rattle.hx_types.specs.declared.ids.Actor.{Actor}
use Rattle.hx_types.specs.declared.traces.Entry.{Entry}
use Rattle.hx_types.specs.declared.traces.Input.{Input}
use Rattle.hx_types.specs.declared.traces.Input.TheVariants.{Tick, Halt, Deliver}
use Rattle.hx_clock.specs.declared.parts.Stamped.{Stamped}
use Rattle.hx_clock.specs.declared.view.NumberedPart.{NumberedPart}
use Rattle.std.specs.List.{AllByRecursion}
use Rattle.hx_types.specs.Words.{post, IsIn}
use Rattle.hx_clock.specs.Parts.{stamped, DeliveryMeets, InputMeets}
use Rattle.hx_clock.specs.Rule.{Event, part_from, part_in}
use Rattle.hx_clock.specs.Views.{one, times}

-- the sum of f k for each k below n
abbrev pub sums : ℕ → (ℕ → ℕ) → ℕ
sums zero f = 0
sums (suc n) f = sums n f + f n

pub sums-same : (n : ℕ) (f g : ℕ → ℕ) → ((k : ℕ) → f k ≡ g k) → sums n f ≡ sums n g
sums-same zero f g e = refl
sums-same (suc n) f g e = omega (arith, sums-same n f g e, e n)

pub sums-add : (n : ℕ) (f g : ℕ → ℕ) → sums n (λ k. f k + g k) ≡ sums n f + sums n g
sums-add zero f g = omega arith
sums-add (suc n) f g = omega (arith, sums-add n f g)

pub sums-most : (n c : ℕ) (f : ℕ → ℕ) → ((k : ℕ) → f k ≤ c) → sums n f ≤ n * c
sums-most zero c f h = omega arith
sums-most (suc n) c f h = omega (arith, sums-most n c f h, h n)

pub sums-zero : (n : ℕ) → sums n (λ k. 0) ≡ 0
sums-zero zero = refl
sums-zero (suc n) = omega (arith, sums-zero n)

pub one-not : (k j : ℕ) → k ≢ j → one (eqb k j) ≡ 0
one-not k j n = ⊎_elim (λ (h : (eqb k j ≡ true) × (k ≡ j)). absurd (n h.1)) (λ (h : (eqb k j ≡ false) × (k ≢ j)). ap one h.0) (eqb_tells k j)

pub one-same : (k j : ℕ) → k ≡ j → one (eqb k j) ≡ 1
one-same k j e = ⊎_elim (λ (h : (eqb k j ≡ true) × (k ≡ j)). ap one h.0) (λ (h : (eqb k j ≡ false) × (k ≢ j)). absurd (h.1 e)) (eqb_tells k j)

sums-past : (n j : ℕ) → n ≤ j → sums n (λ k. one (eqb k j)) ≡ 0
sums-past zero j h = refl
sums-past (suc n) j h = omega (arith, sums-past n j (omega arith), one-not n j (λ e. omega arith))

sums-one : (n j : ℕ) → j < n → sums n (λ k. one (eqb k j)) ≡ 1
sums-one zero j h = absurd (omega arith)
sums-one (suc n) j h =
    ⊎_elim (λ (e : (eqb n j ≡ true) × (n ≡ j)). let p = e.1 in omega (arith, sums-past n j (omega arith), one-same n j e.1))
    (λ (e : (eqb n j ≡ false) × (n ≢ j)). let p = e.1 in omega (arith, sums-one n j (omega arith), one-not n j e.1)) (eqb_tells n j)

length-case : (b : Bool) (s : Stamped) (R : List Stamped) → length (cond b (s ∷ R) R) ≡ one b + length R
length-case b s R = elim b as (λ b. length (cond b (s ∷ R) R) ≡ one b + length R) [ true ↦ omega arith | false ↦ omega arith ]

-- the parts have all of the history
pub sums-parts : (n i : ℕ) (history : List Event) → AllByRecursion (λ t. t.by < n) history → sums n (λ k. length (part_from k i history)) ≡ length history
sums-parts n i [] h = sums-zero n
sums-parts n i (t ∷ ts) h =
    sums-same n _ (λ k. one (eqb k t.by) + length (part_from k (suc i) ts)) (λ k. length-case (eqb k t.by) _ _)
    ∙ sums-add n (λ k. one (eqb k t.by)) (λ k. length (part_from k (suc i) ts))
    ∙ omega (arith, sums-one n t.by h.0, sums-parts n (suc i) ts h.1)

pub history-most : (n c : ℕ) (history : List Event) → AllByRecursion (λ t. t.by < n) history
    → ((k : ℕ) → length (part_in k history) ≤ c) → length history ≤ n * c
history-most n c history h m = omega (arith, sums-parts n 0 history h, sums-most n c (λ k. length (part_in k history)) m)

snoc-case : (b : Bool) (s : Stamped) (R S c : List Stamped) → R ≡ S ++ c → cond b (s ∷ R) R ≡ cond b (s ∷ S) S ++ c
snoc-case b s R S c e = elim b as (λ b. cond b (s ∷ R) R ≡ cond b (s ∷ S) S ++ c) [ true ↦ ap (λ w. s ∷ w) e | false ↦ e ]

abbrev pub added : ℕ → ℕ → Event → List Stamped
added k n t = cond (eqb k t.by) (stamped n t.entry ∷ []) []

part_from-snoc : (k n : ℕ) (history : List Event) (t : Event) → part_from k n (history ++ t ∷ []) ≡ part_from k n history ++ added k (n + length history) t
part_from-snoc k n [] t = ap (λ m. added k m t) (sym (add-zero n))
part_from-snoc k n (x ∷ xs) t =
    let e : suc n + length xs ≡ n + suc (length xs) = omega arith in
    snoc-case (eqb k x.by) _ _ _ _ (part_from-snoc k (suc n) xs t ∙ ap (λ m. part_from k (suc n) xs ++ added k m t) e)

pub part-snoc : (k : ℕ) (history : List Event) (t : Event) → part_in k (history ++ t ∷ []) ≡ part_in k history ++ added k (length history) t
part-snoc k history t = part_from-snoc k 0 history t ∙ ap (λ m. part_in k history ++ added k m t) (zero-add (length history))

pub added-own : (n : ℕ) (t : Event) → added t.by n t ≡ stamped n t.entry ∷ []
added-own n t = ⊎_elim (λ (h : (eqb t.by t.by ≡ true) × (t.by ≡ t.by)). ap
    (λ b. cond b (stamped n t.entry ∷ []) []) h.0)
    (λ (h : (eqb t.by t.by ≡ false) × (t.by ≢ t.by)). absurd (h.1 refl)) (eqb_tells t.by t.by)

pub added-other : (k n : ℕ) (t : Event) → k ≢ t.by → added k n t ≡ []
added-other k n t d = ⊎_elim (λ (h : (eqb k t.by ≡ true) × (k ≡ t.by)). absurd (d h.1))
    (λ (h : (eqb k t.by ≡ false) × (k ≢ t.by)). ap (λ b. cond b (stamped n t.entry ∷ []) []) h.0) (eqb_tells k t.by)

-- where an entry of a part stands in the history
abbrev pub Stands : ℕ → ℕ → List Event → Stamped → Type 0
Stands k n history x = (m : ℕ) × (t : Event) × (slice_get history m ≡ Some t) × (x ≡ stamped (n + m) t.entry) × (k ≡ t.by)

later : (k n : ℕ) (u : Event) (history : List Event) (x : Stamped) → Stands k (suc n) history x → Stands k n (u ∷ history) x
later k n u history x h = let e : suc n + h.0 ≡ n + suc h.0 = omega arith in (suc h.0, h.1, h.2, h.3 ∙ ap (λ m. stamped m h.1.entry) e, h.4)

stands-case : (b : Bool) (k n : ℕ) (u : Event) (history : List Event) (x : Stamped) → eqb k u.by ≡ b
    → (IsIn x (part_from k (suc n) history) → Stands k (suc n) history x)
    → IsIn x (cond b (stamped n u.entry ∷ part_from k (suc n) history) (part_from k (suc n) history)) → Stands k n (u ∷ history) x
stands-case true k n u history x e rest h =
    ⊎_elim (λ (y : x ≡ stamped n u.entry). (
      0,
      u,
      refl,
      y ∙ ap (λ m. stamped m u.entry) (sym (add-zero n)),
      eqb-true k u.by e,
    )) (λ r. later k n u history x (rest r)) h
stands-case false k n u history x e rest h = later k n u history x (rest h)

pub stands : (k n : ℕ) (history : List Event) (x : Stamped) → IsIn x (part_from k n history) → Stands k n history x
stands k n [] x h = absurd h
stands k n (u ∷ history) x h = stands-case (eqb k u.by) k n u history x refl (stands k (suc n) history x) h

none-case : (b : Bool) (s : Stamped) (R : List Stamped) → b ≡ false → R ≡ [] → cond b (s ∷ R) R ≡ []
none-case true s R e r = absurd cc
none-case false s R e r = r

-- a number that was not drawn has made nothing
pub part-none : (k n i : ℕ) (history : List Event) → AllByRecursion (λ t. t.by < n) history → n ≤ k → part_from k i history ≡ []
part-none k n i [] h le = refl
part-none k n i (t ∷ ts) h le =
    let b = h.0 in
    none-case (eqb k t.by) _ _
    (⊎_elim (λ (y : (eqb k t.by ≡ true) × (k ≡ t.by)). let e = y.1 in absurd (omega arith)) (λ (y : (eqb k t.by ≡ false) × (k ≢ t.by)). y.0) (eqb_tells k t.by))
    (part-none k n (suc i) ts h.1 le)

pub times-in : (k : ℕ) (ps : List NumberedPart) (p : NumberedPart) → IsIn p ps → k ≡ p.number → 1 ≤ times k ps
times-in k [] p h e = absurd h
times-in k (q ∷ ps) p h e =
    ⊎_elim (λ (y : p ≡ q). omega (arith, one-same k q.number (e ∙ ap (λ (r : NumberedPart). r.number) y))) (λ r. omega (arith, times-in k ps p r e)) h

one_lt-case : (b : Bool) (k n : ℕ) → nat_lt k n ≡ b → 1 ≤ one b → k < n
one_lt-case true k n e h = ltb-true k n e
one_lt-case false k n e h = absurd (omega arith)

pub one-lt : (k n : ℕ) → 1 ≤ one (nat_lt k n) → k < n
one-lt k n h = one_lt-case (nat_lt k n) k n refl h

pub one-le : (b : Bool) → one b ≤ 1
one-le true = omega arith
one-le false = omega arith

-- what is known of the post that is delivered follows from what implies it
inputs-more : (actor : Actor) (input : Input) (P Q : PostId → Post → Type 0)
    → ((id : PostId) (p : Post) → P id p → Q id p) → InputMeets P actor input → InputMeets Q actor input
inputs-more actor Tick P Q f h = tt
inputs-more actor Halt P Q f h = tt
inputs-more actor (Deliver id from message) P Q f h = f id (post from actor message) h

pub meets_more : (e : Entry) (P Q : PostId → Post → Type 0) → ((id : PostId) (p : Post) → P id p → Q id p) → DeliveryMeets P e → DeliveryMeets Q e
meets_more e P Q f h = inputs-more e.actor e.input P Q f h
