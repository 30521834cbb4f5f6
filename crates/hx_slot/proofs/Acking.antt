-- Acknowledgements of pending updates, and what they commit.
use Rattle.std.proofs.Common.{◌≡◌, ℕ, zero, suc, ◌<◌, Bool, true, false, not, ◌&&◌, ◌||◌, List, [], ◌∷◌, map, length}
use Rattle.std.proofs.Common.{take, drop, set, get_or, Option, Some, None, refl, ap, sym, ◌∙◌, subst, arith, cond, eqb}
use Rattle.std.proofs.Common.{ltb, inl, inr}
use Rattle.std.specs.List.{AllByRecursion, filter, find, list_any, position}
use Rattle.std.proofs.lemmas.Bool.{cases_eq, cond_both, cond-false, cond-true, eq-eqb, eqb-false, eqb-true, false≢true}
use Rattle.std.proofs.lemmas.Bool.{false_from_ne_true, lt-ltb, ltb-true, ne_eqb, not-true, or_cases, or_left, or_right}
use Rattle.std.proofs.lemmas.List.{take-append-drop}
use Rattle.std.proofs.lemmas.List.Folds.{list_any-append, list_any_at}
use Rattle.hx_model.specs.Types.{Update}
use Rattle.hx_types.specs.Words.{provided}
use Rattle.hx_model.specs.Slots.{Commit, KeyState, Move, commits, moved_all}
use Rattle.hx_slot.specs.declared.updates.AcceptedUpdate.{AcceptedUpdate}
use Rattle.hx_slot.specs.Acks.{AreAcked, AreSameUpdates, front_acked, front_with, is_acknowledged_as, is_of_version}
use Rattle.hx_slot.specs.Updates.{Ascends, last_version}
use Rattle.hx_slot.proofs.Accepting.{not_in}
use Rattle.hx_slot.proofs.Newest.{Ascends-append, by_recursion-drop, last_version-above, update_of}
use Rattle.hx_slot.proofs.SameUpdates.{same-set}
use Rattle.hx_slot.proofs.Turns.{no-place}
use Rattle.hx_law_folds.proofs.Lemmas.{all-filter}

abbrev pub is_acked : List ℕ → ℕ → Bool
is_acked acked v = list_any (λ w. eqb w v) acked

-- the lowest acknowledged updates are committed
abbrev pub commits_of : List AcceptedUpdate → List Move
commits_of ts = map (λ (t : AcceptedUpdate). Commit t.update) ts

pub commits-front : (acked : List ℕ) (ts : List AcceptedUpdate)
    → AllByRecursion (λ (t : AcceptedUpdate). t.acknowledged ≡ is_acked acked t.update.version.0) ts
    → commits acked (map update_of ts) ≡ commits_of (take (front_acked ts) ts)
commits-front acked [] h = refl
commits-front acked (t ∷ rest) h =
    cond_both t.acknowledged (suc (front_acked rest)) zero (λ n. commits acked (map update_of (t ∷ rest)) ≡ commits_of (take n (t ∷ rest)))
    (λ e. ap (λ b. provided b (Commit t.update ∷ commits acked (map update_of rest))) (sym h.0 ∙ e)
    ∙ ap (λ (moves : List Move). Commit t.update ∷ moves) (commits-front acked rest h.1))
    (λ e. ap (λ b. provided b (Commit t.update ∷ commits acked (map update_of rest))) (sym h.0 ∙ e))

-- the acknowledgements without those of committed updates
abbrev pub dropped : List AcceptedUpdate → List ℕ → List ℕ
dropped [] acked = acked
dropped (t ∷ rest) acked = dropped rest (filter (λ w. not (eqb w t.update.version.0)) acked)

-- what committing them makes of a state
pub commits-state : (ts : List AcceptedUpdate) (s : KeyState)
    → moved_all (commits_of ts) s ≡ record s { floor = last_version s.floor ts; acked = dropped ts s.acked }
commits-state [] s = refl
commits-state (t ∷ rest) s = commits-state rest (record s { floor = t.update.version.0; acked = filter (λ w. not (eqb w t.update.version.0)) s.acked })

filter-all : {A : Type 0} (test : A → Bool) (xs : List A) → AllByRecursion (λ x. test x ≡ true) xs → filter test xs ≡ xs
filter-all test [] h = refl
filter-all {A} test (x ∷ xs) h = cond-true (test x) _ _ h.0 ∙ ap (λ (ys : List A). x ∷ ys) (filter-all test xs h.1)

-- a stricter test of what another keeps
filter-filter : {A : Type 0} (p q : A → Bool) (xs : List A) → ((x : A) → p x ≡ true → q x ≡ true) → filter p (filter q xs) ≡ filter p xs
filter-filter p q [] h = refl
filter-filter {A} p q (x ∷ xs) h =
    cond_both (q x) (x ∷ filter q xs) (filter q xs) (λ (ys : List A). filter p ys ≡ filter p (x ∷ xs))
    (λ e. ap (λ (ys : List A). cond (p x) (x ∷ ys) ys) (filter-filter p q xs h))
    (λ e. filter-filter p q xs h ∙ sym (cond-false (p x) _ _ (false_from_ne_true (p x) (λ t. false≢true (sym e ∙ h x t)))))

-- what a test finds is found among what a weaker test keeps
any-filter : {A : Type 0} (p q : A → Bool) (xs : List A) → ((x : A) → p x ≡ true → q x ≡ true) → list_any p (filter q xs) ≡ list_any p xs
any-filter p q [] h = refl
any-filter {A} p q (x ∷ xs) h =
    cond_both (q x) (x ∷ filter q xs) (filter q xs) (λ (ys : List A). list_any p ys ≡ list_any p (x ∷ xs))
    (λ e. ap (λ b. p x || b) (any-filter p q xs h))
    (λ e. any-filter p q xs h ∙ sym (ap (λ b. b || list_any p xs) (false_from_ne_true (p x) (λ t. false≢true (sym e ∙ h x t)))))

-- what is pending has versions above the floor
above-floor : (v w : ℕ) (ts : List AcceptedUpdate) → Ascends v ts → list_any (is_of_version w) ts ≡ true → v < w
above-floor v w [] h e = absurd (false≢true e)
above-floor v w (t ∷ rest) h e = elim (or_cases (is_of_version w t) (list_any (is_of_version w) rest) e) [
  | inl s ↦ (let q = eqb-true t.update.version.0 w s in omega (arith, q))
  | inr s ↦ (let b = above-floor t.update.version.0 w rest h.1 s in omega (arith, b))
]

abbrev pub AreKnown : List AcceptedUpdate → List ℕ → Type 0
AreKnown ts acked = AllByRecursion (λ w. list_any (is_of_version w) ts ≡ true) acked

all-above : (v : ℕ) (ts : List AcceptedUpdate) (acked : List ℕ) → Ascends v ts → AreKnown ts acked → AllByRecursion (λ w. ltb v w ≡ true) acked
all-above v ts [] h k = tt
all-above v ts (w ∷ rest) h k = (lt-ltb v w (above-floor v w ts h k.0), all-above v ts rest h k.1)

-- without the first update, what isn't of its version is of a later one
known-rest : (t : AcceptedUpdate) (ts : List AcceptedUpdate) (acked : List ℕ) → AreKnown (t ∷ ts) acked
    → AreKnown ts (filter (λ w. not (eqb w t.update.version.0)) acked)
known-rest t ts [] k = tt
known-rest t ts (w ∷ rest) k =
    cond_both (not (eqb w t.update.version.0)) (w ∷ filter (λ w. not (eqb w t.update.version.0)) rest)
    (filter (λ w. not (eqb w t.update.version.0)) rest) (AreKnown ts)
    (
    λ e. (
      elim (or_cases (is_of_version w t) (list_any (is_of_version w) ts) k.0) [
        | inl s ↦ (let q = eqb-true t.update.version.0 w s in absurd (eqb-false w t.update.version.0 (not-true (eqb w t.update.version.0) e) (sym q)))
        | inr s ↦ s
      ],
      known-rest t ts rest k.1,
    )
    )
    (λ e. known-rest t ts rest k.1)

pub ascends-take : (v n : ℕ) (ts : List AcceptedUpdate) → Ascends v ts → Ascends v (take n ts)
ascends-take v zero ts h = tt
ascends-take v (suc n) [] h = tt
ascends-take v (suc n) (t ∷ rest) h = (h.0, ascends-take t.update.version.0 n rest h.1)

-- the acknowledgements that are left are those above the new floor
pub dropped-upto : (v n : ℕ) (ts : List AcceptedUpdate) (acked : List ℕ) → Ascends v ts → AreKnown ts acked
    → dropped (take n ts) acked ≡ filter (ltb (last_version v (take n ts))) acked
dropped-upto v zero ts acked h k = sym (filter-all (ltb v) acked (all-above v ts acked h k))
dropped-upto v (suc n) [] acked h k = sym (filter-all (ltb v) acked (all-above v [] acked h k))
dropped-upto v (suc n) (t ∷ rest) acked h k =
    dropped-upto t.update.version.0 n rest (filter (λ w. not (eqb w t.update.version.0)) acked) h.1 (known-rest t rest acked k)
    ∙ filter-filter (ltb (last_version t.update.version.0 (take n rest))) (λ w. not (eqb w t.update.version.0)) acked
    (
    λ w e. (
    let a = ltb-true (last_version t.update.version.0 (take n rest)) w e in
    let b = last_version-above t.update.version.0 (take n rest) (ascends-take t.update.version.0 n rest h.1) in
    ap not (ne_eqb w t.update.version.0 (λ q. omega (arith, a, b, q)))
    )
    )

-- how many updates the acknowledgements commit
pub commits-count : (acked : List ℕ) (ts : List AcceptedUpdate)
    → AllByRecursion (λ (t : AcceptedUpdate). t.acknowledged ≡ is_acked acked t.update.version.0) ts
    → length (commits acked (map update_of ts)) ≡ front_acked ts
commits-count acked [] h = refl
commits-count acked (t ∷ rest) h =
    cond_both t.acknowledged (suc (front_acked rest)) zero (λ n. length (commits acked (map update_of (t ∷ rest))) ≡ n)
    (λ e. ap (λ b. length (provided b (Commit t.update ∷ commits acked (map update_of rest)))) (sym h.0 ∙ e) ∙ ap suc (commits-count acked rest h.1))
    (λ e. ap (λ b. length (provided b (Commit t.update ∷ commits acked (map update_of rest)))) (sym h.0 ∙ e))

-- acknowledged with one version more
abbrev pub with_ack : ℕ → List ℕ → List ℕ
with_ack v acked = v ∷ filter (λ w. not (eqb w v)) acked

is_acked-other : (v w : ℕ) (acked : List ℕ) → (w ≡ v → ⊥) → is_acked (with_ack v acked) w ≡ is_acked acked w
is_acked-other v w acked n =
    ap (λ b. b || is_acked (filter (λ x. not (eqb x v)) acked) w) (ne_eqb v w (λ e. n (sym e)))
    ∙ any-filter (λ x. eqb x w) (λ x. not (eqb x v)) acked (λ x e. (let q = eqb-true x w e in ap not (ne_eqb x v (λ s. n (sym q ∙ s)))))

is_acked-same : (v : ℕ) (acked : List ℕ) → is_acked (with_ack v acked) v ≡ true
is_acked-same v acked = or_left (eqb v v) (is_acked (filter (λ x. not (eqb x v)) acked) v) (eq-eqb v v refl)

or_false : (b : Bool) → (b || false) ≡ b
or_false true = refl
or_false false = refl

-- how many it would commit
pub commits-with : (v : ℕ) (acked : List ℕ) (ts : List AcceptedUpdate)
    → AllByRecursion (λ (t : AcceptedUpdate). t.acknowledged ≡ is_acked acked t.update.version.0) ts
    → length (commits (with_ack v acked) (map update_of ts)) ≡ front_with v ts
commits-with v acked [] h = refl
commits-with v acked (t ∷ rest) h =
    cond_both (t.acknowledged || is_of_version v t) (suc (front_with v rest)) zero (λ n. length (commits (with_ack v acked) (map update_of (t ∷ rest))) ≡ n)
    (λ e. ap (λ b. length (provided b (Commit t.update ∷ commits (with_ack v acked) (map update_of rest)))) (same ∙ e) ∙ ap suc (commits-with v acked rest h.1))
    (λ e. ap (λ b. length (provided b (Commit t.update ∷ commits (with_ack v acked) (map update_of rest)))) (same ∙ e))
  where
    same : is_acked (with_ack v acked) t.update.version.0 ≡ (t.acknowledged || is_of_version v t)
    same = elim (cases_eq t.update.version.0 v) [
      | inl e ↦ ap (is_acked (with_ack v acked)) e ∙ is_acked-same v acked ∙ sym (or_right t.acknowledged (is_of_version v t) (eq-eqb t.update.version.0 v e))
      | inr n ↦ is_acked-other v t.update.version.0 acked n ∙ sym h.0
          ∙ sym (ap (λ b. t.acknowledged || b) (ne_eqb t.update.version.0 v n) ∙ or_false t.acknowledged)
    ]

-- a version is pending where an update has it
pub pending-any : (v : ℕ) (ts : List AcceptedUpdate) → list_any (λ (u : Update). eqb u.version.0 v) (map update_of ts) ≡ list_any (is_of_version v) ts
pending-any v [] = refl
pending-any v (t ∷ rest) = ap (λ b. is_of_version v t || b) (pending-any v rest)

find-none : {A : Type 0} (test : A → Bool) (xs : List A) → find test xs ≡ None → list_any test xs ≡ false
find-none test [] = λ e. refl
find-none {A} test (x ∷ xs) =
    cond_both (test x) (Some x) (find test xs) (λ (o : Option A). o ≡ None → list_any test (x ∷ xs) ≡ false)
    (λ b e. absurd (cc))
    (λ b e. ap (λ c. c || list_any test xs) b ∙ find-none test xs e)

pub none-pending : (v : ℕ) (ts : List AcceptedUpdate) → position (is_of_version v) ts ≡ None → list_any (is_of_version v) ts ≡ false
none-pending v ts e = find-none (is_of_version v) ts (no-place (is_of_version v) ts e)

-- two facts of each
by_recursion-both : {A : Type 0} (P Q R : A → Type 0) (xs : List A) → AllByRecursion P xs → AllByRecursion Q xs
    → ((x : A) → P x → Q x → R x) → AllByRecursion R xs
by_recursion-both P Q R [] h k f = tt
by_recursion-both P Q R (x ∷ xs) h k f = (f x h.0 k.0, by_recursion-both P Q R xs h.1 k.1 f)

ascends-above : (v : ℕ) (ts : List AcceptedUpdate) → Ascends v ts → AllByRecursion (λ (t : AcceptedUpdate). v < t.update.version.0) ts
ascends-above v [] h = tt
ascends-above v (t ∷ rest) h =
    let above = ascends-above t.update.version.0 rest h.1 in (
      h.0,
      by_recursion-both (λ (x : AcceptedUpdate). t.update.version.0 < x.update.version.0)
          (λ (x : AcceptedUpdate). t.update.version.0 < x.update.version.0)
          (λ (x : AcceptedUpdate). v < x.update.version.0) rest above above (λ x a b. omega arith),
    )

-- what is left pending is above the new floor
pub ascends-rest : (v n : ℕ) (ts : List AcceptedUpdate) → Ascends v ts → Ascends (last_version v (take n ts)) (drop n ts)
ascends-rest v n ts h = Ascends-append v (take n ts) (drop n ts) (subst (Ascends v) (sym (take-append-drop n ts)) h)

known-left : (v n w : ℕ) (ts : List AcceptedUpdate) → Ascends v ts → last_version v (take n ts) < w
    → list_any (is_of_version w) ts ≡ true → list_any (is_of_version w) (drop n ts) ≡ true
known-left v n w ts h l e =
    let whole = ap (list_any (is_of_version w)) (take-append-drop n ts) in
    let parts = list_any-append (is_of_version w) (take n ts) (drop n ts) in
    let front = not_in v w (take n ts) (ascends-take v n ts h) l in
    sym (ap (λ b. b || list_any (is_of_version w) (drop n ts)) front) ∙ sym parts ∙ whole ∙ e

known-settled : (v n : ℕ) (ts : List AcceptedUpdate) (acked : List ℕ) → Ascends v ts → AreKnown ts acked
    → AreKnown (drop n ts) (filter (ltb (last_version v (take n ts))) acked)
known-settled v n ts [] h k = tt
known-settled v n ts (w ∷ rest) h k =
    cond_both (ltb (last_version v (take n ts)) w) (w ∷ filter (ltb (last_version v (take n ts))) rest)
    (filter (ltb (last_version v (take n ts))) rest) (AreKnown (drop n ts))
    (λ e. (known-left v n w ts h (ltb-true (last_version v (take n ts)) w e) k.0, known-settled v n ts rest h k.1))
    (λ e. known-settled v n ts rest h k.1)

-- what is acknowledged after the lowest are committed
pub acked-settled : (v n : ℕ) (ts : List AcceptedUpdate) (acked : List ℕ) → Ascends v ts → AreAcked acked ts
    → AreAcked (filter (ltb (last_version v (take n ts))) acked) (drop n ts)
acked-settled v n ts acked h a =
    record {
      marked = by_recursion-both (λ (t : AcceptedUpdate). t.acknowledged ≡ is_acked acked t.update.version.0)
          (λ (t : AcceptedUpdate). last_version v (take n ts) < t.update.version.0)
          (λ (t : AcceptedUpdate). t.acknowledged ≡ is_acked (filter (ltb (last_version v (take n ts))) acked) t.update.version.0) (drop n ts)
          (by_recursion-drop (λ (t : AcceptedUpdate). t.acknowledged ≡ is_acked acked t.update.version.0) n ts a.marked)
          (ascends-above (last_version v (take n ts)) (drop n ts) (ascends-rest v n ts h))
          (
          λ t e l. e ∙ sym (any-filter (λ x. eqb x t.update.version.0) (ltb (last_version v (take n ts))) acked
          (λ x s. (let q = eqb-true x t.update.version.0 s in lt-ltb (last_version v (take n ts)) x (omega (arith, q, l)))))
          );
      known = known-settled v n ts acked h a.known;
    }

-- versions at later places are higher
place-above : (v : ℕ) (ts : List AcceptedUpdate) (i : ℕ) (t : AcceptedUpdate) → Ascends v ts → i < length ts → t ≡ get_or ts i t → v < t.update.version.0
place-above v [] i t h l e = absurd (omega arith)
place-above v (x ∷ rest) zero t h l e = (let q = ap (λ (y : AcceptedUpdate). y.update.version.0) e in omega (arith, q, h.0))
place-above v (x ∷ rest) (suc i) t h l e = (let b = place-above x.update.version.0 rest i t h.1 (omega arith) e in omega (arith, b, h.0))

abbrev IsMarked : List ℕ → AcceptedUpdate → Type 0
IsMarked acked t = t.acknowledged ≡ is_acked acked t.update.version.0

-- marks of other versions stay
marked-others : (v : ℕ) (acked : List ℕ) (ts : List AcceptedUpdate) → AllByRecursion (IsMarked acked) ts
    → AllByRecursion (λ (t : AcceptedUpdate). v < t.update.version.0) ts → AllByRecursion (IsMarked (with_ack v acked)) ts
marked-others v acked ts h a =
    by_recursion-both (IsMarked acked) (λ (t : AcceptedUpdate). v < t.update.version.0)
    (IsMarked (with_ack v acked)) ts h a (λ t e l. e
    ∙ sym (is_acked-other v t.update.version.0 acked (λ q. omega (arith, q, l))))

marked-set : (base : ℕ) (acked : List ℕ) (ts : List AcceptedUpdate) (i : ℕ) (t : AcceptedUpdate) → Ascends base ts
    → i < length ts → t ≡ get_or ts i t → AllByRecursion (IsMarked acked) ts
    → AllByRecursion (IsMarked (with_ack t.update.version.0 acked)) (set ts i (record t { acknowledged = true }))
marked-set base acked [] i t h l e m = absurd (omega arith)
marked-set base acked (x ∷ rest) zero t h l e m = (
  sym (is_acked-same t.update.version.0 acked),
  marked-others t.update.version.0 acked rest m.1
      (subst (λ v. AllByRecursion (λ (y : AcceptedUpdate). v < y.update.version.0) rest)
      (ap (λ (y : AcceptedUpdate). y.update.version.0) (sym e)) (ascends-above x.update.version.0 rest h.1)),
)
marked-set base acked (x ∷ rest) (suc i) t h l e m =
    let b = place-above x.update.version.0 rest i t h.1 (omega arith) e in (
      m.0 ∙ sym (is_acked-other t.update.version.0 x.update.version.0 acked (λ q. omega (arith, q, b))),
      marked-set x.update.version.0 acked rest i t h.1 (omega arith) e m.1,
    )

-- the same versions stand in a list of the same entries
same-any : (v : ℕ) (xs ys : List AcceptedUpdate) → AreSameUpdates xs ys → list_any (is_of_version v) ys ≡ list_any (is_of_version v) xs
same-any v [] [] h = refl
same-any v [] (y ∷ ys) h = absurd h
same-any v (x ∷ xs) [] h = absurd h
same-any v (x ∷ xs) (y ∷ ys) h =
    ap (λ (u : Update). eqb u.version.0 v || list_any (is_of_version v) ys) h.0 ∙ ap (λ b. is_of_version v x || b) (same-any v xs ys h.2)

pub known-same : (xs ys : List AcceptedUpdate) (acked : List ℕ) → AreSameUpdates xs ys → AreKnown xs acked → AreKnown ys acked
known-same xs ys [] h k = tt
known-same xs ys (w ∷ rest) h k = (same-any w xs ys h ∙ k.0, known-same xs ys rest h k.1)

-- what is acknowledged with one version more
pub acked-set : (base : ℕ) (acked : List ℕ) (ts : List AcceptedUpdate) (i : ℕ) (t : AcceptedUpdate) → Ascends base ts
    → i < length ts → t ≡ get_or ts i t → AreAcked acked ts
    → AreAcked (with_ack t.update.version.0 acked) (set ts i (record t { acknowledged = true }))
acked-set base acked ts i t h l e a =
    let same = same-set ts i t true l e in
    record {
      marked = marked-set base acked ts i t h l e a.marked;
      known = (
        same-any t.update.version.0 ts (set ts i (record t { acknowledged = true })) same
            ∙ list_any_at (is_of_version t.update.version.0) ts i t l
            (eq-eqb (get_or ts i t).update.version.0 t.update.version.0
            (ap (λ (y : AcceptedUpdate). y.update.version.0) (sym e))),
        known-same ts (set ts i (record t { acknowledged = true }))
            (filter (λ w. not (eqb w t.update.version.0)) acked) same
            (all-filter (λ w. list_any (is_of_version w) ts ≡ true) (λ w. not (eqb w t.update.version.0)) acked a.known),
      );
    }

-- nothing is acknowledged
pub acked-none : (ts : List AcceptedUpdate) → AllByRecursion (λ (t : AcceptedUpdate). t.acknowledged ≡ false) ts → AreAcked [] ts
acked-none ts h = record { marked = h; known = tt }

-- an update of the version that is marked, where the version is acknowledged
marked-one : (is acked marked rest others : Bool) → (is ≡ true → marked ≡ acked) → rest ≡ (acked && others)
    → ((marked && is) || rest) ≡ (acked && (is || others))
marked-one true true marked rest others f e = ap (λ b. (b && true) || rest) (f refl)
marked-one true false marked rest others f e = ap (λ b. (b && true) || rest) (f refl) ∙ e
marked-one false acked true rest others f e = e
marked-one false acked false rest others f e = e

none-marked : (b : Bool) → false ≡ (b && false)
none-marked true = refl
none-marked false = refl

marked-any : (v : ℕ) (ts : List AcceptedUpdate) (acked : List ℕ) → AllByRecursion (IsMarked acked) ts
    → list_any (is_acknowledged_as v) ts ≡ (is_acked acked v && list_any (is_of_version v) ts)
marked-any v [] acked h = none-marked (is_acked acked v)
marked-any v (t ∷ rest) acked h =
    marked-one (is_of_version v t) (is_acked acked v) t.acknowledged (list_any (is_acknowledged_as v) rest) (list_any (is_of_version v) rest)
    (λ e. h.0 ∙ ap (is_acked acked) (eqb-true t.update.version.0 v e))
    (marked-any v rest acked h.1)

-- an acknowledged version is that of an update
pending-acked : (v : ℕ) (ts : List AcceptedUpdate) (acked : List ℕ) → AreKnown ts acked → is_acked acked v ≡ true → list_any (is_of_version v) ts ≡ true
pending-acked v ts [] k e = absurd (false≢true e)
pending-acked v ts (w ∷ rest) k e = elim (or_cases (eqb w v) (is_acked rest v) e) [
  | inl s ↦ subst (λ n. list_any (is_of_version n) ts ≡ true) (eqb-true w v s) k.0
  | inr s ↦ pending-acked v ts rest k.1 s
]

absorb : (b c : Bool) → (b ≡ true → c ≡ true) → (b && c) ≡ b
absorb true c f = f refl
absorb false c f = refl

-- a version is acknowledged where its update is there and marked so
pub acknowledged-any : (v : ℕ) (ts : List AcceptedUpdate) (acked : List ℕ) → AreAcked acked ts → list_any (is_acknowledged_as v) ts ≡ is_acked acked v
acknowledged-any v ts acked h = marked-any v ts acked h.marked ∙ absorb (is_acked acked v) (list_any (is_of_version v) ts) (pending-acked v ts acked h.known)
