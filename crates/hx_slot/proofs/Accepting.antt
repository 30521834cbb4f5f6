-- A slot that accepts or holds an update.
use Rattle.std.proofs.Common.{◌≡◌, ℕ, zero, suc, ◌+◌, ◌<◌, ◌≤◌, true, false, not, List, [], ◌∷◌, ◌++◌, Vec, length}
use Rattle.std.proofs.Common.{drop, get_or, vec_capacity, vec_len, refl, ap, sym, ◌∙◌, subst, arith, cond, eqb, inl}
use Rattle.std.proofs.Common.{inr}
use Rattle.std.specs.List.{AllByRecursion, filter, list_any, remove}
use Rattle.std.specs.declared.alloc.Global.{Global}
use Rattle.std.proofs.lemmas.Bool.{cond_both, cond-false, cond-true, eq-eqb, eqb-true, false_from_ne_true, false≢true, or_cases, or_left}
use Rattle.std.proofs.lemmas.List.Folds.{list_any-append}
use Rattle.std.proofs.lemmas.List.{drop-append-le, length-append, map_push, take-append-le}
use Rattle.hx_model.specs.Types.{RegionId, Update}
use Rattle.hx_model.specs.Slots.{Hold, Take, moved, other_version}
use Rattle.hx_slot.specs.declared.updates.PlacedUpdate.{PlacedUpdate}
use Rattle.hx_slot.specs.declared.updates.AcceptedUpdate.{AcceptedUpdate}
use Rattle.hx_slot.specs.declared.slots.Slot.TheInside.{Inside}
use Rattle.hx_slot.specs.Updates.{Ascends, IsHeld, IsPlaced, last_version, newest_first}
use Rattle.hx_slot.specs.Acks.{AreAcked, is_of_version}
use Rattle.hx_slot.specs.Bases.{kept_in}
use Rattle.hx_slot.specs.Invariant.{IsLine, IsSlot, coming, pending_in, whole, updates_of}
use Rattle.hx_slot.proofs.Newest.{last_version-above, newest_first-append, pending-ascends, top-pending}

-- what holds of each, of one more and of those that a test keeps
pub by_recursion-push : {A : Type 0} (P : A → Type 0) (xs : List A) (x : A) → AllByRecursion P xs → P x → AllByRecursion P (xs ++ x ∷ [])
by_recursion-push P [] x h p = (p, tt)
by_recursion-push P (y ∷ xs) x h p = (h.0, by_recursion-push P xs x h.1 p)

Ascends-push : (v : ℕ) (ts : List AcceptedUpdate) (t : AcceptedUpdate) → Ascends v ts → last_version v ts < t.update.version.0 → Ascends v (ts ++ t ∷ [])
Ascends-push v [] t h l = (l, tt)
Ascends-push v (x ∷ ts) t h l = (h.0, Ascends-push x.update.version.0 ts t h.1 l)

-- the line with an update more
line-push : {g : RegionId} {base : ℕ} {ts : List AcceptedUpdate} {c floor : ℕ} → IsLine g base ts c floor
    → (t : AcceptedUpdate) → IsPlaced g t.update t.keeps → last_version base ts < t.update.version.0
    → IsLine g base (ts ++ t ∷ []) c floor
line-push {g = g} {base = base} {ts = ts} {c = c} line t p l =
    let n = length-append ts (t ∷ []) in
    record {
      ascends = Ascends-push base ts t line.ascends l;
      placed = by_recursion-push (λ (x : AcceptedUpdate). IsPlaced g x.update x.keeps) ts t line.placed p;
      within = (let w = line.within in omega (arith, n, w));
      floor_is = line.floor_is ∙ ap (last_version base) (sym (take-append-le c ts (t ∷ []) line.within));
    }

-- no version above the last is in the line
pub not_in : (v w : ℕ) (ts : List AcceptedUpdate) → Ascends v ts → last_version v ts < w → list_any (is_of_version w) ts ≡ false
not_in v w [] h l = refl
not_in v w (t ∷ rest) h l =
    let b = last_version-above t.update.version.0 rest h.1 in
    false_from_ne_true (list_any (is_of_version w) (t ∷ rest))
    (
    λ e. elim (or_cases (is_of_version w t) (list_any (is_of_version w) rest) e) [
      | inl s ↦ (let q = eqb-true t.update.version.0 w s in omega (arith, b, q))
      | inr s ↦ false≢true (sym (not_in t.update.version.0 w rest h.1 l) ∙ s)
    ]
    )

-- nothing is acknowledged of a version above the last
unacked : (v w : ℕ) (ts : List AcceptedUpdate) (acked : List ℕ) → Ascends v ts → last_version v ts < w
    → AllByRecursion (λ n. list_any (is_of_version n) ts ≡ true) acked → list_any (λ n. eqb n w) acked ≡ false
unacked v w ts [] h l known = refl
unacked v w ts (n ∷ rest) h l known =
    false_from_ne_true (list_any (λ n. eqb n w) (n ∷ rest))
    (
    λ e. elim (or_cases (eqb n w) (list_any (λ n. eqb n w) rest) e) [
      | inl s ↦ (let q = eqb-true n w s in false≢true (sym (not_in v n ts h (omega (arith, q, l))) ∙ known.0))
      | inr s ↦ false≢true (sym (unacked v w ts rest h l known.1) ∙ s)
    ]
    )

known-push : (ts : List AcceptedUpdate) (t : AcceptedUpdate) (acked : List ℕ)
    → AllByRecursion (λ n. list_any (is_of_version n) ts ≡ true) acked
    → AllByRecursion (λ n. list_any (is_of_version n) (ts ++ t ∷ []) ≡ true) acked
known-push ts t [] h = tt
known-push ts t (n ∷ rest) h = (
  list_any-append (is_of_version n) ts (t ∷ [])
      ∙ or_left (list_any (is_of_version n) ts) (list_any (is_of_version n) (t ∷ [])) h.0,
  known-push ts t rest h.1,
)

acked-push : (v : ℕ) (acked : List ℕ) (ts : List AcceptedUpdate) (t : AcceptedUpdate) → AreAcked acked ts
    → Ascends v ts → last_version v ts < t.update.version.0 → t.acknowledged ≡ false → AreAcked acked (ts ++ t ∷ [])
acked-push v acked ts t h a l f =
    record {
      marked = by_recursion-push (λ (x : AcceptedUpdate). x.acknowledged
          ≡ list_any (λ n. eqb n x.update.version.0) acked) ts t h.marked
          (f ∙ sym (unacked v t.update.version.0 ts acked a l h.known));
      known = known-push ts t acked h.known;
    }

-- what is pending with an update more
pending-push : (a : Inside) → IsSlot a → (t : AcceptedUpdate) → drop a.committed (a.accepted.items ++ t ∷ []) ≡ pending_in a ++ t ∷ []
pending-push a h t = drop-append-le a.committed a.accepted.items (t ∷ []) h.line.within

-- the slot that accepts an update
pub accepted-slot : (a : Inside) (t : AcceptedUpdate) (accepted : Vec AcceptedUpdate Global) (early : Vec PlacedUpdate Global) (spare : ℕ)
    → IsSlot a → IsPlaced a.region t.update t.keeps → last_version a.base.floor.0 a.accepted.items < t.update.version.0 → t.acknowledged ≡ false
    → accepted.items ≡ a.accepted.items ++ t ∷ [] → vec_len accepted ≡ vec_len a.accepted + 1 → vec_capacity accepted ≡ vec_capacity a.accepted
    → AllByRecursion (IsHeld a.region) early.items → vec_len early ≤ vec_len a.early → vec_capacity early ≡ vec_capacity a.early
    → spare + 1 ≡ a.spare
    → IsSlot (record a { accepted = accepted; early = early; spare = spare })
accepted-slot a t accepted early spare h p above f items len capacity held early_len early_capacity s =
    let e = sym items in
    let pending = pending-push a h t ∙ refl in
    let room = h.room in
    record {
      line = subst (λ (ts : List AcceptedUpdate). IsLine a.region a.base.floor.0 ts a.committed a.floor.0) e (line-push h.line t p above);
      base = h.base;
      bare = h.bare;
      untouched = h.untouched;
      acked = subst (λ (ts : List AcceptedUpdate). AreAcked (a.acked.versions) (drop a.committed ts)) e
          (subst (AreAcked (a.acked.versions)) (sym pending)
          (acked-push a.floor.0 (a.acked.versions) (pending_in a) t h.acked (pending-ascends h.line)
          (let q = top-pending h.line in omega (arith, q, above)) f));
      early = held;
      room = record {
        accepted = (let r = room.accepted in omega (arith, r));
        early = (let r = room.early in omega (arith, r));
        few = (let r = room.few in omega (arith, r));
      };
    }

-- the updates that a test of their versions keeps
pub updates_of-filter : (v : ℕ) (early : List PlacedUpdate)
    → updates_of (filter (λ (p : PlacedUpdate). not (eqb p.update.version.0 v)) early)
    ≡ filter (other_version v) (updates_of early)
updates_of-filter v [] = refl
updates_of-filter v (p ∷ rest) =
    cond_both (not (eqb p.update.version.0 v)) (p ∷ filter
    (λ (p : PlacedUpdate). not (eqb p.update.version.0 v)) rest)
    (filter (λ (p : PlacedUpdate). not (eqb p.update.version.0 v)) rest)
    (λ (ps : List PlacedUpdate). updates_of ps ≡ filter (other_version v) (updates_of (p ∷ rest)))
    (λ e. ap (λ (us : List Update). p.update ∷ us) (updates_of-filter v rest) ∙ sym (cond-true (not (eqb p.update.version.0 v)) _ _ e))
    (λ e. updates_of-filter v rest ∙ sym (cond-false (not (eqb p.update.version.0 v)) _ _ e))

-- what contracts see of it
pub accepted-state : (a : Inside) (t : AcceptedUpdate) (accepted : Vec AcceptedUpdate Global) (early : Vec PlacedUpdate Global) (spare : ℕ)
    → accepted.items ≡ a.accepted.items ++ t ∷ [] → early.items ≡ filter (λ (p : PlacedUpdate). not (eqb p.update.version.0 t.update.version.0)) a.early.items
    → (whole (record a { accepted = accepted; early = early; spare = spare })).state ≡ moved (Take t.update) (whole a).state
accepted-state a t accepted early spare items kept =
    let line = ap (newest_first []) items ∙ newest_first-append [] a.accepted.items (t ∷ []) in
    let waiting = ap updates_of kept ∙ updates_of-filter t.update.version.0 a.early.items in
    λ j. record { marks = a.keeps_marks; base = kept_in a.key a.base; accepted = line j; floor = a.floor.0; acked = a.acked.versions; early = waiting j }

-- the slot with other early updates, no more of them with those to come
pub held-slot : (a : Inside) (early : Vec PlacedUpdate Global) (spare : ℕ) → IsSlot a
    → AllByRecursion (IsHeld a.region) early.items → vec_len early + spare ≤ coming a → vec_capacity early ≡ vec_capacity a.early
    → IsSlot (record a { early = early; spare = spare })
held-slot a early spare h held fewer capacity =
    let room = h.room in
    record {
      line = h.line;
      base = h.base;
      bare = h.bare;
      untouched = h.untouched;
      acked = h.acked;
      early = held;
      room = record {
        accepted = (let r = room.accepted in omega (arith, r));
        early = (let r = room.early in omega (arith, r));
        few = (let r = room.few in omega (arith, r));
      };
    }

pub held-state : (a : Inside) (p : PlacedUpdate) (early : Vec PlacedUpdate Global) (spare : ℕ)
    → early.items ≡ filter (λ (q : PlacedUpdate). not (eqb q.update.version.0 p.update.version.0)) a.early.items ++ p ∷ []
    → (whole (record a { early = early; spare = spare })).state ≡ moved (Hold p.update) (whole a).state
held-state a p early spare items =
    let waiting = ap updates_of items ∙ map_push (λ (q : PlacedUpdate). q.update) _ p
    ∙ ap (λ (us : List Update). us ++ p.update ∷ []) (updates_of-filter p.update.version.0 a.early.items) in
    λ j. record {
      marks = a.keeps_marks;
      base = kept_in a.key a.base;
      accepted = newest_first [] a.accepted.items;
      floor = a.floor.0;
      acked = a.acked.versions;
      early = waiting j;
    }

-- without the one that is taken out
pub by_recursion-remove : {A : Type 0} (P : A → Type 0) (xs : List A) (i : ℕ) → AllByRecursion P xs → AllByRecursion P (remove xs i)
by_recursion-remove P [] zero h = tt
by_recursion-remove P [] (suc i) h = tt
by_recursion-remove P (x ∷ xs) zero h = h.1
by_recursion-remove P (x ∷ xs) (suc i) h = (h.0, by_recursion-remove P xs i h.1)

filter-removed : (v : ℕ) (early : List PlacedUpdate) (i : ℕ) (p : PlacedUpdate) → i < length early
    → p ≡ get_or early i p → p.update.version.0 ≡ v
    → filter (other_version v) (updates_of (remove early i)) ≡ filter (other_version v) (updates_of early)
filter-removed v [] i p l e q = absurd (omega arith)
filter-removed v (x ∷ rest) zero p l e q =
    sym (cond-false (other_version v x.update) _ _ (ap not (eq-eqb x.update.version.0 v (ap (λ (y : PlacedUpdate). y.update.version.0) (sym e) ∙ q))))
filter-removed v (x ∷ rest) (suc i) p l e q =
    ap (λ (us : List Update). cond (other_version v x.update) (x.update ∷ us) us) (filter-removed v rest i p (omega arith) e q)

pub removed-state : (a : Inside) (i : ℕ) (p : PlacedUpdate) (early : Vec PlacedUpdate Global) (spare : ℕ)
    → i < length a.early.items → p ≡ get_or a.early.items i p → early.items ≡ remove a.early.items i
    → moved (Take p.update) (whole (record a { early = early; spare = spare })).state ≡ moved (Take p.update) (whole a).state
removed-state a i p early spare l e items =
    let waiting = ap (λ (ps : List PlacedUpdate). filter (other_version p.update.version.0) (updates_of ps)) items
    ∙ filter-removed p.update.version.0 a.early.items i p l e refl in
    λ j. record {
      marks = a.keeps_marks;
      base = kept_in a.key a.base;
      accepted = p.update ∷ newest_first [] a.accepted.items;
      floor = a.floor.0;
      acked = a.acked.versions;
      early = waiting j;
    }
