-- Keys and their slots as entries.
use Rattle.std.proofs.Common.{◌≡◌, ℕ, zero, suc, ◌+◌, ◌<◌, ◌^◌, Bool, true, false, List, [], ◌∷◌, ◌++◌, length}
use Rattle.std.proofs.Common.{is_some, Option, None, Some, refl, ap, sym, ◌∙◌, arith, cond, inl, inr}
use Rattle.std.specs.List.{slice_get, slice_set}
use Rattle.std.specs.Map.{keys_of, lookup, values_of}
use Rattle.std.proofs.lemmas.Bool.{cases_eq, false≢true}
use Rattle.std.proofs.lemmas.Option.{same_Some}
use Rattle.indexmap.specs.IndexMap.{set_value_at}
use Rattle.hx_model.specs.Types.{RegionId, Row}
use Rattle.hx_types.specs.Words.{when_some}
use Rattle.hx_model.specs.Slots.{KeyState, object_of}
use Rattle.hx_slot.specs.States.{SlotState}
use Rattle.hx_index.specs.Orders.{rows_at}
use Rattle.hx_index.proofs.Lemmas.{set-elsewhere, set-here, set-length}
use Rattle.hx_store.specs.Indexed.{IndexedState, is_marked, kept_at}
use Rattle.hx_store.specs.Invariant.{HasMoved, is_listed, key_in, stored_at}
use Rattle.hx_types.specs.Prefixes.{IsPrefixOf}
use Rattle.hx_store.specs.Slots.{AreSlots, Entry, IsStepped, entries_of, rows_in}
use Rattle.hx_store.proofs.Following.{set-marked, set-unmarked}
use Rattle.hx_store.proofs.Prefixes.{added-prefix}

abbrev Key : Type 0
Key = List ℕ × Bool

pub entries-length : (ks : List Key) (ss : List SlotState) → length ks ≡ length ss → length (entries_of ks ss) ≡ length ss
entries-length [] [] e = refl
entries-length [] (s ∷ ss) e = absurd (omega (arith, e))
entries-length (k ∷ ks) [] e = refl
entries-length (k ∷ ks) (s ∷ ss) e = ap suc (entries-length ks ss (omega (arith, e)))

pub keys-of : (ks : List Key) (ss : List SlotState) → length ks ≡ length ss → keys_of (entries_of ks ss) ≡ keys_of ks
keys-of [] [] e = refl
keys-of [] (s ∷ ss) e = refl
keys-of (k ∷ ks) [] e = absurd (omega (arith, e))
keys-of (k ∷ ks) (s ∷ ss) e = ap (λ (l : List (List ℕ)). k.0 ∷ l) (keys-of ks ss (omega (arith, e)))

pub looked-up : (p : List ℕ → Bool) (ks : List Key) (ss : List SlotState) → length ks ≡ length ss
    → is_some (lookup p (entries_of ks ss)) ≡ is_some (lookup p ks)
looked-up p [] [] e = refl
looked-up p [] (s ∷ ss) e = refl
looked-up p (k ∷ ks) [] e = absurd (omega (arith, e))
looked-up p (k ∷ ks) (s ∷ ss) e = by (p k.0) (looked-up p ks ss (omega (arith, e)))
  where
    by : (b : Bool) → is_some (lookup p (entries_of ks ss)) ≡ is_some (lookup p ks)
        → is_some (cond b (Some (record { slot = s; listed = k.1 })) (lookup p (entries_of ks ss)))
        ≡ is_some (cond b (Some k.1) (lookup p ks))
    by true h = refl
    by false h = h

pub key-at : (ks : List Key) (ss : List SlotState) (i : ℕ) → length ks ≡ length ss
    → key_in (entries_of ks ss) i ≡ when_some (slice_get ks i) [] (λ (k : Key). k.0)
key-at [] ss i e = refl
key-at (k ∷ ks) [] i e = absurd (omega (arith, e))
key-at (k ∷ ks) (s ∷ ss) zero e = refl
key-at (k ∷ ks) (s ∷ ss) (suc i) e = key-at ks ss i (omega (arith, e))

pub listed-at : (ks : List Key) (ss : List SlotState) (i : ℕ) → length ks ≡ length ss
    → is_listed (entries_of ks ss) i ≡ when_some (slice_get ks i) false (λ (k : Key). k.1)
listed-at [] ss i e = refl
listed-at (k ∷ ks) [] i e = absurd (omega (arith, e))
listed-at (k ∷ ks) (s ∷ ss) zero e = refl
listed-at (k ∷ ks) (s ∷ ss) (suc i) e = listed-at ks ss i (omega (arith, e))

pub rows-are : (ks : List Key) (ss : List SlotState) → length ks ≡ length ss → rows_in (entries_of ks ss) ≡ kept_at ss
rows-are ks ss e = λ k i. at ks ss e i k
  where
    at : (ks : List Key) (ss : List SlotState) → length ks ≡ length ss → (i : ℕ) → rows_in (entries_of ks ss) i ≡ kept_at ss i
    at [] [] e i = refl
    at [] (s ∷ ss) e i = absurd (omega (arith, e))
    at (k ∷ ks) [] e i = absurd (omega (arith, e))
    at (k ∷ ks) (s ∷ ss) e zero = refl
    at (k ∷ ks) (s ∷ ss) e (suc i) = at ks ss (omega (arith, e)) i

pub stored-is : (ks : List Key) (ss : List SlotState) (i : ℕ) (s : SlotState) → length ks ≡ length ss
    → slice_get ss i ≡ Some s → stored_at (entries_of ks ss) i
    ≡ Some (record { slot = s; listed = is_listed (entries_of ks ss) i })
stored-is [] [] i s e at = absurd cc
stored-is [] (x ∷ ss) i s e at = absurd (omega (arith, e))
stored-is (k ∷ ks) [] i s e at = absurd cc
stored-is (k ∷ ks) (x ∷ ss) zero s e at = ap (λ (y : SlotState). Some (record { slot = y; listed = k.1 })) (same_Some x s at)
stored-is (k ∷ ks) (x ∷ ss) (suc i) s e at = stored-is ks ss i s (omega (arith, e)) at

-- a slot is set
pub slot-set : (ks : List Key) (ss : List SlotState) (i : ℕ) (w : SlotState) → length ks ≡ length ss
    → entries_of ks (slice_set ss i w) ≡ set_value_at (entries_of ks ss) i
    (record { slot = w; listed = is_listed (entries_of ks ss) i })
slot-set [] ss i w e = refl
slot-set (k ∷ ks) [] i w e = absurd (omega (arith, e))
slot-set (k ∷ ks) (s ∷ ss) zero w e = refl
slot-set (k ∷ ks) (s ∷ ss) (suc i) w e = ap (λ (l : List Entry). (k.0, record { slot = s; listed = k.1 }) ∷ l) (slot-set ks ss i w (omega (arith, e)))

-- or listed
pub key-listed : (ks : List Key) (ss : List SlotState) (i : ℕ) (s : SlotState) (b : Bool) → slice_get ss i ≡ Some s
    → length ks ≡ length ss → entries_of (set_value_at ks i b) ss
    ≡ set_value_at (entries_of ks ss) i (record { slot = s; listed = b })
key-listed [] [] i s b at e = refl
key-listed [] (x ∷ ss) i s b at e = refl
key-listed (k ∷ ks) [] i s b at e = absurd cc
key-listed (k ∷ ks) (x ∷ ss) zero s b at e = ap (λ (y : SlotState). (k.0, record { slot = y; listed = b }) ∷ entries_of ks ss) (same_Some x s at)
key-listed (k ∷ ks) (x ∷ ss) (suc i) s b at e = ap (λ (l : List Entry). (k.0, record { slot = x; listed = k.1 }) ∷ l)
    (key-listed ks ss i s b at (omega (arith, e)))

pub key-length : (ks : List Key) (i : ℕ) (b : Bool) → length (set_value_at ks i b) ≡ length ks
key-length [] i b = refl
key-length (k ∷ ks) zero b = refl
key-length (k ∷ ks) (suc i) b = ap suc (key-length ks i b)

-- or comes last
pub entry-added : (ks : List Key) (ss : List SlotState) (k : Key) (s : SlotState) → length ks ≡ length ss
    → entries_of (ks ++ k ∷ []) (ss ++ s ∷ []) ≡ entries_of ks ss ++ (k.0, record { slot = s; listed = k.1 }) ∷ []
entry-added [] [] k s e = refl
entry-added [] (x ∷ ss) k s e = absurd (omega (arith, e))
entry-added (j ∷ ks) [] k s e = absurd (omega (arith, e))
entry-added (j ∷ ks) (x ∷ ss) k s e = ap (λ (l : List Entry). (j.0, record { slot = x; listed = j.1 }) ∷ l) (entry-added ks ss k s (omega (arith, e)))

-- a step of a slot is one of its entry
pub moved-of : (ks : List Key) (i fall : ℕ) (step : RegionId → KeyState → KeyState) (old new : List SlotState)
    → length ks ≡ length old → IsStepped i step fall old new → HasMoved i step fall (entries_of ks old) (entries_of ks new)
moved-of ks i fall step old new e m = record {
  before = record { slot = m.before; listed = is_listed (entries_of ks old) i };
  after = record { slot = m.after; listed = is_listed (entries_of ks old) i };
  found = stored-is ks old i m.before e m.found;
  set = ap (entries_of ks) m.set ∙ slot-set ks old i m.after e;
  listed = refl;
  state = m.state;
  region = m.region;
  spare = m.spare;
}

abbrev row : SlotState → Option Row
row s = object_of s.region s.state

abbrev row-in : Option SlotState → Option Row
row-in o = when_some o None row

-- a slot that keeps its object is set
pub are-set : {ps : List ℕ} (ks : List Key) (ss : List SlotState) (x : IndexedState) (i : ℕ) (s w : SlotState)
    → AreSlots ks ps ss x → i < length ss → slice_get ss i ≡ Some s → row w ≡ row s → AreSlots ks ps (slice_set ss i w) x
are-set ks ss x i s w h l at e = record {
  count = h.count ∙ sym (set-length ss i w);
  first = h.first;
  kept = record {
    few = (let c = h.kept.few in let n = set-length ss i w in omega (arith, c, n));
    fresh = λ k m f. h.kept.fresh k m f ∙ same k;
    past = h.kept.past;
  };
}
  where
    same : (k : ℕ) → kept_at ss k ≡ kept_at (slice_set ss i w) k
    same k = elim (cases_eq k i) [
      | inl p ↦ ap (kept_at ss) p ∙ ap row-in at ∙ sym e ∙ sym (ap row-in (set-here ss i w l)) ∙ ap (kept_at (slice_set ss i w)) (sym p)
      | inr n ↦ sym (ap row-in (set-elsewhere ss i k w n))
    ]

-- any slot is set at a place that is marked
pub set-stale : {ps : List ℕ} (ks : List Key) (ss : List SlotState) (x y : IndexedState) (i : ℕ) (w : SlotState)
    → AreSlots ks ps ss x → i < length ss → y.rows ≡ x.rows → y.stale ≡ slice_set x.stale i true
    → AreSlots ks ps (slice_set ss i w) y
set-stale ks ss x y i w h l rs ms = record {
  count = h.count ∙ sym (set-length ss i w);
  first = h.first;
  kept = record {
    few = (let c = h.kept.few in let n = set-length ss i w in omega (arith, c, n));
    fresh = λ k m f. elim (cases_eq k i) [
      | inl p ↦ absurd (false≢true (sym f ∙ (λ j. is_marked (ms j) (p j)) ∙ set-marked x.stale i true (let q = same-length in omega (arith, m, q, p))))
      | inr n ↦ ap (λ (rows : List (Option Row)). rows_at rows k) rs
          ∙ h.kept.fresh k (let q = same-length in omega (arith, m, q)) (sym (ap (λ (m : List Bool). is_marked m k) ms ∙ set-unmarked x.stale i k true n) ∙ f)
          ∙ sym (ap row-in (set-elsewhere ss i k w n))
    ];
    past = λ k m. ap (λ (rows : List (Option Row)). rows_at rows k) rs ∙ h.kept.past k (let q = same-length in omega (arith, m, q));
  };
}
  where
    same-length : length y.stale ≡ length x.stale
    same-length = ap length ms ∙ set-length x.stale i true

pub value-there : (ks : List Key) (i : ℕ) → i < length ks → None ≡ slice_get (values_of ks) i → ⊥
value-there [] i l e = omega arith
value-there (k ∷ ks) zero l e = absurd cc
value-there (k ∷ ks) (suc i) l e = value-there ks i (omega arith) e

-- what is stored after a slot was set
pub stored-set-is : (ks : List Key) (ss : List SlotState) (i : ℕ) (w : SlotState) → length ks ≡ length ss
    → i < length ss → stored_at (entries_of ks (slice_set ss i w)) i
    ≡ Some (record { slot = w; listed = is_listed (entries_of ks (slice_set ss i w)) i })
stored-set-is ks ss i w e l = stored-is ks (slice_set ss i w) i w (e ∙ sym (set-length ss i w)) (set-here ss i w l)

-- a slot without an object comes last
module _ (ss : List SlotState) (s : SlotState) (none : row s ≡ None) where
  rows-added : (xs : List SlotState) (i : ℕ) → kept_at (xs ++ s ∷ []) i ≡ kept_at xs i
  rows-added [] zero = none
  rows-added [] (suc i) = refl
  rows-added (x ∷ xs) zero = refl
  rows-added (x ∷ xs) (suc i) = rows-added xs i

  length-added : (xs : List SlotState) → length (xs ++ s ∷ []) ≡ length xs + 1
  length-added [] = refl
  length-added (x ∷ xs) = let more = length-added xs in omega (arith, more)

  pub slots-added : {ps : List ℕ} (ks : List Key) (key : List ℕ) (p : ℕ) (x : IndexedState) → IsPrefixOf key p → AreSlots ks ps ss x
      → length ss + 1 < 2 ^ 32
      → AreSlots (ks ++ (key, false) ∷ []) (ps ++ p ∷ []) (ss ++ s ∷ []) x
  slots-added {ps = ps} ks key p x own h few = record {
    count = (let a = keys-added ks in let b = length-added ss in let c = h.count in omega (arith, a, b, c));
    first = added-prefix ks ps key p h.first own;
    kept = record {
      few = (let l = length-added ss in omega (arith, l, few));
      fresh = λ i l f. h.kept.fresh i l f ∙ sym (rows-added ss i);
      past = h.kept.past;
    };
  }
    where
      keys-added : (ks : List Key) → length (ks ++ (key, false) ∷ []) ≡ length ks + 1
      keys-added [] = refl
      keys-added (k ∷ ks) = let more = keys-added ks in omega (arith, more)
