-- A slot after acknowledgements.
use Rattle.std.proofs.Common.{◌≡◌, ℕ, zero, suc, ◌+◌, ◌<◌, ◌≤◌, true, false, not, ◌&&◌, ◌||◌, List, map, [], ◌∷◌, Vec}
use Rattle.std.proofs.Common.{length, take, drop, set, get_or, Some, vec_capacity, vec_len, refl, ap, sym, ◌∙◌, subst}
use Rattle.std.proofs.Common.{arith, eqb, ltb}
use Rattle.std.specs.List.{AllByRecursion, AllWithin, filter, list_any, position}
use Rattle.std.specs.declared.alloc.Global.{Global}
use Rattle.std.proofs.lemmas.Bool.{cond_both, cond-false, cond-true, eqb-true}
use Rattle.std.proofs.lemmas.List.Quantifiers.{position-Some}
use Rattle.std.proofs.Math.Seq.{take-add}
use Rattle.std.proofs.lemmas.List.{drop-drop, drop-set-add, get_or-drop, length-drop}
use Rattle.hx_model.specs.Types.{Update, Version}
use Rattle.hx_types.specs.declared.outcomes.Acked.TheVariants as an_ack
use Rattle.hx_model.specs.Slots.{Acknowledge, Forget, KeyState, Move, ack_answer, commits, is_pending, moved, moved_all, pending_of, settled, waits_below}
use Rattle.hx_slot.specs.declared.updates.PlacedUpdate.{PlacedUpdate}
use Rattle.hx_slot.specs.declared.ack_order.AckOrder.{AckOrder}
use Rattle.hx_slot.specs.declared.updates.AcceptedUpdate.{AcceptedUpdate}
use Rattle.hx_slot.specs.declared.slots.Slot.TheInside.{Inside}
use Rattle.hx_slot.specs.Acks.{AreAcked, AreSameUpdates, front_acked, front_with, is_of_version, is_waiting_below}
use Rattle.hx_slot.specs.Updates.{IsHeld, last_version, newest_first}
use Rattle.hx_slot.specs.Bases.{kept_in}
use Rattle.hx_slot.specs.Invariant.{IsSlot, pending_in, whole, updates_of}
use Rattle.hx_slot.proofs.Acking.{acked-none, acked-settled, acked-set, commits-count, commits-front, commits-state}
use Rattle.hx_slot.proofs.Acking.{commits-with, commits_of, dropped, dropped-upto, pending-any, with_ack}
use Rattle.hx_slot.proofs.Newest.{last_version-append, pending-ascends, update_of}
use Rattle.hx_slot.proofs.Reading.{pending-seen}
use Rattle.hx_slot.proofs.SameUpdates.{same-line, same-newest_first, same-set}

-- the slot with its lowest pending updates committed
pub settled-slot : (a : Inside) (n : ℕ) (floor : Version) (acked : AckOrder) → IsSlot a → n ≤ length (pending_in a)
    → floor.0 ≡ last_version a.floor.0 (take n (pending_in a))
    → acked.versions ≡ filter (ltb floor.0) a.acked.versions
    → IsSlot (record a { committed = a.committed + n; floor = floor; acked = acked })
settled-slot a n floor acked h w f versions =
    let pending = drop-drop n a.committed a.accepted.items in
    let acks = versions ∙ ap (λ v. filter (ltb v) a.acked.versions) f in
    let room = h.room in
    let size = length-drop a.committed a.accepted.items in
    let ok = a.accepted.ok.0 in
    record {
      line = record {
        ascends = h.line.ascends;
        placed = h.line.placed;
        within = (let l = h.line.within in omega (arith, size, w, l));
        floor_is = f ∙ ap (λ v. last_version v (take n (pending_in a))) h.line.floor_is
            ∙ sym (last_version-append a.base.floor.0 (take a.committed a.accepted.items) (take n (pending_in a)))
            ∙ sym (ap (last_version a.base.floor.0) (take-add a.committed n a.accepted.items));
      };
      base = h.base;
      bare = h.bare;
      untouched = h.untouched;
      acked = subst (AreAcked (acked.versions)) pending
          (subst (λ (vs : List ℕ). AreAcked vs (drop n (pending_in a))) (sym acks)
          (acked-settled a.floor.0 n (pending_in a) (a.acked.versions) (pending-ascends h.line) h.acked));
      early = h.early;
      room = record {
        accepted = room.accepted;
        early = room.early;
        few = room.few;
      };
    }

pub settled-state : (a : Inside) (n : ℕ) (floor : Version) (acked : AckOrder) → IsSlot a
    → n ≡ front_acked (pending_in a) → floor.0 ≡ last_version a.floor.0 (take n (pending_in a))
    → acked.versions ≡ filter (ltb floor.0) a.acked.versions
    → (whole (record a { committed = a.committed + n; floor = floor; acked = acked })).state ≡ moved_all (settled (whole a).state) (whole a).state
settled-state a n floor acked h e f versions =
    let moves = ap (commits (a.acked.versions)) (sym (pending-seen a h))
    ∙ commits-front (a.acked.versions) (pending_in a) h.acked.marked ∙ ap (λ k. commits_of (take k (pending_in a))) (sym e) in
    let acks = versions ∙ ap (λ v. filter (ltb v) a.acked.versions) f
    ∙ sym (dropped-upto a.floor.0 n (pending_in a) (a.acked.versions) (pending-ascends h.line) h.acked.known) in
    let state : (whole (record a { committed = a.committed + n; floor = floor; acked = acked })).state
    ≡ record (whole a).state {
      floor = last_version a.floor.0 (take n (pending_in a));
      acked = dropped (take n (pending_in a)) (a.acked.versions);
    } =
    λ j. record {
      marks = a.keeps_marks;
      base = kept_in a.key a.base;
      accepted = newest_first [] a.accepted.items;
      floor = f j;
      acked = acks j;
      early = updates_of a.early.items;
    } in
    state ∙ sym (commits-state (take n (pending_in a)) (whole a).state) ∙ sym (ap (λ (ms : List Move). moved_all ms (whole a).state) moves)

pub settled-count : (a : Inside) → IsSlot a → length (settled (whole a).state) ≡ front_acked (pending_in a)
settled-count a h = ap (λ (us : List Update). length (commits (a.acked.versions) us)) (sym (pending-seen a h))
    ∙ commits-count (a.acked.versions) (pending_in a) h.acked.marked

-- how many an acknowledgement would commit
pub would-count : (a : Inside) → IsSlot a → (v : ℕ) → length (settled (moved (Acknowledge v) (whole a).state)) ≡ front_with v (pending_in a)
would-count a h v = ap (λ (us : List Update). length (commits (with_ack v (a.acked.versions)) us))
    (sym (pending-seen a h)) ∙ commits-with v (a.acked.versions) (pending_in a) h.acked.marked

-- whether a version is pending
pub pending-version : (a : Inside) → IsSlot a → (v : ℕ) → list_any (is_of_version v) (pending_in a) ≡ is_pending v (whole a).state
pending-version a h v = sym (pending-any v (pending_in a)) ∙ ap (list_any (λ (u : Update). eqb u.version.0 v)) (pending-seen a h)

-- the slot with one version more acknowledged
pub acknowledged-slot : (a : Inside) (i : ℕ) (t : AcceptedUpdate) (accepted : Vec AcceptedUpdate Global)
    (acked : AckOrder) → IsSlot a → i < length (pending_in a) → t ≡ get_or (pending_in a) i t
    → accepted.items ≡ set a.accepted.items (a.committed + i) (record t { acknowledged = true })
    → vec_len accepted ≡ vec_len a.accepted → vec_capacity accepted ≡ vec_capacity a.accepted
    → acked.versions ≡ with_ack t.update.version.0 a.acked.versions
    → IsSlot (record a { accepted = accepted; acked = acked })
acknowledged-slot a i t accepted acked h l e items len capacity acks =
    let size = length-drop a.committed a.accepted.items in
    let same = subst (λ (ts : List AcceptedUpdate). AreSameUpdates a.accepted.items ts) (sym items)
    (same-set a.accepted.items (a.committed + i) t true (omega (arith, size, l))
    (e ∙ get_or-drop a.committed a.accepted.items i t)) in
    let pending = ap (drop a.committed) items ∙ drop-set-add a.committed a.accepted.items i (record t { acknowledged = true }) in
    let room = h.room in
    record {
      line = same-line h.line accepted.items same;
      base = h.base;
      bare = h.bare;
      untouched = h.untouched;
      acked = subst (AreAcked (acked.versions)) (sym pending)
          (subst (λ (vs : List ℕ). AreAcked vs (set (pending_in a) i (record t { acknowledged = true }))) (sym acks)
          (acked-set a.floor.0 (a.acked.versions) (pending_in a) i t (pending-ascends h.line) l e h.acked));
      early = h.early;
      room = record {
        accepted = (let r = room.accepted in omega (arith, r));
        early = room.early;
        few = (let r = room.few in omega (arith, r));
      };
    }

pub acknowledged-state : (a : Inside) (i : ℕ) (t : AcceptedUpdate) (accepted : Vec AcceptedUpdate Global)
    (acked : AckOrder) → i < length (pending_in a) → t ≡ get_or (pending_in a) i t
    → accepted.items ≡ set a.accepted.items (a.committed + i) (record t { acknowledged = true })
    → acked.versions ≡ with_ack t.update.version.0 (a.acked.versions)
    → (whole (record a { accepted = accepted; acked = acked })).state ≡ moved (Acknowledge t.update.version.0) (whole a).state
acknowledged-state a i t accepted acked l e items acks =
    let size = length-drop a.committed a.accepted.items in
    let same = subst (λ (ts : List AcceptedUpdate). AreSameUpdates a.accepted.items ts) (sym items)
    (same-set a.accepted.items (a.committed + i) t true (omega (arith, size, l))
    (e ∙ get_or-drop a.committed a.accepted.items i t)) in
    let line = same-newest_first [] a.accepted.items accepted.items same in
    λ j. record { marks = a.keeps_marks; base = kept_in a.key a.base; accepted = line j; floor = a.floor.0; acked = acks j; early = updates_of a.early.items }

-- each of the rest
each-drop : (P : AcceptedUpdate → Type 0) (n : ℕ) (ts : List AcceptedUpdate)
    → ((k : ℕ) (d : AcceptedUpdate) → n ≤ k → k < length ts → P (get_or ts k d)) → AllByRecursion P (drop n ts)
each-drop P zero [] h = tt
each-drop P zero (t ∷ rest) h = (h 0 t (omega arith) (omega arith), each-drop P zero rest (λ k d a b. h (suc k) d (omega arith) (omega arith)))
each-drop P (suc n) [] h = tt
each-drop P (suc n) (t ∷ rest) h = each-drop P n rest (λ k d a b. h (suc k) d (omega arith) (omega arith))

-- the slot that forgets acknowledgements and early updates
pub forgotten-slot : (a : Inside) (accepted : Vec AcceptedUpdate Global) (acked : AckOrder) (early : Vec PlacedUpdate Global) → IsSlot a
    → AreSameUpdates a.accepted.items accepted.items
    → AllWithin (λ (t : AcceptedUpdate). t.acknowledged ≡ false) accepted.items a.committed (vec_len accepted)
    → vec_len accepted ≡ vec_len a.accepted → vec_capacity accepted ≡ vec_capacity a.accepted
    → acked.versions ≡ [] → early.items ≡ [] → vec_len early ≡ 0 → vec_capacity early ≡ vec_capacity a.early
    → IsSlot (record a { accepted = accepted; acked = acked; early = early })
forgotten-slot a accepted acked early h same forgotten len capacity none_acked none_early no_early early_capacity =
    let ok = accepted.ok.0 in
    let unmarked = each-drop (λ (t : AcceptedUpdate). t.acknowledged ≡ false) a.committed accepted.items
    (λ k d low high. forgotten k d low (omega (arith, ok, high))) in
    let room = h.room in
    record {
      line = same-line h.line accepted.items same;
      base = h.base;
      bare = h.bare;
      untouched = h.untouched;
      acked = subst (λ (vs : List ℕ). AreAcked vs (drop a.committed accepted.items)) (sym none_acked) (acked-none (drop a.committed accepted.items) unmarked);
      early = subst (AllByRecursion (IsHeld a.region)) (sym none_early) tt;
      room = record {
        accepted = (let r = room.accepted in omega (arith, r));
        early = (let r = room.early in omega (arith, r));
        few = (let r = room.few in omega (arith, r));
      };
    }

pub forgotten-state : (a : Inside) (accepted : Vec AcceptedUpdate Global) (acked : AckOrder)
    (early : Vec PlacedUpdate Global) → AreSameUpdates a.accepted.items accepted.items → acked.versions ≡ [] → early.items ≡ []
    → (whole (record a { accepted = accepted; acked = acked; early = early })).state ≡ moved Forget (whole a).state
forgotten-state a accepted acked early same none_acked none_early =
    let line = same-newest_first [] a.accepted.items accepted.items same in
    λ j. record {
      marks = a.keeps_marks;
      base = kept_in a.key a.base;
      accepted = line j;
      floor = a.floor.0;
      acked = none_acked j;
      early = updates_of (none_early j);
    }

-- a pending update of the version, read at its place in the line
pub record IsRead (a : Inside) (v i : ℕ) (t : AcceptedUpdate) : Type 0 where
  pub within : i < length (pending_in a)
  pub read : t ≡ get_or (pending_in a) i t
  pub version : t.update.version.0 ≡ v

pub read-at : (a : Inside) (v i : ℕ) (t : AcceptedUpdate) → position (is_of_version v) (pending_in a) ≡ Some i
    → t ≡ get_or a.accepted.items (a.committed + i) t → IsRead a v i t
read-at a v i t p e =
    let at = position-Some (is_of_version v) (pending_in a) i t p in
    let read = e ∙ sym (get_or-drop a.committed a.accepted.items i t) in
    record {
      within = at.0;
      read = read;
      version = ap (λ (x : AcceptedUpdate). x.update.version.0) read ∙ eqb-true (get_or (pending_in a) i t).update.version.0 v at.1;
    }

-- whether a lower update waits
pub waits-any : (acked : List ℕ) (v : ℕ) (ts : List AcceptedUpdate)
    → AllByRecursion (λ (t : AcceptedUpdate). t.acknowledged ≡ list_any (λ w. eqb w t.update.version.0) acked) ts
    → list_any (is_waiting_below v) ts ≡ waits_below acked v (map update_of ts)
waits-any acked v [] h = refl
waits-any acked v (t ∷ rest) h = λ j. (ltb t.update.version.0 v && not (h.0 j)) || waits-any acked v rest h.1 j

-- what an acknowledgement is answered
pub ack-unknown : (s : KeyState) (v : ℕ) → is_pending v s ≡ false → an_ack.Unknown ≡ ack_answer s v
ack-unknown s v e = sym (cond-true (not (is_pending v s)) _ _ (ap not e))

pub ack-kept : (s : KeyState) (v : ℕ) → is_pending v s ≡ true → waits_below s.acked v (pending_of s) ≡ true → an_ack.Kept ≡ ack_answer s v
ack-kept s v e w = sym (cond-false (not (is_pending v s)) _ _ (ap not e) ∙ cond-true (waits_below s.acked v (pending_of s)) _ _ w)

pub ack-commits : (s : KeyState) (v n : ℕ) → is_pending v s ≡ true → waits_below s.acked v (pending_of s) ≡ false
    → n ≡ length (settled (moved (Acknowledge v) s)) → an_ack.Committed n ≡ ack_answer s v
ack-commits s v n e w r = ap an_ack.Committed r ∙ sym
    (cond-false (not (is_pending v s)) _ _ (ap not e) ∙ cond-false (waits_below s.acked v (pending_of s)) _ _ w)

-- the acknowledged updates at the front are some of them
pub front-within : (ts : List AcceptedUpdate) → front_acked ts ≤ length ts
front-within [] = omega arith
front-within (t ∷ rest) =
    let l = front-within rest in
    cond_both t.acknowledged (suc (front_acked rest)) zero (λ n. n ≤ length (t ∷ rest)) (λ e. omega (arith, l)) (λ e. omega arith)
