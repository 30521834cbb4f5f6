-- A copy of a slot that has forgotten acknowledgements and early updates.
use Rattle.std.proofs.Common.{◌≡◌, ℕ, zero, suc, ◌+◌, ◌<◌, false, List, [], ◌∷◌, ◌++◌, length, take, drop, get_or, Vec}
use Rattle.std.proofs.Common.{vec_len, ap, sym, ◌∙◌, subst, arith, add-one}
use Rattle.std.specs.List.{AllByRecursion}
use Rattle.std.specs.declared.alloc.Global.{Global}
use Rattle.hx_model.specs.Types.{Version}
use Rattle.hx_model.specs.Slots.{Forget, moved}
use Rattle.hx_slot.specs.declared.updates.PlacedUpdate.{PlacedUpdate}
use Rattle.hx_slot.specs.declared.ack_order.AckOrder.{AckOrder}
use Rattle.hx_slot.specs.declared.updates.AcceptedUpdate.{AcceptedUpdate}
use Rattle.hx_slot.specs.declared.slots.Slot.TheInside.{Inside}
use Rattle.hx_slot.specs.declared.bases.Base.{Base}
use Rattle.hx_slot.specs.Acks.{AreAcked, AreSameUpdates}
use Rattle.hx_slot.specs.Updates.{IsHeld}
use Rattle.hx_slot.specs.Invariant.{IsLine, IsSlot, whole, updates_of}
use Rattle.hx_slot.specs.Bases.{IsCopied, kept_in}
use Rattle.hx_slot.specs.States.{IsOrderly}
use Rattle.hx_slot.proofs.Acking.{acked-none}
use Rattle.hx_slot.proofs.Newest.{by_recursion-drop}
use Rattle.hx_slot.proofs.Refitting.{same-kept, same-provided}
use Rattle.hx_slot.proofs.SameUpdates.{same-length, same-line, same-newest_first}

-- one entry more on either side
pub same-push : (xs ys : List AcceptedUpdate) (x y : AcceptedUpdate) → AreSameUpdates xs ys → y.update ≡ x.update
    → y.keeps ≡ x.keeps → AreSameUpdates (xs ++ x ∷ []) (ys ++ y ∷ [])
same-push [] [] x y h u p = (u, p, tt)
same-push [] (b ∷ ys) x y h u p = absurd h
same-push (a ∷ xs) [] x y h u p = absurd h
same-push (a ∷ xs) (b ∷ ys) x y h u p = (h.0, h.1, same-push xs ys x y h.2 u p)

pub unmarked-push : (ys : List AcceptedUpdate) (y : AcceptedUpdate)
    → AllByRecursion (λ (t : AcceptedUpdate). t.acknowledged ≡ false) ys → y.acknowledged ≡ false
    → AllByRecursion (λ (t : AcceptedUpdate). t.acknowledged ≡ false) (ys ++ y ∷ [])
unmarked-push [] y h e = (e, tt)
unmarked-push (x ∷ ys) y h e = (h.0, unmarked-push ys y h.1 e)

take-one : (xs : List AcceptedUpdate) (i : ℕ) (x : AcceptedUpdate) → i < length xs → x ≡ get_or xs i x → take (suc i) xs ≡ take i xs ++ x ∷ []
take-one [] i x l e = absurd (omega arith)
take-one (y ∷ ys) zero x l e = ap (λ (z : AcceptedUpdate). z ∷ []) (sym e)
take-one (y ∷ ys) (suc i) x l e = ap (λ (zs : List AcceptedUpdate). y ∷ zs) (take-one ys i x (omega arith) e)

pub same-next : (xs ys : List AcceptedUpdate) (i : ℕ) (x y : AcceptedUpdate) → i < length xs → x ≡ get_or xs i x
    → AreSameUpdates (take i xs) ys → y.update ≡ x.update → y.keeps ≡ x.keeps → AreSameUpdates (take (i + 1) xs) (ys ++ y ∷ [])
same-next xs ys i x y l e h u p =
    subst (λ (zs : List AcceptedUpdate). AreSameUpdates zs (ys ++ y ∷ []))
    (sym (ap (λ n. take n xs) (add-one i) ∙ take-one xs i x l e)) (same-push (take i xs) ys x y h u p)

-- the slot with copies of its updates and no room for more
pub renewed-slot : (a : Inside) (key : List ℕ) (base : Base) (accepted : Vec AcceptedUpdate Global) (acked : AckOrder)
    (early : Vec PlacedUpdate Global) → IsSlot a → key ≡ a.key → IsCopied a.base base
    → AreSameUpdates a.accepted.items accepted.items → AllByRecursion (λ (t : AcceptedUpdate). t.acknowledged ≡ false) accepted.items
    → acked.versions ≡ [] → early.items ≡ [] → vec_len early ≡ 0
    → IsSlot (record a { key = key; base = base; accepted = accepted; acked = acked; early = early; spare = 0 })
renewed-slot a key base accepted acked early h same_key copied same unmarked none_acked none_early no_early =
    let ok = accepted.ok in
    let old = a.accepted.ok in
    let count = same-length a.accepted.items accepted.items same in
    let kept = (λ j. kept_in (same_key j) base) ∙ same-kept a.key a.base base copied in
    record {
      line = subst (λ (n : ℕ). IsLine a.region n accepted.items a.committed a.floor.0)
          (sym (ap (λ (v : Version). v.0) copied.floor)) (same-line h.line accepted.items same);
      base = subst IsOrderly (sym kept) h.base;
      bare = same-provided a.keeps_marks a.base.marks.items base.marks.items copied.marks h.bare;
      untouched = same-provided a.keeps_marks a.base.touches.items base.touches.items copied.touches h.untouched;
      acked = subst (λ (vs : List ℕ). AreAcked vs (drop a.committed accepted.items)) (sym none_acked)
          (acked-none (drop a.committed accepted.items)
          (by_recursion-drop (λ (t : AcceptedUpdate). t.acknowledged ≡ false) a.committed accepted.items unmarked));
      early = subst (AllByRecursion (IsHeld a.region)) (sym none_early) tt;
      room = record {
        accepted = omega (arith, ok.0, ok.1, no_early);
        early = (let e = early.ok in omega (arith, e.1, no_early));
        few = (let r = h.room.few in omega (arith, r, ok.0, old.0, count, no_early));
      };
    }

pub renewed-state : (a : Inside) (key : List ℕ) (base : Base) (accepted : Vec AcceptedUpdate Global)
    (acked : AckOrder) (early : Vec PlacedUpdate Global) → key ≡ a.key → IsCopied a.base base
    → AreSameUpdates a.accepted.items accepted.items → acked.versions ≡ [] → early.items ≡ []
    → (whole (record a { key = key; base = base; accepted = accepted; acked = acked; early = early; spare = 0 })).state ≡ moved Forget (whole a).state
renewed-state a key base accepted acked early same_key copied same none_acked none_early =
    let line = same-newest_first [] a.accepted.items accepted.items same in
    let kept = (λ j. kept_in (same_key j) base) ∙ same-kept a.key a.base base copied in
    λ j. record { marks = a.keeps_marks; base = kept j; accepted = line j; floor = a.floor.0; acked = none_acked j; early = updates_of (none_early j) }
